-- Calls that add clauses, one after another or in a loop.
use Rattle.std.proofs.Common.{◌≡◌, ℕ, ◌+◌, ◌<◌, ◌≤◌, suc, List, [], ◌∷◌, ◌++◌, length, refl, sym, ◌∙◌, ap, subst, arith, append_assoc, append-nil, Ok, Err}
use Rattle.std.specs.Prelude.{◌-◌, Result, OnOk, OnErr, IsErr, IsErrOf}
use Rattle.cnf_core.specs.declared.fault.CnfFault.{CnfFault}
use Rattle.cnf_core.specs.declared.fault.CnfFault.TheVariants.{Room}
use Rattle.cnf_core.specs.Lit.{Literal}
use Rattle.cnf_core.specs.Clause.{Clauses, words_of}
use Rattle.cnf_core.specs.Formula.{Cnf, Passes, Full, each}
use Rattle.cnf_core.specs.Added.{AddsClauses}
use Rattle.cnf_core.proofs.ClauseLemmas.{words_append}

-- words and room of more clauses
pub grown : (old new xs : Clauses) → new ≡ old ++ xs → words_of new ≤ words_of old + words_of xs
grown old new xs e = let s : words_of new ≡ words_of (old ++ xs) = ap words_of e in omega (arith, words_append old xs)

pub full_passes : (f : Cnf) (c : List Literal) → Full f (length c) → Passes f (c ∷ [])
full_passes f c h = omega (arith, words_append f.clauses (c ∷ []))

pub passes_more : (f : Cnf) (xs ys : Clauses) → Passes f xs → Passes f (xs ++ ys)
passes_more f xs ys h = omega (arith, words_append f.clauses xs, words_append f.clauses (xs ++ ys), words_append xs ys)

pub passes_after : (old mid : Cnf) (xs ys : Clauses) → mid.room ≡ old.room → mid.clauses ≡ old.clauses ++ xs → Passes mid ys → Passes old (xs ++ ys)
passes_after old mid xs ys r e p =
    let s : words_of (mid.clauses ++ ys) ≡ words_of (old.clauses ++ (xs ++ ys)) = ap (λ (z : Clauses). words_of (z ++ ys)) e
    ∙ ap words_of (append_assoc old.clauses xs ys) in
    omega arith

-- nothing to add
pub adds_nothing : {T : Type 0} (x : T) (f : Cnf) (longest : ℕ) → AddsClauses (Ok x) f f [] longest
adds_nothing x f longest = record {
  added = sym (append-nil f.clauses);
  passes = λ e. cc;
  full = λ e. cc;
  words = omega arith;
  vars = refl;
  room = refl;
}

-- the same answer, handed on with another value or as the same error
pub adds_same : {T U : Type 0} (r : Result T CnfFault) (y : U) (old new : Cnf) (xs : Clauses) (longest : ℕ) (x : T) → r ≡ Ok x →
    AddsClauses r old new xs longest → AddsClauses (Ok y) old new xs longest
adds_same r y old new xs longest x e a = let b = subst (λ s. AddsClauses s old new xs longest) e a in record {
  added = b.added;
  passes = λ k. cc;
  full = λ k. cc;
  words = b.words;
  vars = b.vars;
  room = b.room;
}

pub adds_fault : {T U : Type 0} (r : Result T CnfFault) (s : Result U CnfFault) (old new : Cnf) (xs : Clauses) (longest : ℕ) → IsErr s →
    (IsErrOf s Room → IsErrOf r Room) → AddsClauses r old new xs longest → AddsClauses s old new xs longest
adds_fault r (Ok y) old new xs longest err same a = absurd (cc)
adds_fault r (Err e) old new xs longest err same a = record {
  added = tt;
  passes = λ k. a.passes (same k);
  full = λ k. a.full (same k);
  words = a.words;
  vars = a.vars;
  room = a.room;
}

pub adds_longer : {T : Type 0} (r : Result T CnfFault) (old new : Cnf) (xs : Clauses) (shorter longest : ℕ) → shorter ≤ longest →
    AddsClauses r old new xs shorter → AddsClauses r old new xs longest
adds_longer r old new xs shorter longest le a = record {
  added = a.added;
  passes = a.passes;
  full = λ k. let f = a.full k in omega arith;
  words = a.words;
  vars = a.vars;
  room = a.room;
}

-- one clause, as it is added exactly
pub added_one : {T : Type 0} (r : Result T CnfFault) (old new : Cnf) (c : List Literal) → OnOk r (new ≡ record old { clauses = old.clauses ++ c ∷ [] }) →
    (IsErrOf r Room → Full old (length c)) → OnErr r (new ≡ old) → AddsClauses r old new (c ∷ []) (length c)
added_one (Ok x) old new c ok room err =
    let e = ap (λ (f : Cnf). f.clauses) ok in
    record {
      added = e;
      passes = λ k. cc;
      full = λ k. cc;
      words = grown old.clauses new.clauses (c ∷ []) e;
      vars = ap (λ (f : Cnf). f.vars) ok;
      room = ap (λ (f : Cnf). f.room) ok;
    }
added_one (Err e) old new c ok room err = record {
  added = tt;
  passes = λ k. full_passes old c (room k);
  full = λ k. subst (λ (f : Cnf). Full f (length c)) (sym err) (room k);
  words = let w = ap (λ (f : Cnf). words_of f.clauses) err in omega arith;
  vars = ap (λ (f : Cnf). f.vars) err;
  room = ap (λ (f : Cnf). f.room) err;
}

-- the first of two calls was refused, and so the whole is
pub adds_refused : {T U : Type 0} (r : Result T CnfFault) (s : Result U CnfFault) (old new : Cnf) (xs ys : Clauses) (longest : ℕ) → IsErr s →
    (IsErrOf s Room → IsErrOf r Room) → AddsClauses r old new xs longest → AddsClauses s old new (xs ++ ys) longest
adds_refused r (Ok y) old new xs ys longest err same a = absurd (cc)
adds_refused r (Err e) old new xs ys longest err same a = record {
  added = tt;
  passes = λ k. passes_more old xs ys (a.passes (same k));
  full = λ k. a.full (same k);
  words = omega (arith, a.words, words_append xs ys);
  vars = a.vars;
  room = a.room;
}

-- the second call behind the first
pub adds_after : {T U : Type 0} (x : T) (r : Result U CnfFault) (old mid new : Cnf) (xs ys : Clauses) (longest : ℕ) → AddsClauses (Ok x) old mid xs longest →
    AddsClauses r mid new ys longest → AddsClauses r old new (xs ++ ys) longest
adds_after x (Ok y) old mid new xs ys longest a b = record {
  added = b.added ∙ ap (λ (z : Clauses). z ++ ys) a.added ∙ append_assoc old.clauses xs ys;
  passes = λ k. cc;
  full = λ k. cc;
  words = omega (arith, a.words, b.words, words_append xs ys);
  vars = b.vars ∙ a.vars;
  room = b.room ∙ a.room;
}
adds_after x (Err f) old mid new xs ys longest a b = record {
  added = tt;
  passes = λ k. passes_after old mid xs ys a.room a.added (b.passes k);
  full = b.full;
  words = omega (arith, a.words, b.words, words_append xs ys);
  vars = b.vars ∙ a.vars;
  room = b.room ∙ a.room;
}

-- a loop that adds f k for each number k below end: what is there, and what is left
pub record IsAdding (f : ℕ → Clauses) (old now : Cnf) (total : Clauses) (k end : ℕ) : Type 0 where
  pub left : now.clauses ++ each f k (end - k) ≡ old.clauses ++ total
  pub vars : now.vars ≡ old.vars
  pub room : now.room ≡ old.room

pub adding_first : (f : ℕ → Clauses) (old : Cnf) (first n : ℕ) → IsAdding f old old (each f first n) first (first + n)
adding_first f old first n = let z : first + n - first ≡ n = omega arith in record {
  left = ap (λ m. old.clauses ++ each f first m) z;
  vars = refl;
  room = refl;
}

pub one_less : (k end : ℕ) → k < end → end - k ≡ suc (end - (k + 1))
one_less k end h = omega arith

pub adding_more : {T : Type 0} (x : T) (f : ℕ → Clauses) (old now new : Cnf) (total : Clauses) (k end longest : ℕ) → k < end → IsAdding f old now total k end →
    AddsClauses (Ok x) now new (f k) longest → IsAdding f old new total (k + 1) end
adding_more x f old now new total k end longest h a b = record {
  left = ap (λ (z : Clauses). z ++ each f (k + 1) (end - (k + 1))) b.added ∙ append_assoc now.clauses (f k) (each f (k + 1) (end - (k + 1)))
      ∙ (rw (one_less k end h) at a.left);
  vars = b.vars ∙ a.vars;
  room = b.room ∙ a.room;
}

pub adding_done : {T : Type 0} (x : T) (f : ℕ → Clauses) (old now : Cnf) (total : Clauses) (k end longest : ℕ) → end ≤ k → IsAdding f old now total k end →
    AddsClauses (Ok x) old now total longest
adding_done x f old now total k end longest h a =
    let z : end - k ≡ 0 = omega arith in
    let e : now.clauses ≡ old.clauses ++ total = sym (append-nil now.clauses) ∙ (rw z at a.left) in
    record {
      added = e;
      passes = λ r. cc;
      full = λ r. cc;
      words = grown old.clauses now.clauses total e;
      vars = a.vars;
      room = a.room;
    }

pub adding_refused : {T U : Type 0} (r : Result T CnfFault) (s : Result U CnfFault) (f : ℕ → Clauses) (old now new : Cnf) (total : Clauses) (k end longest : ℕ)
    → IsErr s → (IsErrOf s Room → IsErrOf r Room) → k < end → IsAdding f old now total k end → AddsClauses r now new (f k) longest →
    AddsClauses s old new total longest
adding_refused r (Ok y) f old now new total k end longest err same h a b = absurd (cc)
adding_refused r (Err g) f old now new total k end longest err same h a b =
    let rest = each f (k + 1) (end - (k + 1)) in
    let e : now.clauses ++ (f k ++ rest) ≡ old.clauses ++ total = rw (one_less k end h) at a.left in
    let s : words_of (now.clauses ++ (f k ++ rest)) ≡ words_of (old.clauses ++ total) = ap words_of e in
    let q = a.room in
    let sums = words_append now.clauses (f k ++ rest) in
    let parts = words_append (f k) rest in
    let whole = words_append old.clauses total in
    let one = words_append now.clauses (f k) in
    record {
      added = tt;
      passes = λ m. let p = b.passes (same m) in omega arith;
      full = λ m. b.full (same m);
      words = let w = b.words in omega arith;
      vars = b.vars ∙ a.vars;
      room = b.room ∙ q;
    }
