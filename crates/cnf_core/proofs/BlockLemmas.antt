-- Calls that make variables and add clauses, one after another or in a loop.
use Rattle.std.proofs.Common.{◌≡◌, ℕ, ◌+◌, ◌<◌, ◌≤◌, [], ◌++◌, sym, ◌∙◌, ap, subst, inl, inr, arith, append_assoc, append-nil, Ok, Err}
use Rattle.std.specs.Prelude.{◌-◌, Result, IsErr, IsErrOf}
use Rattle.cnf_core.specs.declared.fault.CnfFault.{CnfFault}
use Rattle.cnf_core.specs.declared.fault.CnfFault.TheVariants.{Room}
use Rattle.cnf_core.specs.Clause.{Clauses, words_of}
use Rattle.cnf_core.specs.Formula.{Cnf, each, count_each}
use Rattle.cnf_core.specs.Added.{AddsClauses, AddsBlock}
use Rattle.cnf_core.proofs.ClauseLemmas.{words_append}
use Rattle.cnf_core.proofs.StepLemmas.{grown, passes_more, passes_after, one_less}

-- a call that makes no variables
pub block_of_clauses : {T : Type 0} (r : Result T CnfFault) (old new : Cnf) (xs : Clauses) (longest : ℕ) → AddsClauses r old new xs longest →
    AddsBlock r old new 0 xs longest
block_of_clauses (Ok x) old new xs longest a = let v = a.vars in record {
  made = omega arith;
  added = a.added;
  passes = λ k. inr (a.passes k);
  full = λ k. inr (a.full k);
  words = a.words;
  from = omega arith;
  vars = omega arith;
  room = a.room;
}
block_of_clauses (Err e) old new xs longest a = let v = a.vars in record {
  made = tt;
  added = tt;
  passes = λ k. inr (a.passes k);
  full = λ k. inr (a.full k);
  words = a.words;
  from = omega arith;
  vars = omega arith;
  room = a.room;
}

-- the same answer, handed on with another value or as the same error
pub block_same : {T U : Type 0} (r : Result T CnfFault) (y : U) (old new : Cnf) (count : ℕ) (xs : Clauses) (longest : ℕ) (x : T) → r ≡ Ok x →
    AddsBlock r old new count xs longest → AddsBlock (Ok y) old new count xs longest
block_same r y old new count xs longest x e a = let b = subst (λ s. AddsBlock s old new count xs longest) e a in record {
  made = b.made;
  added = b.added;
  passes = λ k. cc;
  full = λ k. cc;
  words = b.words;
  from = b.from;
  vars = b.vars;
  room = b.room;
}

pub block_longer : {T : Type 0} (r : Result T CnfFault) (old new : Cnf) (count : ℕ) (xs : Clauses) (shorter longest : ℕ) → shorter ≤ longest →
    AddsBlock r old new count xs shorter → AddsBlock r old new count xs longest
block_longer r old new count xs shorter longest le a = record {
  made = a.made;
  added = a.added;
  passes = a.passes;
  full = λ k. elim (a.full k) [ inl many ↦ inl many | inr f ↦ inr (omega arith) ];
  words = a.words;
  from = a.from;
  vars = a.vars;
  room = a.room;
}

-- the first of two calls was refused, and so the whole is
pub block_refused : {T U : Type 0} (r : Result T CnfFault) (s : Result U CnfFault) (old new : Cnf) (m n : ℕ) (xs ys : Clauses) (longest : ℕ) → IsErr s →
    (IsErrOf s Room → IsErrOf r Room) → AddsBlock r old new m xs longest → AddsBlock s old new (m + n) (xs ++ ys) longest
block_refused r (Ok y) old new m n xs ys longest err same a = absurd (cc)
block_refused r (Err e) old new m n xs ys longest err same a = let from = a.from in let vars = a.vars in record {
  made = tt;
  added = tt;
  passes = λ k. elim (a.passes (same k)) [ inl many ↦ inl (omega arith) | inr p ↦ inr (passes_more old xs ys p) ];
  full = λ k. elim (a.full (same k)) [ inl many ↦ inl (omega arith) | inr f ↦ inr f ];
  words = omega (arith, a.words, words_append xs ys);
  from = from;
  vars = omega arith;
  room = a.room;
}

pub block_fault : {T U : Type 0} (r : Result T CnfFault) (s : Result U CnfFault) (old new : Cnf) (count : ℕ) (xs : Clauses) (longest : ℕ) → IsErr s →
    (IsErrOf s Room → IsErrOf r Room) → AddsBlock r old new count xs longest → AddsBlock s old new count xs longest
block_fault r s old new count xs longest err same a =
    let z : count + 0 ≡ count = omega arith in
    let b = block_refused r s old new count 0 xs [] longest err same a in
    subst (λ n. AddsBlock s old new n xs longest) z (subst (λ (cs : Clauses). AddsBlock s old new (count + 0) cs longest) (append-nil xs) b)

-- the second call behind the first
pub block_after : {T U : Type 0} (x : T) (r : Result U CnfFault) (old mid new : Cnf) (m n : ℕ) (xs ys : Clauses) (longest : ℕ) →
    AddsBlock (Ok x) old mid m xs longest → AddsBlock r mid new n ys longest → AddsBlock r old new (m + n) (xs ++ ys) longest
block_after x (Ok y) old mid new m n xs ys longest a b =
    let made = a.made in
    let more = b.made in
    record {
      made = omega arith;
      added = b.added ∙ ap (λ (z : Clauses). z ++ ys) a.added ∙ append_assoc old.clauses xs ys;
      passes = λ k. cc;
      full = λ k. cc;
      words = omega (arith, a.words, b.words, words_append xs ys);
      from = omega arith;
      vars = omega arith;
      room = b.room ∙ a.room;
    }
block_after x (Err f) old mid new m n xs ys longest a b =
    let made = a.made in
    let from = b.from in
    let vars = b.vars in
    record {
      made = tt;
      added = tt;
      passes = λ k. elim (b.passes k) [ inl many ↦ inl (omega arith) | inr p ↦ inr (passes_after old mid xs ys a.room a.added p) ];
      full = λ k. elim (b.full k) [ inl many ↦ inl (omega arith) | inr p ↦ inr p ];
      words = omega (arith, a.words, b.words, words_append xs ys);
      from = omega arith;
      vars = omega arith;
      room = b.room ∙ a.room;
    }

-- a loop that makes count k variables and adds f k for each number k below end
pub record IsBuilding (count : ℕ → ℕ) (f : ℕ → Clauses) (old now : Cnf) (total : ℕ) (clauses : Clauses) (k end : ℕ) : Type 0 where
  pub vars : now.vars + count_each count k (end - k) ≡ old.vars + total
  pub from : old.vars ≤ now.vars
  pub left : now.clauses ++ each f k (end - k) ≡ old.clauses ++ clauses
  pub room : now.room ≡ old.room

count_next : (count : ℕ → ℕ) (k end : ℕ) → k < end → count_each count k (end - k) ≡ count k + count_each count (k + 1) (end - (k + 1))
count_next count k end h = ap (λ n. count_each count k n) (one_less k end h)

pub building_more : {T : Type 0} (x : T) (count : ℕ → ℕ) (f : ℕ → Clauses) (old now new : Cnf) (total : ℕ) (clauses : Clauses) (k end longest : ℕ) → k < end →
    IsBuilding count f old now total clauses k end → AddsBlock (Ok x) now new (count k) (f k) longest → IsBuilding count f old new total clauses (k + 1) end
building_more x count f old now new total clauses k end longest h a b = record {
  vars = let made = b.made in let v = a.vars in omega (arith, count_next count k end h);
  from = let low = a.from in let more = b.from in omega arith;
  left = ap (λ (z : Clauses). z ++ each f (k + 1) (end - (k + 1))) b.added ∙ append_assoc now.clauses (f k) (each f (k + 1) (end - (k + 1)))
      ∙ (rw (one_less k end h) at a.left);
  room = b.room ∙ a.room;
}

pub building_done : {T : Type 0} (x : T) (count : ℕ → ℕ) (f : ℕ → Clauses) (old now : Cnf) (total : ℕ) (clauses : Clauses) (k end longest : ℕ) → end ≤ k →
    IsBuilding count f old now total clauses k end → AddsBlock (Ok x) old now total clauses longest
building_done x count f old now total clauses k end longest h a =
    let z : end - k ≡ 0 = omega arith in
    let e : now.clauses ≡ old.clauses ++ clauses = sym (append-nil now.clauses) ∙ (rw z at a.left) in
    let none : count_each count k (end - k) ≡ 0 = ap (λ n. count_each count k n) z in
    let v = a.vars in
    let grew = a.from in
    record {
      made = omega arith;
      added = e;
      passes = λ r. cc;
      full = λ r. cc;
      words = grown old.clauses now.clauses clauses e;
      from = omega arith;
      vars = omega arith;
      room = a.room;
    }

pub building_refused : {T U : Type 0} (r : Result T CnfFault) (s : Result U CnfFault) (count : ℕ → ℕ) (f : ℕ → Clauses) (old now new : Cnf) (total : ℕ)
    (clauses : Clauses) (k end longest : ℕ) → IsErr s → (IsErrOf s Room → IsErrOf r Room) → k < end → IsBuilding count f old now total clauses k end →
    AddsBlock r now new (count k) (f k) longest → AddsBlock s old new total clauses longest
building_refused r (Ok y) count f old now new total clauses k end longest err same h a b = absurd (cc)
building_refused r (Err g) count f old now new total clauses k end longest err same h a b =
    let rest = each f (k + 1) (end - (k + 1)) in
    let e : now.clauses ++ (f k ++ rest) ≡ old.clauses ++ clauses = rw (one_less k end h) at a.left in
    let s : words_of (now.clauses ++ (f k ++ rest)) ≡ words_of (old.clauses ++ clauses) = ap words_of e in
    let q = a.room in
    let v = a.vars in
    let next = count_next count k end h in
    let grew = a.from in
    let from = b.from in
    let vars = b.vars in
    let sums = words_append now.clauses (f k ++ rest) in
    let parts = words_append (f k) rest in
    let whole = words_append old.clauses clauses in
    let one = words_append now.clauses (f k) in
    record {
      made = tt;
      added = tt;
      passes = λ m. elim (b.passes (same m)) [ inl many ↦ inl (omega arith) | inr p ↦ inr (omega arith) ];
      full = λ m. elim (b.full (same m)) [ inl many ↦ inl (omega arith) | inr p ↦ inr p ];
      words = let w = b.words in omega arith;
      from = omega arith;
      vars = omega arith;
      room = b.room ∙ q;
    }
