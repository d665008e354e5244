-- What the calls that add a law to choose leave behind.
use Rattle.std.proofs.Common.{◌≡◌, ℕ, zero, suc, ◌+◌, ◌≤◌, ◌<◌, true, false, List, [], ◌∷◌, ◌++◌, length, refl, sym, ◌∙◌, ap, inl, inr, arith, get_or, drop}
use Rattle.std.proofs.Common.{drop-cons, map, append-nil, append_assoc, Ok, Err}
use Rattle.std.specs.Prelude.{Result, IsErr, IsErrOf}
use Rattle.cnf_core.specs.declared.fault.CnfFault.{CnfFault}
use Rattle.cnf_core.specs.declared.fault.CnfFault.TheVariants.{Room}
use Rattle.cnf_core.specs.declared.limits.TheConstants.{VARS}
use Rattle.cnf_core.specs.Lit.{Literal, literal, positive_of, negative_of}
use Rattle.cnf_core.specs.Clause.{Clauses, words_of}
use Rattle.cnf_core.specs.Formula.{Cnf, Full}
use Rattle.cnf_core.specs.Added.{AddsBlock}
use Rattle.std.proofs.lemmas.List.{length-map, get_or-map as at_map}
use Rattle.plan_core.specs.Graph.{Graph}
use Rattle.plan_core.specs.Lawful.{Instance}
use Rattle.cnf_core.proofs.ClauseLemmas.{words_append}
use Rattle.cnf_core.proofs.StepLemmas.{grown}
use Rattle.drawing_cnf.specs.Stands.{DrawingVars}
use Rattle.law_core.specs.declared.parties.Law.{Law}
use Rattle.law_core.specs.Law.{instance_of}
use Rattle.law_core.specs.Choices.{choice_size, choice_clauses, choices_size, choices_clauses}

pub selector_ok : {T : Type 0} (y : T) (old mid new : Cnf) (c : List Literal) (longest : ℕ) → mid ≡ record old { vars = old.vars + 2 } →
    new ≡ record mid { clauses = mid.clauses ++ c ∷ [] } → AddsBlock (Ok y) old new 2 (c ∷ []) longest
selector_ok y old mid new c longest em en =
    let vars : new.vars ≡ old.vars + 2 = ap (λ (f : Cnf). f.vars) en ∙ ap (λ (f : Cnf). f.vars) em in
    let same : mid.clauses ≡ old.clauses = ap (λ (f : Cnf). f.clauses) em in
    let added : new.clauses ≡ old.clauses ++ c ∷ [] = ap (λ (f : Cnf). f.clauses) en ∙ ap (λ (cs : Clauses). cs ++ c ∷ []) same in
    let words : words_of new.clauses ≡ words_of (old.clauses ++ c ∷ []) = ap words_of added in
    let sum = words_append old.clauses (c ∷ []) in
    record {
      made = vars;
      added = added;
      passes = λ k. cc;
      full = λ k. cc;
      words = omega arith;
      from = omega arith;
      vars = omega arith;
      room = ap (λ (f : Cnf). f.room) en ∙ ap (λ (f : Cnf). f.room) em;
    }

pub selector_no_vars : {T : Type 0} (s : Result T CnfFault) (old new : Cnf) (c : List Literal) (longest : ℕ) → IsErr s →
    (IsErrOf s Room → VARS < old.vars + 2) → new ≡ old → AddsBlock s old new 2 (c ∷ []) longest
selector_no_vars (Ok y) old new c longest err room e = absurd (cc)
selector_no_vars (Err x) old new c longest err room e =
    let vars : new.vars ≡ old.vars = ap (λ (f : Cnf). f.vars) e in
    let words : words_of new.clauses ≡ words_of old.clauses = ap (λ (f : Cnf). words_of f.clauses) e in
    record {
      made = tt;
      added = tt;
      passes = λ k. inl (room k);
      full = λ k. inl (room k);
      words = omega arith;
      from = omega arith;
      vars = omega arith;
      room = ap (λ (f : Cnf). f.room) e;
    }

pub selector_no_room : {T : Type 0} (s : Result T CnfFault) (old mid new : Cnf) (c : List Literal) (longest : ℕ) → length c ≤ longest → IsErr s →
    (IsErrOf s Room → Full mid (length c)) → mid ≡ record old { vars = old.vars + 2 } → new ≡ mid → AddsBlock s old new 2 (c ∷ []) longest
selector_no_room (Ok y) old mid new c longest le err room em e = absurd (cc)
selector_no_room (Err x) old mid new c longest le err room em e =
    let vars : new.vars ≡ old.vars + 2 = ap (λ (f : Cnf). f.vars) e ∙ ap (λ (f : Cnf). f.vars) em in
    let words : words_of new.clauses ≡ words_of old.clauses = ap (λ (f : Cnf). words_of f.clauses) e ∙ ap (λ (f : Cnf). words_of f.clauses) em in
    let mid_words : words_of mid.clauses ≡ words_of old.clauses = ap (λ (f : Cnf). words_of f.clauses) em in
    let mid_room : mid.room ≡ old.room = ap (λ (f : Cnf). f.room) em in
    let new_room : new.room ≡ mid.room = ap (λ (f : Cnf). f.room) e in
    let sum = words_append old.clauses (c ∷ []) in
    record {
      made = tt;
      added = tt;
      passes = λ k. inr (let full = room k in omega arith);
      full = λ k. inr (let full = room k in omega arith);
      words = omega arith;
      from = omega arith;
      vars = omega arith;
      room = new_room ∙ mid_room;
    }

pub same_pair : (vars first : ℕ) (off spare : Literal) → first ≡ vars + 1 → off ≡ literal first false → spare ≡ literal (first + 1) true →
    (off ∷ spare ∷ []) ≡ (negative_of (vars + 1) ∷ positive_of (vars + 1 + 1) ∷ [])
same_pair vars first off spare at a b =
    let next : first + 1 ≡ vars + 1 + 1 = omega arith in
    ap (λ x. x ∷ spare ∷ []) (a ∙ ap (λ k. literal k false) at) ∙ ap (λ y. negative_of (vars + 1) ∷ y ∷ []) (b ∙ ap (λ k. literal k true) next)

-- ---- a loop over laws

-- the laws from place k on are left to add
pub record IsChoosing (g : Graph) (x : DrawingVars) (width : ℕ) (old now : Cnf) (all : List Instance) (k : ℕ) : Type 0 where
  pub vars : now.vars + choices_size (drop k all) ≡ old.vars + choices_size all
  pub from : old.vars ≤ now.vars
  pub left : now.clauses ++ choices_clauses g x width (now.vars + 1) (drop k all) ≡ old.clauses ++ choices_clauses g x width (old.vars + 1) all
  pub room : now.room ≡ old.room

pub choosing_first : (g : Graph) (x : DrawingVars) (width : ℕ) (old : Cnf) (all : List Instance) → IsChoosing g x width old old all 0
choosing_first g x width old all = record { vars = refl; from = omega arith; left = refl; room = refl }

pub next_is : (all : List Instance) (k : ℕ) (i : Instance) → k < length all → get_or all k i ≡ i → drop k all ≡ i ∷ drop (k + 1) all
next_is all k i lt is = let e : suc k ≡ k + 1 = omega arith in drop-cons all k i lt ∙ ap (λ j. j ∷ drop (suc k) all) is ∙ ap (λ n. i ∷ drop n all) e

pub choosing_more : {T : Type 0} (y : T) (g : Graph) (x : DrawingVars) (width : ℕ) (old now new : Cnf) (all : List Instance) (k : ℕ) (i : Instance)
    (longest : ℕ) → k < length all → get_or all k i ≡ i → IsChoosing g x width old now all k →
    AddsBlock (Ok y) now new (choice_size i) (choice_clauses g x width i (now.vars + 1)) longest → IsChoosing g x width old new all (k + 1)
choosing_more y g x width old now new all k i longest lt is a b =
    let rest = drop (k + 1) all in
    let made : new.vars ≡ now.vars + choice_size i = b.made in
    let place : new.vars + 1 ≡ now.vars + 1 + choice_size i = omega arith in
    let next : drop k all ≡ i ∷ rest = next_is all k i lt is in
    let sizes : choices_size (drop k all) ≡ choice_size i + choices_size rest = ap choices_size next in
    let here = choice_clauses g x width i (now.vars + 1) in
    record {
      vars = let v = a.vars in omega arith;
      from = let low = a.from in omega arith;
      left = ap (λ (z : Clauses). z ++ choices_clauses g x width (new.vars + 1) rest) b.added
          ∙ append_assoc now.clauses here (choices_clauses g x width (new.vars + 1) rest)
          ∙ ap (λ n. now.clauses ++ (here ++ choices_clauses g x width n rest)) place
          ∙ ap (λ (l : List Instance). now.clauses ++ choices_clauses g x width (now.vars + 1) l) (sym next)
          ∙ a.left;
      room = b.room ∙ a.room;
    }

nothing_after : (all : List Instance) (k : ℕ) → length all ≤ k → drop k all ≡ []
nothing_after [] zero le = refl
nothing_after [] (suc k) le = refl
nothing_after (i ∷ all) zero le = absurd (omega (arith, le))
nothing_after (i ∷ all) (suc k) le = nothing_after all k (omega (arith, le))

pub choosing_done : {T : Type 0} (y : T) (g : Graph) (x : DrawingVars) (width : ℕ) (old now : Cnf) (all : List Instance) (k longest : ℕ) → length all ≤ k →
    IsChoosing g x width old now all k → AddsBlock (Ok y) old now (choices_size all) (choices_clauses g x width (old.vars + 1) all) longest
choosing_done y g x width old now all k longest le a =
    let none = nothing_after all k le in
    let sizes : choices_size (drop k all) ≡ 0 = ap choices_size none in
    let e : now.clauses ≡ old.clauses ++ choices_clauses g x width (old.vars + 1) all = sym (append-nil now.clauses)
    ∙ ap (λ (l : List Instance). now.clauses ++ choices_clauses g x width (now.vars + 1) l) (sym none) ∙ a.left in
    let v = a.vars in
    let low = a.from in
    record {
      made = omega arith;
      added = e;
      passes = λ r. cc;
      full = λ r. cc;
      words = grown old.clauses now.clauses (choices_clauses g x width (old.vars + 1) all) e;
      from = low;
      vars = omega arith;
      room = a.room;
    }

pub choosing_refused : {T U : Type 0} (r : Result T CnfFault) (s : Result U CnfFault) (g : Graph) (x : DrawingVars) (width : ℕ) (old now new : Cnf)
    (all : List Instance) (k : ℕ) (i : Instance) (longest : ℕ) → IsErr s → (IsErrOf s Room → IsErrOf r Room) → k < length all → get_or all k i ≡ i →
    IsChoosing g x width old now all k →
    AddsBlock r now new (choice_size i) (choice_clauses g x width i (now.vars + 1)) longest →
    AddsBlock s old new (choices_size all) (choices_clauses g x width (old.vars + 1) all) longest
choosing_refused r (Ok y) g x width old now new all k i longest err same lt is a b = absurd (cc)
choosing_refused r (Err q) g x width old now new all k i longest err same lt is a b =
    let rest = drop (k + 1) all in
    let next : drop k all ≡ i ∷ rest = next_is all k i lt is in
    let sizes : choices_size (drop k all) ≡ choice_size i + choices_size rest = ap choices_size next in
    let here = choice_clauses g x width i (now.vars + 1) in
    let more = choices_clauses g x width (now.vars + 1 + choice_size i) rest in
    let whole = choices_clauses g x width (old.vars + 1) all in
    let e : now.clauses ++ (here ++ more) ≡ old.clauses ++ whole = ap (λ (l : List Instance). now.clauses ++ choices_clauses g x width (now.vars + 1) l)
    (sym next) ∙ a.left in
    let s : words_of (now.clauses ++ (here ++ more)) ≡ words_of (old.clauses ++ whole) = ap words_of e in
    let q = a.room in
    let v = a.vars in
    let low = a.from in
    let from = b.from in
    let vars = b.vars in
    let sums = words_append now.clauses (here ++ more) in
    let parts = words_append here more in
    let all_words = words_append old.clauses whole in
    let one = words_append now.clauses here in
    record {
      made = tt;
      added = tt;
      passes = λ m. elim (b.passes (same m)) [ inl many ↦ inl (omega arith) | inr p ↦ inr (omega arith) ];
      full = λ m. elim (b.full (same m)) [ inl many ↦ inl (omega arith) | inr p ↦ inr (omega arith) ];
      words = let w = b.words in omega arith;
      from = omega arith;
      vars = omega arith;
      room = b.room ∙ q;
    }

-- the law at a place of the code's list
pub law_there : (laws : List Law) (k : ℕ) (d : Law) → k < length laws →
    (k < length (map instance_of laws)) × (get_or (map instance_of laws) k (instance_of (get_or laws k d)) ≡ instance_of (get_or laws k d))
law_there laws k d lt = (let n = length-map laws instance_of in omega arith, at_map instance_of laws k d (instance_of (get_or laws k d)) lt)

pub laws_over : (laws : List Law) (k : ℕ) → length laws ≤ k → length (map instance_of laws) ≤ k
laws_over laws k le = let n = length-map laws instance_of in omega arith
