-- Loops over instances: each call adds a list of them, with new variables behind those there.
use Rattle.std.proofs.Common.{◌≡◌, ℕ, ◌+◌, ◌-◌, ◌<◌, ◌≤◌, List, [], ◌∷◌, ◌++◌, refl, sym, ◌∙◌, ap, subst, arith, append_assoc, append-nil, inl, inr, Ok, Err}
use Rattle.std.specs.Prelude.{Result, IsErr, IsErrOf}
use Rattle.plan_core.specs.Graph.{Graph}
use Rattle.plan_core.specs.Lawful.{Instance}
use Rattle.cnf_core.specs.declared.fault.CnfFault.{CnfFault}
use Rattle.cnf_core.specs.declared.fault.CnfFault.TheVariants.{Room}
use Rattle.cnf_core.specs.Clause.{Clauses, words_of}
use Rattle.cnf_core.specs.Formula.{Cnf}
use Rattle.cnf_core.specs.Added.{AddsBlock}
use Rattle.cnf_core.proofs.ClauseLemmas.{words_append}
use Rattle.cnf_core.proofs.StepLemmas.{one_less, grown, adds_longer}
use Rattle.cnf_core.proofs.BlockLemmas.{block_refused, block_after, block_of_clauses}
use Rattle.cnf_laws.specs.Stands.{DrawingVars}
use Rattle.cnf_laws.specs.LawClauses.{instance_size, instance_clauses, laws_size, laws_clauses}
use Rattle.cnf_laws.specs.Expected.{instances_from}
use Rattle.cnf_laws.specs.AddsLaws.{AddsLaws}

pub size_append : (g : Graph) (xs ys : List Instance) → laws_size g (xs ++ ys) ≡ laws_size g xs + laws_size g ys
size_append g [] ys = omega arith
size_append g (i ∷ xs) ys = omega (arith, size_append g xs ys)

pub laws_append : (g : Graph) (x : DrawingVars) (width first : ℕ) (xs ys : List Instance) →
    laws_clauses g x width first (xs ++ ys) ≡ laws_clauses g x width first xs ++ laws_clauses g x width (first + laws_size g xs) ys
laws_append g x width first [] ys = let z : first ≡ first + 0 = omega arith in ap (λ k. laws_clauses g x width k ys) z
laws_append g x width first (i ∷ xs) ys =
    let one = instance_clauses g x width i first [] in
    let z : first + instance_size g i + laws_size g xs ≡ first + (instance_size g i + laws_size g xs) = omega arith in
    ap (λ (cs : Clauses). one ++ cs) (laws_append g x width (first + instance_size g i) xs ys
    ∙ ap (λ k. laws_clauses g x width (first + instance_size g i) xs ++ laws_clauses g x width k ys) z)
    ∙ sym (append_assoc one (laws_clauses g x width (first + instance_size g i) xs) (laws_clauses g x width (first + (instance_size g i + laws_size g xs)) ys))

-- one instance
pub one_law : {T : Type 0} (r : Result T CnfFault) (old new : Cnf) (g : Graph) (x : DrawingVars) (width : ℕ) (i : Instance) (longest : ℕ) →
    AddsBlock r old new (instance_size g i) (instance_clauses g x width i (old.vars + 1) []) longest → AddsLaws r old new g x width (i ∷ []) longest
one_law r old new g x width i longest h =
    let z : instance_size g i ≡ instance_size g i + 0 = omega arith in
    subst (λ (cs : Clauses). AddsBlock r old new (instance_size g i + 0) cs longest) (sym (append-nil (instance_clauses g x width i (old.vars + 1) [])))
    (subst (λ n. AddsBlock r old new n (instance_clauses g x width i (old.vars + 1) []) longest) z h)

-- a loop that adds the list f k for each number k below end
pub record IsLawing (g : Graph) (x : DrawingVars) (width : ℕ) (f : ℕ → List Instance) (old now : Cnf) (all : List Instance) (k end : ℕ) : Type 0 where
  pub vars : now.vars + laws_size g (instances_from f k (end - k)) ≡ old.vars + laws_size g all
  pub from : old.vars ≤ now.vars
  pub left : now.clauses ++ laws_clauses g x width (now.vars + 1) (instances_from f k (end - k)) ≡ old.clauses ++ laws_clauses g x width (old.vars + 1) all
  pub room : now.room ≡ old.room

pub lawing_more : {T : Type 0} (y : T) (g : Graph) (x : DrawingVars) (width : ℕ) (f : ℕ → List Instance) (old now new : Cnf) (all : List Instance)
    (k end longest : ℕ) → k < end → IsLawing g x width f old now all k end → AddsLaws (Ok y) now new g x width (f k) longest →
    IsLawing g x width f old new all (k + 1) end
lawing_more y g x width f old now new all k end longest lt a b =
    let rest = instances_from f (k + 1) (end - (k + 1)) in
    let made : new.vars ≡ now.vars + laws_size g (f k) = b.made in
    let place : new.vars + 1 ≡ now.vars + 1 + laws_size g (f k) = omega arith in
    let next : instances_from f k (end - k) ≡ f k ++ rest = ap (instances_from f k) (one_less k end lt) in
    let sizes : laws_size g (instances_from f k (end - k)) ≡ laws_size g (f k) + laws_size g rest = ap (laws_size g) next ∙ size_append g (f k) rest in
    record {
      vars = let v = a.vars in omega arith;
      from = let low = a.from in omega arith;
      left = ap (λ (z : Clauses). z ++ laws_clauses g x width (new.vars + 1) rest) b.added
          ∙ append_assoc now.clauses (laws_clauses g x width (now.vars + 1) (f k)) (laws_clauses g x width (new.vars + 1) rest)
          ∙ ap (λ (z : Clauses). now.clauses ++ z) (ap (λ n. laws_clauses g x width (now.vars + 1) (f k) ++ laws_clauses g x width n rest) place
          ∙ sym (laws_append g x width (now.vars + 1) (f k) rest) ∙ ap (laws_clauses g x width (now.vars + 1)) (sym next))
          ∙ a.left;
      room = b.room ∙ a.room;
    }

pub lawing_done : {T : Type 0} (y : T) (g : Graph) (x : DrawingVars) (width : ℕ) (f : ℕ → List Instance) (old now : Cnf) (all : List Instance)
    (k end longest : ℕ) → end ≤ k → IsLawing g x width f old now all k end → AddsLaws (Ok y) old now g x width all longest
lawing_done y g x width f old now all k end longest le a =
    let z : end - k ≡ 0 = omega arith in
    let none : instances_from f k (end - k) ≡ [] = ap (instances_from f k) z in
    let sizes : laws_size g (instances_from f k (end - k)) ≡ 0 = ap (laws_size g) none in
    let e : now.clauses ≡ old.clauses ++ laws_clauses g x width (old.vars + 1) all = sym (append-nil now.clauses)
    ∙ ap (λ (l : List Instance). now.clauses ++ laws_clauses g x width (now.vars + 1) l) (sym none) ∙ a.left in
    let v = a.vars in
    let low = a.from in
    record {
      made = omega arith;
      added = e;
      passes = λ r. cc;
      full = λ r. cc;
      words = grown old.clauses now.clauses (laws_clauses g x width (old.vars + 1) all) e;
      from = low;
      vars = omega arith;
      room = a.room;
    }

pub lawing_refused : {T U : Type 0} (r : Result T CnfFault) (s : Result U CnfFault) (g : Graph) (x : DrawingVars) (width : ℕ) (f : ℕ → List Instance)
    (old now new : Cnf) (all : List Instance) (k end longest : ℕ) → IsErr s → (IsErrOf s Room → IsErrOf r Room) → k < end →
    IsLawing g x width f old now all k end → AddsLaws r now new g x width (f k) longest → AddsLaws s old new g x width all longest
lawing_refused r (Ok y) g x width f old now new all k end longest err same lt a b = absurd (cc)
lawing_refused r (Err q) g x width f old now new all k end longest err same lt a b =
    let rest = instances_from f (k + 1) (end - (k + 1)) in
    let next : instances_from f k (end - k) ≡ f k ++ rest = ap (instances_from f k) (one_less k end lt) in
    let sizes : laws_size g (instances_from f k (end - k)) ≡ laws_size g (f k) + laws_size g rest = ap (laws_size g) next ∙ size_append g (f k) rest in
    let here = laws_clauses g x width (now.vars + 1) (f k) in
    let more = laws_clauses g x width (now.vars + 1 + laws_size g (f k)) rest in
    let whole = laws_clauses g x width (old.vars + 1) all in
    let e : now.clauses ++ (here ++ more) ≡ old.clauses ++ whole = ap (λ (z : Clauses). now.clauses ++ z)
    (sym (laws_append g x width (now.vars + 1) (f k) rest) ∙ ap (laws_clauses g x width (now.vars + 1)) (sym next)) ∙ a.left in
    let s : words_of (now.clauses ++ (here ++ more)) ≡ words_of (old.clauses ++ whole) = ap words_of e in
    let q = a.room in
    let v = a.vars in
    let low = a.from in
    let from = b.from in
    let vars = b.vars in
    let sums = words_append now.clauses (here ++ more) in
    let parts = words_append here more in
    let all_words = words_append old.clauses whole in
    let one = words_append now.clauses here in
    record {
      made = tt;
      added = tt;
      passes = λ m. elim (b.passes (same m)) [ inl many ↦ inl (omega arith) | inr p ↦ inr (omega arith) ];
      full = λ m. elim (b.full (same m)) [ inl many ↦ inl (omega arith) | inr p ↦ inr p ];
      words = let w = b.words in omega arith;
      from = omega arith;
      vars = omega arith;
      room = b.room ∙ q;
    }

-- two calls, one after the other
pub laws_refused : {T U : Type 0} (r : Result T CnfFault) (s : Result U CnfFault) (old new : Cnf) (g : Graph) (x : DrawingVars) (width : ℕ)
    (xs ys : List Instance) (longest : ℕ) → IsErr s → (IsErrOf s Room → IsErrOf r Room) → AddsLaws r old new g x width xs longest →
    AddsLaws s old new g x width (xs ++ ys) longest
laws_refused r s old new g x width xs ys longest err same h =
    let one = laws_clauses g x width (old.vars + 1) xs in
    let two = laws_clauses g x width (old.vars + 1 + laws_size g xs) ys in
    subst (λ (cs : Clauses). AddsBlock s old new (laws_size g (xs ++ ys)) cs longest) (sym (laws_append g x width (old.vars + 1) xs ys))
    (subst (λ n. AddsBlock s old new n (one ++ two) longest) (sym (size_append g xs ys))
    (block_refused r s old new (laws_size g xs) (laws_size g ys) one two longest err same h))

pub laws_after : {T U : Type 0} (y : T) (r : Result U CnfFault) (old mid new : Cnf) (g : Graph) (x : DrawingVars) (width : ℕ) (xs ys : List Instance)
    (longest : ℕ) → AddsLaws (Ok y) old mid g x width xs longest → AddsLaws r mid new g x width ys longest → AddsLaws r old new g x width (xs ++ ys) longest
laws_after y r old mid new g x width xs ys longest a b =
    let made : mid.vars ≡ old.vars + laws_size g xs = a.made in
    let place : mid.vars + 1 ≡ old.vars + 1 + laws_size g xs = omega arith in
    let one = laws_clauses g x width (old.vars + 1) xs in
    let two = laws_clauses g x width (old.vars + 1 + laws_size g xs) ys in
    subst (λ (cs : Clauses). AddsBlock r old new (laws_size g (xs ++ ys)) cs longest) (sym (laws_append g x width (old.vars + 1) xs ys))
    (subst (λ n. AddsBlock r old new n (one ++ two) longest) (sym (size_append g xs ys))
    (block_after y r old mid new (laws_size g xs) (laws_size g ys) one two longest a
    (subst (λ n. AddsBlock r mid new (laws_size g ys) (laws_clauses g x width n ys) longest) place b)))

-- the clauses of one instance as a step of a formula
pub ruleset one_law_added = (one_law, block_of_clauses, adds_longer)
