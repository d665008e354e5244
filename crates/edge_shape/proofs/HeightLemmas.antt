-- What the clauses of a step say of the two heights, both ways.
use Rattle.std.proofs.Common.{◌≡◌, ◌⊎◌, ℕ, ◌+◌, ◌-◌, ◌≤◌, Bool, true, false, not, [], ◌∷◌, ◌++◌, inl, inr, refl, sym, ◌∙◌, ap, arith}
use Rattle.std.specs.Prelude.{nat_le}
use Rattle.std.proofs.lemmas.Bool.Decides.{nat_tests, leb_tells}
use Rattle.cnf_core.specs.Lit.{positive_of, negative_of}
use Rattle.cnf_core.specs.Assignment.{Assignment, Satisfies, SatisfiesAll}
use Rattle.cnf_core.specs.LitOrTruth.{flip}
use Rattle.cnf_core.proofs.ClauseLemmas.{satisfies_append, satisfies_left, satisfies_right, satisfies_each, satisfies_at}
use Rattle.cnf_core.proofs.GatherLemmas.{value-flip, clause_says, clause_holds}
use Rattle.order_int.specs.IntVars.{IntVars}
use Rattle.order_int.specs.OrderInt.{int_at_least, Reads, le_clauses}
use Rattle.order_int.proofs.OrderLemmas.{le_means, le_holds}
use Rattle.edge_shape.specs.EdgeVars.{EdgeLits}
use Rattle.edge_shape.specs.Edge.{near_clause, near_clauses, height_clauses}
use Rattle.edge_shape.proofs.StepLemmas.{Is}

-- a is at most b and 1
pub near_means : (v : Assignment) (a b : IntVars) (m n high : ℕ) → Reads v a m → Reads v b n → m ≤ high → SatisfiesAll v (near_clauses a b high) → m ≤ n + 1
near_means v a b m n high ra rb to h = elim (leb_tells 2 m) [
  | inl two ↦
      let more = two.1 in
      let one = satisfies_at v (near_clause a b) 1 (high - 1) h (m - 1) (omega arith) (omega arith) in
      elim (clause_says v [] (flip (int_at_least a (m - 1 + 1)) ∷ int_at_least b (m - 1) ∷ []) one) [
        | inl x ↦ absurd x
        | inr (inl s) ↦ let t : not (nat_le (m - 1 + 1) m) ≡ true = sym (ap not (ra.each (m - 1 + 1))) ∙ sym (value-flip v (int_at_least a (m - 1 + 1)))
            ∙ s in let e : nat_le (m - 1 + 1) m ≡ true = grind (arith, nat_tests) in absurd (cc (rw e at t))
        | inr (inr (inl s)) ↦ let t : nat_le (m - 1) n ≡ true = sym (rb.each (m - 1)) ∙ s in grind (arith, nat_tests, t)
        | inr (inr (inr s)) ↦ absurd s
      ]
  | inr few ↦ let less = few.1 in omega arith
]

pub near_holds : (v : Assignment) (a b : IntVars) (m n high : ℕ) → Reads v a m → Reads v b n → m ≤ n + 1 → SatisfiesAll v (near_clauses a b high)
near_holds v a b m n high ra rb h = satisfies_each v (near_clause a b) 1 (high - 1) (λ k from to.
    clause_holds v [] (flip (int_at_least a (k + 1)) ∷ int_at_least b k ∷ []) (inr (elim (leb_tells (k + 1) m) [
      | inl le ↦ let less = le.1 in inr (inl (rb.each k ∙ grind (arith, nat_tests)))
      | inr gt ↦ inl (value-flip v (int_at_least a (k + 1)) ∙ ap not (ra.each (k + 1) ∙ gt.0))
    ])))

-- a step goes up by one, down by one, or stays
pub record GoesBy (u d : Bool) (m n : ℕ) : Type 0 where
  pub level : u ≡ false → d ≡ false → n ≡ m
  pub up : Is u → n ≡ m + 1
  pub down : Is d → m ≡ n + 1

pub is_false : (b : Bool) → (Is b → ⊥) → b ≡ false
is_false true f = absurd (f refl)
is_false false f = refl

unless_yes : (v : Assignment) (x : ℕ) (P : Type 0) → v x ≡ false → Satisfies v (positive_of x ∷ []) ⊎ P → P
unless_yes v x P e (inl (inl h)) = cc
unless_yes v x P e (inl (inr h)) = absurd h
unless_yes v x P e (inr p) = p

unless_no : (v : Assignment) (x : ℕ) (P : Type 0) → Is (v x) → Satisfies v (negative_of x ∷ []) ⊎ P → P
unless_no v x P e (inl (inl h)) = cc (rw e at h)
unless_no v x P e (inl (inr h)) = absurd h
unless_no v x P e (inr p) = p

pub height_means : (v : Assignment) (e : EdgeLits) (high c m n : ℕ) → Reads v (e.height c) m → Reads v (e.height (c + 1)) n → m ≤ high → n ≤ high →
    (Is (v (e.up c)) → Is (v (e.down c)) → ⊥) → SatisfiesAll v (height_clauses e high c) → GoesBy (v (e.up c)) (v (e.down c)) m n
height_means v e high c m n rm rn mh nh one h =
    let a = e.height c in
    let b = e.height (c + 1) in
    let u = e.up c in
    let d = e.down c in
    let A = le_clauses a b 0 (positive_of d ∷ []) in
    let B = le_clauses b a 0 (positive_of u ∷ []) in
    let C = le_clauses a b 1 (negative_of u ∷ []) in
    let D = le_clauses b a 1 (negative_of d ∷ []) in
    let E = near_clauses b a high in
    let F = near_clauses a b high in
    let first = satisfies_left v ((A ++ B) ++ (C ++ D)) (E ++ F) h in
    let last = satisfies_right v ((A ++ B) ++ (C ++ D)) (E ++ F) h in
    let ab = satisfies_left v (A ++ B) (C ++ D) first in
    let cd = satisfies_right v (A ++ B) (C ++ D) first in
    let fa : v d ≡ false → m + 0 ≤ n = λ z. unless_yes v d (m + 0 ≤ n) z (le_means v a b m n 0 (positive_of d ∷ []) rm rn (satisfies_left v A B ab)) in
    let fb : v u ≡ false → n + 0 ≤ m = λ z. unless_yes v u (n + 0 ≤ m) z (le_means v b a n m 0 (positive_of u ∷ []) rn rm (satisfies_right v A B ab)) in
    let fc : Is (v u) → m + 1 ≤ n = λ z. unless_no v u (m + 1 ≤ n) z (le_means v a b m n 1 (negative_of u ∷ []) rm rn (satisfies_left v C D cd)) in
    let fd : Is (v d) → n + 1 ≤ m = λ z. unless_no v d (n + 1 ≤ m) z (le_means v b a n m 1 (negative_of d ∷ []) rn rm (satisfies_right v C D cd)) in
    let fe = near_means v b a n m high rn rm nh (satisfies_left v E F last) in
    let ff = near_means v a b m n high rm rn mh (satisfies_right v E F last) in
    record {
      level = λ x y. let p = fa y in let q = fb x in omega arith;
      up = λ x. let p = fc x in omega arith;
      down = λ x. let p = fd x in omega arith;
    }

by_yes : (v : Assignment) (x : ℕ) (P : Type 0) → (v x ≡ false → P) → Satisfies v (positive_of x ∷ []) ⊎ P
by_yes v x P f = elim (v x) as (λ b. v x ≡ b → Satisfies v (positive_of x ∷ []) ⊎ P) [ true ↦ λ e. inl (inl e) | false ↦ λ e. inr (f e) ] refl

by_no : (v : Assignment) (x : ℕ) (P : Type 0) → (Is (v x) → P) → Satisfies v (negative_of x ∷ []) ⊎ P
by_no v x P f = elim (v x) as (λ b. v x ≡ b → Satisfies v (negative_of x ∷ []) ⊎ P) [ true ↦ λ e. inr (f e) | false ↦ λ e. inl (inl (ap not e)) ] refl

pub by_bools : (u d : Bool) (m n : ℕ) → GoesBy u d m n → (d ≡ false → m + 0 ≤ n) × ((u ≡ false → n + 0 ≤ m) × ((n ≤ m + 1) × (m ≤ n + 1)))
by_bools true true m n g = let a = g.up refl in let b = g.down refl in absurd (omega arith)
by_bools true false m n g = let a = g.up refl in ((λ x. omega arith), ((λ x. cc), (omega arith, omega arith)))
by_bools false true m n g = let a = g.down refl in ((λ x. cc), ((λ x. omega arith), (omega arith, omega arith)))
by_bools false false m n g = let a = g.level refl refl in ((λ x. omega arith), ((λ x. omega arith), (omega arith, omega arith)))

pub height_holds : (v : Assignment) (e : EdgeLits) (high c m n : ℕ) → Reads v (e.height c) m → Reads v (e.height (c + 1)) n →
    GoesBy (v (e.up c)) (v (e.down c)) m n → SatisfiesAll v (height_clauses e high c)
height_holds v e high c m n rm rn g =
    let a = e.height c in
    let b = e.height (c + 1) in
    let u = e.up c in
    let d = e.down c in
    let A = le_clauses a b 0 (positive_of d ∷ []) in
    let B = le_clauses b a 0 (positive_of u ∷ []) in
    let C = le_clauses a b 1 (negative_of u ∷ []) in
    let D = le_clauses b a 1 (negative_of d ∷ []) in
    let E = near_clauses b a high in
    let F = near_clauses a b high in
    let f = by_bools (v u) (v d) m n g in
    satisfies_append v ((A ++ B) ++ (C ++ D)) (E ++ F)
    (satisfies_append v (A ++ B) (C ++ D)
    (satisfies_append v A B
    (le_holds v a b m n 0 (positive_of d ∷ []) rm rn (by_yes v d (m + 0 ≤ n) f.0))
    (le_holds v b a n m 0 (positive_of u ∷ []) rn rm (by_yes v u (n + 0 ≤ m) f.1.0)))
    (satisfies_append v C D
    (le_holds v a b m n 1 (negative_of u ∷ []) rm rn (by_no v u (m + 1 ≤ n) (λ x. let z = g.up x in omega arith)))
    (le_holds v b a n m 1 (negative_of d ∷ []) rn rm (by_no v d (n + 1 ≤ m) (λ x. let z = g.down x in omega arith)))))
    (satisfies_append v E F (near_holds v b a n m high rn rm f.1.1.0) (near_holds v a b m n high rm rn f.1.1.1))
