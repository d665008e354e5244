-- What the clauses of one node say.
use Rattle.std.proofs.Common.{◌≡◌, ◌≢◌, ℕ, ◌+◌, ◌<◌, ◌≤◌, ◌⊎◌, Bool, true, false, not, List, [], ◌∷◌, ◌++◌, refl, sym, ◌∙◌, ap, inl, inr, arith}
use Rattle.std.specs.Prelude.{◌&&◌, nat_le, nat_eq, Some}
use Rattle.std.proofs.lemmas.Bool.{cases_order, eq-eqb, ne_eqb}
use Rattle.std.proofs.lemmas.Bool.Decides.{nat_tests}
use Rattle.plan_core.specs.declared.point.Point.{Point}
use Rattle.cnf_core.specs.declared.literal.LitOrTruth.{LitOrTruth}
use Rattle.cnf_core.specs.Assignment.{Assignment, Satisfies, SatisfiesAll}
use Rattle.cnf_core.specs.LitOrTruth.{yes, flip, value, SomeTrue, clause_of}
use Rattle.cnf_core.proofs.ClauseLemmas.{satisfies_append, satisfies_left, satisfies_right}
use Rattle.cnf_core.proofs.GatherLemmas.{value-flip, clause_says, clause_holds}
use Rattle.order_int.specs.IntVars.{IntVars}
use Rattle.order_int.specs.OrderInt.{Reads, int_at_least}
use Rattle.edge_shape.specs.EdgeVars.{NodeInts}
use Rattle.drawing_cnf.specs.Moved.{is_moved}
use Rattle.cnf_laws.specs.Stands.{ReadsPoint}
use Rattle.drawing_cnf.specs.MovedClauses.{kept_clause, unlike_clauses, moved_clauses}
use Rattle.cnf_laws.proofs.ApartLemmas.{flipped}

-- ---- one integer

from_true : (v : Assignment) (i : IntVars) (k n : ℕ) → Reads v i n → k ≤ n → value v (int_at_least i k) ≡ true
from_true v i k n r le = let test : nat_le k n ≡ true = grind (arith, nat_tests, le) in r.each k ∙ test

from_false : (v : Assignment) (i : IntVars) (k n : ℕ) → Reads v i n → n < k → value v (int_at_least i k) ≡ false
from_false v i k n r lt = let test : nat_le k n ≡ false = grind (arith, nat_tests, lt) in r.each k ∙ test

flip_true : (v : Assignment) (t : LitOrTruth) → value v t ≡ false → value v (flip t) ≡ true
flip_true v t e = value-flip v t ∙ ap not e

flip_false : (v : Assignment) (t : LitOrTruth) → value v t ≡ true → value v (flip t) ≡ false
flip_false v t e = value-flip v t ∙ ap not e

not_both : (v : Assignment) (t : LitOrTruth) → value v t ≡ true → value v t ≡ false → ⊥
not_both v t a b = let e : true ≡ false = sym a ∙ b in absurd cc

-- one of two is true, and the first isn't
second_of : (v : Assignment) (t : LitOrTruth) (m : ℕ) → Satisfies v [] ⊎ SomeTrue v (t ∷ yes m ∷ []) → value v t ≡ false → v m ≡ true
second_of v t m (inl h) f = absurd h
second_of v t m (inr (inl h)) f = absurd (not_both v t h f)
second_of v t m (inr (inr (inl h))) f = h
second_of v t m (inr (inr (inr h))) f = absurd h

pub unlike_says : (v : Assignment) (i : IntVars) (k n m : ℕ) → Reads v i n → SatisfiesAll v (unlike_clauses i k m) → n ≢ k → v m ≡ true
unlike_says v i k n m r h ne =
    let low = int_at_least i k in
    let past = int_at_least i (k + 1) in
    let a = satisfies_left v (clause_of [] (low ∷ yes m ∷ [])) (clause_of [] (flip past ∷ yes m ∷ [])) h in
    let b = satisfies_right v (clause_of [] (low ∷ yes m ∷ [])) (clause_of [] (flip past ∷ yes m ∷ [])) h in
    elim (cases_order n k) [
      | inl e ↦ absurd (ne e)
      | inr (inl less) ↦ second_of v low m (clause_says v [] (low ∷ yes m ∷ []) a) (from_false v i k n r less)
      | inr (inr more) ↦ second_of v (flip past) m (clause_says v [] (flip past ∷ yes m ∷ []) b)
          (flip_false v past (from_true v i (k + 1) n r (omega (arith, more))))
    ]

pub unlike_holds : (v : Assignment) (i : IntVars) (k n m : ℕ) → Reads v i n → (n ≢ k → v m ≡ true) → SatisfiesAll v (unlike_clauses i k m)
unlike_holds v i k n m r h =
    let low = int_at_least i k in
    let past = int_at_least i (k + 1) in
    satisfies_append v (clause_of [] (low ∷ yes m ∷ [])) (clause_of [] (flip past ∷ yes m ∷ []))
    (clause_holds v [] (low ∷ yes m ∷ []) (inr (elim (less_or_more k n) [
      | inl le ↦ inl (from_true v i k n r le)
      | inr lt ↦ inr (inl (h (λ e. absurd (omega (arith, lt, e)))))
    ])))
    (clause_holds v [] (flip past ∷ yes m ∷ []) (inr (elim (less_or_more n k) [
      | inl le ↦ inl (flip_true v past (from_false v i (k + 1) n r (omega (arith, le))))
      | inr lt ↦ inr (inl (h (λ e. absurd (omega (arith, lt, e)))))
    ])))
  where
    less_or_more : (a b : ℕ) → (a ≤ b) ⊎ (b < a)
    less_or_more a b = grind arith

-- ---- the node

abbrev kept_list : NodeInts → Point → ℕ → List LitOrTruth
kept_list n q m = flip (int_at_least n.x q.x) ∷ int_at_least n.x (q.x + 1) ∷ flip (int_at_least n.y q.y) ∷ int_at_least n.y (q.y + 1) ∷ flip (yes m) ∷ []

kept_says : (v : Assignment) (n : NodeInts) (q p : Point) (m : ℕ) → ReadsPoint v n p → p.x ≡ q.x → p.y ≡ q.y → SatisfiesAll v (kept_clause n q m) → v m ≡ false
kept_says v n q p m r ex ey h = by (clause_says v [] (kept_list n q m) h)
  where
    by : Satisfies v [] ⊎ SomeTrue v (kept_list n q m) → v m ≡ false
    by (inl s) = absurd s
    by (inr (inl s)) = absurd (not_both v (flip (int_at_least n.x q.x)) s (flip_false v (int_at_least n.x q.x)
        (from_true v n.x q.x p.x r.x (omega (arith, ex)))))
    by (inr (inr (inl s))) = absurd (not_both v (int_at_least n.x (q.x + 1)) s (from_false v n.x (q.x + 1) p.x r.x (omega (arith, ex))))
    by (inr (inr (inr (inl s)))) = absurd (not_both v (flip (int_at_least n.y q.y)) s
        (flip_false v (int_at_least n.y q.y) (from_true v n.y q.y p.y r.y (omega (arith, ey)))))
    by (inr (inr (inr (inr (inl s))))) = absurd (not_both v (int_at_least n.y (q.y + 1)) s (from_false v n.y (q.y + 1) p.y r.y (omega (arith, ey))))
    by (inr (inr (inr (inr (inr (inl s)))))) = flipped (v m) s
    by (inr (inr (inr (inr (inr (inr s)))))) = absurd s

kept_holds : (v : Assignment) (n : NodeInts) (q p : Point) (m : ℕ) → ReadsPoint v n p → (p.x ≡ q.x → p.y ≡ q.y → v m ≡ false) →
    SatisfiesAll v (kept_clause n q m)
kept_holds v n q p m r h = clause_holds v [] (kept_list n q m) (inr (elim (cases_order p.x q.x) [
  | inr (inl less) ↦ inl (flip_true v (int_at_least n.x q.x) (from_false v n.x q.x p.x r.x less))
  | inr (inr more) ↦ inr (inl (from_true v n.x (q.x + 1) p.x r.x (omega (arith, more))))
  | inl ex ↦ inr (inr (elim (cases_order p.y q.y) [
    | inr (inl less) ↦ inl (flip_true v (int_at_least n.y q.y) (from_false v n.y q.y p.y r.y less))
    | inr (inr more) ↦ inr (inl (from_true v n.y (q.y + 1) p.y r.y (omega (arith, more))))
    | inl ey ↦ inr (inr (inl (ap not (h ex ey))))
  ]))
]))

moved_same : (q p : Point) → p.x ≡ q.x → p.y ≡ q.y → is_moved (Some q) p ≡ false
moved_same q p ex ey = ap (λ b. not (b && nat_eq p.y q.y)) (eq-eqb p.x q.x ex) ∙ ap not (eq-eqb p.y q.y ey)

moved_x : (q p : Point) → p.x ≢ q.x → is_moved (Some q) p ≡ true
moved_x q p ne = ap (λ b. not (b && nat_eq p.y q.y)) (ne_eqb p.x q.x ne)

moved_y : (q p : Point) → p.x ≡ q.x → p.y ≢ q.y → is_moved (Some q) p ≡ true
moved_y q p ex ne = ap (λ b. not (b && nat_eq p.y q.y)) (eq-eqb p.x q.x ex) ∙ ap not (ne_eqb p.y q.y ne)

same_or_not : (a b : ℕ) → (a ≡ b) ⊎ (a ≢ b)
same_or_not a b = elim (cases_order a b) [
  | inl e ↦ inl e
  | inr (inl less) ↦ inr (λ e. absurd (omega (arith, less, e)))
  | inr (inr more) ↦ inr (λ e. absurd (omega (arith, more, e)))
]

pub node_means : (v : Assignment) (n : NodeInts) (q p : Point) (m : ℕ) → ReadsPoint v n p → SatisfiesAll v (moved_clauses n q m) → v m ≡ is_moved (Some q) p
node_means v n q p m r h =
    let x = unlike_clauses n.x q.x m in
    let y = unlike_clauses n.y q.y m in
    let kept = satisfies_left v (kept_clause n q m) (x ++ y) h in
    let other = satisfies_right v (kept_clause n q m) (x ++ y) h in
    elim (same_or_not p.x q.x) [
      | inr ne ↦ unlike_says v n.x q.x p.x m r.x (satisfies_left v x y other) ne ∙ sym (moved_x q p ne)
      | inl ex ↦ elim (same_or_not p.y q.y) [
        | inr ne ↦ unlike_says v n.y q.y p.y m r.y (satisfies_right v x y other) ne ∙ sym (moved_y q p ex ne)
        | inl ey ↦ kept_says v n q p m r ex ey kept ∙ sym (moved_same q p ex ey)
      ]
    ]

pub node_holds : (v : Assignment) (n : NodeInts) (q p : Point) (m : ℕ) → ReadsPoint v n p → v m ≡ is_moved (Some q) p → SatisfiesAll v (moved_clauses n q m)
node_holds v n q p m r e =
    let x = unlike_clauses n.x q.x m in
    let y = unlike_clauses n.y q.y m in
    satisfies_append v (kept_clause n q m) (x ++ y)
    (kept_holds v n q p m r (λ ex ey. e ∙ moved_same q p ex ey))
    (satisfies_append v x y
    (unlike_holds v n.x q.x p.x m r.x (λ ne. e ∙ moved_x q p ne))
    (unlike_holds v n.y q.y p.y m r.y (λ ne. elim (same_or_not p.x q.x) [
      | inl ex ↦ e ∙ moved_y q p ex ne
      | inr other ↦ e ∙ moved_x q p other
    ])))
