-- Laws 2 and 5: nodes in order, and nodes apart.
use Rattle.std.proofs.Common.{◌≡◌, ◌≢◌, ◌⊎◌, ℕ, zero, suc, ◌+◌, ◌≤◌, Bool, true, false, not, List, inl, inr, refl, sym, ◌∙◌, ap, arith}
use Rattle.std.specs.Prelude.{nat_le, nat_lt}
use Rattle.std.specs.declared.cmp.Ordering.{Ordering}
use Rattle.std.specs.declared.cmp.Ordering.TheVariants.{Less, Equal, Greater}
use Rattle.std.proofs.lemmas.Bool.Decides.{nat_tests, leb_tells, eqb_tells}
use Rattle.plan_core.specs.declared.point.Point.{Point}
use Rattle.plan_core.specs.Laws.{InOrder}
use Rattle.plan_core.proofs.LawTests.{same_coordinates}
use Rattle.cnf_core.specs.declared.literal.LitOrTruth.{LitOrTruth}
use Rattle.cnf_core.specs.declared.literal.LitOrTruth.TheVariants.{False}
use Rattle.cnf_core.specs.Lit.{Literal}
use Rattle.cnf_core.specs.Assignment.{Assignment, Satisfies, SatisfiesAll, SameOutside, Extends}
use Rattle.cnf_core.specs.LitOrTruth.{yes, flip, value, SomeTrue}
use Rattle.cnf_core.proofs.ClauseLemmas.{satisfies_append, satisfies_left, satisfies_right}
use Rattle.cnf_core.proofs.SettingLemmas.{same_none, patch, patch_same, patch_at}
use Rattle.order_int.specs.IntVars.{IntVars}
use Rattle.order_int.specs.OrderInt.{Reads}
use Rattle.order_int.proofs.IntLemmas.{reads_same}
use Rattle.edge_shape.specs.EdgeVars.{NodeInts, LieBefore}
use Rattle.cnf_laws.specs.Guards.{guard_list, no_guards, one_guard, two_guards, guarded_order}
use Rattle.cnf_laws.specs.Stands.{ReadsPoint}
use Rattle.cnf_laws.specs.LawClauses.{ordered_clauses, apart_rows_clauses, west_clauses, anywhere_clauses, apart_clauses, apart_size}
use Rattle.cnf_laws.proofs.GuardLemmas.{Is, guarded_means, guarded_holds}

-- few guards
none_true : (v : Assignment) → SomeTrue v (guard_list no_guards) → ⊥
none_true v (inl h) = cc
none_true v (inr (inl h)) = cc
none_true v (inr (inr (inl h))) = cc
none_true v (inr (inr (inr (inl h)))) = cc
none_true v (inr (inr (inr (inr (inl h))))) = cc
none_true v (inr (inr (inr (inr (inr h))))) = h

one_true : (v : Assignment) (t : LitOrTruth) → SomeTrue v (guard_list (one_guard t)) → Is (value v t)
one_true v t (inl h) = h
one_true v t (inr (inl h)) = cc
one_true v t (inr (inr (inl h))) = cc
one_true v t (inr (inr (inr (inl h)))) = cc
one_true v t (inr (inr (inr (inr (inl h))))) = cc
one_true v t (inr (inr (inr (inr (inr h))))) = absurd h

two_true : (v : Assignment) (t u : LitOrTruth) → SomeTrue v (guard_list (two_guards t u)) → Is (value v t) ⊎ Is (value v u)
two_true v t u (inl h) = inl h
two_true v t u (inr (inl h)) = inr h
two_true v t u (inr (inr (inl h))) = cc
two_true v t u (inr (inr (inr (inl h)))) = cc
two_true v t u (inr (inr (inr (inr (inl h))))) = cc
two_true v t u (inr (inr (inr (inr (inr h))))) = absurd h

-- LAW 2
below_means : (v : Assignment) (a b : IntVars) (m n : ℕ) (unless : List Literal) → Reads v a m → Reads v b n → (Satisfies v unless → ⊥) →
    SatisfiesAll v (guarded_order a b 0 no_guards unless) → m ≤ n
below_means v a b m n unless ra rb on h = elim (guarded_means v a b m n 0 no_guards unless ra rb on h) [ inl t ↦ absurd (none_true v t) | inr le ↦ omega arith ]

below_holds : (v : Assignment) (a b : IntVars) (m n : ℕ) (unless : List Literal) → Reads v a m → Reads v b n → Satisfies v unless ⊎ (m ≤ n) →
    SatisfiesAll v (guarded_order a b 0 no_guards unless)
below_holds v a b m n unless ra rb h = guarded_holds v a b m n 0 no_guards unless ra rb (elim h [ inl u ↦ inl u | inr le ↦ inr (inr (omega arith)) ])

pub ordered_means : (v : Assignment) (o : Ordering) (a b : IntVars) (m n : ℕ) (unless : List Literal) → Reads v a m → Reads v b n → (Satisfies v unless → ⊥) →
    SatisfiesAll v (ordered_clauses o a b unless) → InOrder o m n
ordered_means v Less a b m n unless ra rb on h = below_means v a b m n unless ra rb on h
ordered_means v Equal a b m n unless ra rb on h =
    let up = guarded_order a b 0 no_guards unless in
    let down = guarded_order b a 0 no_guards unless in
    let le = below_means v a b m n unless ra rb on (satisfies_left v up down h) in
    let ge = below_means v b a n m unless rb ra on (satisfies_right v up down h) in
    omega arith
ordered_means v Greater a b m n unless ra rb on h = below_means v b a n m unless rb ra on h

pub ordered_holds : (v : Assignment) (o : Ordering) (a b : IntVars) (m n : ℕ) (unless : List Literal) → Reads v a m → Reads v b n →
    Satisfies v unless ⊎ InOrder o m n → SatisfiesAll v (ordered_clauses o a b unless)
ordered_holds v Less a b m n unless ra rb h = below_holds v a b m n unless ra rb h
ordered_holds v Equal a b m n unless ra rb h = satisfies_append v (guarded_order a b 0 no_guards unless) (guarded_order b a 0 no_guards unless)
    (below_holds v a b m n unless ra rb (elim h [ inl u ↦ inl u | inr e ↦ inr (omega arith) ]))
    (below_holds v b a n m unless rb ra (elim h [ inl u ↦ inl u | inr e ↦ inr (omega arith) ]))
ordered_holds v Greater a b m n unless ra rb h = below_holds v b a n m unless rb ra h

-- LAW 5
pub flipped : (b : Bool) → not b ≡ true → b ≡ false
flipped true h = cc
flipped false h = refl

differ_means : (v : Assignment) (below : ℕ) (guard : LitOrTruth) (a b : IntVars) (m n : ℕ) (unless : List Literal) → Reads v a m → Reads v b n →
    (Satisfies v unless → ⊥) → SatisfiesAll v (apart_rows_clauses below guard a b unless) → Is (value v guard) ⊎ (m ≢ n)
differ_means v below guard a b m n unless ra rb on h =
    let one = guarded_order a b 1 (two_guards guard (flip (yes below))) unless in
    let two = guarded_order b a 1 (two_guards guard (yes below)) unless in
    elim (guarded_means v a b m n 1 (two_guards guard (flip (yes below))) unless ra rb on (satisfies_left v one two h)) [
      | inr lt ↦ inr (λ e. omega arith)
      | inl s ↦ elim (two_true v guard (flip (yes below)) s) [
        | inl t ↦ inl t
        | inr off ↦ elim (guarded_means v b a n m 1 (two_guards guard (yes below)) unless rb ra on (satisfies_right v one two h)) [
          | inr gt ↦ inr (λ e. omega arith)
          | inl s2 ↦ elim (two_true v guard (yes below) s2) [
            | inl t ↦ inl t
            | inr is ↦ absurd (cc (flipped (v below) off, is))
          ]
        ]
      ]
    ]

pub differ_holds : (v : Assignment) (below : ℕ) (guard : LitOrTruth) (a b : IntVars) (m n : ℕ) (unless : List Literal) → Reads v a m → Reads v b n →
    Satisfies v unless ⊎ (Is (value v guard) ⊎ ((m ≢ n) × (v below ≡ nat_lt m n))) → SatisfiesAll v (apart_rows_clauses below guard a b unless)
differ_holds v below guard a b m n unless ra rb h = satisfies_append v (guarded_order a b 1 (two_guards guard (flip (yes below))) unless)
    (guarded_order b a 1 (two_guards guard (yes below)) unless)
    (guarded_holds v a b m n 1 (two_guards guard (flip (yes below))) unless ra rb (elim h [
      | inl u ↦ inl u
      | inr (inl t) ↦ inr (inl (inl t))
      | inr (inr f) ↦ inr (elim (leb_tells (m + 1) n) [
        | inl le ↦ inr le.1
        | inr gt ↦ let k = gt.1 in let t : nat_lt m n ≡ false = grind (arith, nat_tests) in inl (inr (inl (ap not (f.1 ∙ t))))
      ])
    ]))
    (guarded_holds v b a n m 1 (two_guards guard (yes below)) unless rb ra (elim h [
      | inl u ↦ inl u
      | inr (inl t) ↦ inr (inl (inl t))
      | inr (inr f) ↦ inr (elim (leb_tells (m + 1) n) [
        | inl le ↦ let k = le.1 in let t : nat_lt m n ≡ true = grind (arith, nat_tests) in inl (inr (inl (f.1 ∙ t)))
        | inr gt ↦ let k = gt.1 in let ne = f.0 in inr (omega arith)
      ])
    ]))

west_means : (v : Assignment) (first : ℕ) (a b : NodeInts) (p q : Point) (unless : List Literal) → ReadsPoint v a p → ReadsPoint v b q →
    (Satisfies v unless → ⊥) → SatisfiesAll v (west_clauses first a b unless) → p ≢ q
west_means v first a b p q unless ra rb on h e =
    let one = guarded_order a.x b.x 1 (one_guard (yes first)) unless in
    let two = apart_rows_clauses (first + 1) (flip (yes first)) a.y b.y unless in
    let ex : p.x ≡ q.x = ap (λ (r : Point). r.x) e in
    let ey : p.y ≡ q.y = ap (λ (r : Point). r.y) e in
    elim (guarded_means v a.x b.x p.x q.x 1 (one_guard (yes first)) unless ra.x rb.x on (satisfies_left v one two h)) [
      | inr lt ↦ omega arith
      | inl s ↦ elim (differ_means v (first + 1) (flip (yes first)) a.y b.y p.y q.y unless ra.y rb.y on (satisfies_right v one two h)) [
        | inl off ↦ cc (flipped (v first) off, one_true v (yes first) s)
        | inr ne ↦ ne ey
      ]
    ]

-- the first isn't east of the second, by law 2
pub west_holds : (v : Assignment) (first : ℕ) (a b : NodeInts) (p q : Point) (unless : List Literal) → ReadsPoint v a p → ReadsPoint v b q →
    Satisfies v unless ⊎ ((p.x ≤ q.x) × ((p ≢ q) × ((v first ≡ nat_le q.x p.x) × (v (first + 1) ≡ nat_lt p.y q.y)))) →
    SatisfiesAll v (west_clauses first a b unless)
west_holds v first a b p q unless ra rb h = satisfies_append v (guarded_order a.x b.x 1 (one_guard (yes first)) unless)
    (apart_rows_clauses (first + 1) (flip (yes first)) a.y b.y unless)
    (guarded_holds v a.x b.x p.x q.x 1 (one_guard (yes first)) unless ra.x rb.x (elim h [
      | inl u ↦ inl u
      | inr f ↦ inr (elim (leb_tells q.x p.x) [
        | inl le ↦ inl (inl (f.1.1.0 ∙ le.0))
        | inr gt ↦ let k = gt.1 in inr (omega arith)
      ])
    ]))
    (differ_holds v (first + 1) (flip (yes first)) a.y b.y p.y q.y unless ra.y rb.y (elim h [
      | inl u ↦ inl u
      | inr f ↦ inr (elim (leb_tells q.x p.x) [
        | inl le ↦ let k = le.1 in let order = f.0 in inr ((λ ey. f.1.0 (same_coordinates p q (omega arith, ey))), f.1.1.1)
        | inr gt ↦ inl (ap not (f.1.1.0 ∙ gt.0))
      ])
    ]))

pub apart_means : (v : Assignment) (o : Ordering) (first : ℕ) (a b : NodeInts) (p q : Point) (unless : List Literal) → ReadsPoint v a p → ReadsPoint v b q →
    (Satisfies v unless → ⊥) → SatisfiesAll v (apart_clauses o first a b unless) → p ≢ q
apart_means v Less first a b p q unless ra rb on h e = west_means v first a b p q unless ra rb on h e
apart_means v Equal first a b p q unless ra rb on h e = elim (differ_means v first False a.y b.y p.y q.y unless ra.y rb.y on h)
    [ inl f ↦ cc | inr ne ↦ ne (ap (λ (r : Point). r.y) e) ]
apart_means v Greater first a b p q unless ra rb on h e = west_means v first b a q p unless rb ra on h (sym e)

point_stays : (first count : ℕ) (v w : Assignment) (a : NodeInts) (p : Point) → LieBefore first a → SameOutside first count v w → ReadsPoint v a p →
    ReadsPoint w a p
point_stays first count v w a p before same r = record {
  x = let b = before.x in reads_same v w a.x p.x (λ x from to. same.below x (omega arith)) r.x;
  y = let b = before.y in reads_same v w a.y p.y (λ x from to. same.below x (omega arith)) r.y;
}

abbrev pub apart_bits : Point → Point → ℕ → Bool
apart_bits p q zero = nat_le q.x p.x
apart_bits p q (suc k) = nat_lt p.y q.y

west_extends : (v : Assignment) (first : ℕ) (a b : NodeInts) (p q : Point) (unless : List Literal) → LieBefore first a → LieBefore first b → ReadsPoint v a p →
    ReadsPoint v b q → p.x ≤ q.x → p ≢ q → Extends first 2 v (λ w. SatisfiesAll w (west_clauses first a b unless))
west_extends v first a b p q unless ba bb ra rb order ne =
    let w = patch first 2 (apart_bits p q) v in
    let same = patch_same first 2 (apart_bits p q) v in
    let z : first ≡ first + 0 = omega arith in
    record {
      to = w;
      same = same;
      holds = west_holds w first a b p q unless (point_stays first 2 v w a p ba same ra) (point_stays first 2 v w b q bb same rb)
          (inr (order, (ne, (ap w z ∙ patch_at first 2 (apart_bits p q) v 0 (omega arith), patch_at first 2 (apart_bits p q) v 1 (omega arith)))));
    }

pub apart_extends : (v : Assignment) (o : Ordering) (first : ℕ) (a b : NodeInts) (p q : Point) (unless : List Literal) → LieBefore first a → LieBefore first b →
    ReadsPoint v a p → ReadsPoint v b q → InOrder o p.x q.x → p ≢ q → Extends first (apart_size o) v (λ w. SatisfiesAll w (apart_clauses o first a b unless))
apart_extends v Less first a b p q unless ba bb ra rb order ne = west_extends v first a b p q unless ba bb ra rb order ne
apart_extends v Equal first a b p q unless ba bb ra rb order ne =
    let f : ℕ → Bool = λ k. nat_lt p.y q.y in
    let w = patch first 1 f v in
    let same = patch_same first 1 f v in
    let z : first ≡ first + 0 = omega arith in
    record {
      to = w;
      same = same;
      holds = differ_holds w first False a.y b.y p.y q.y unless (point_stays first 1 v w a p ba same ra).y (point_stays first 1 v w b q bb same rb).y
          (inr (inr ((λ ey. ne (same_coordinates p q (order, ey))), ap w z ∙ patch_at first 1 f v 0 (omega arith))));
    }
apart_extends v Greater first a b p q unless ba bb ra rb order ne = west_extends v first b a q p unless bb ba rb ra order (λ e. ne (sym e))

-- TWO NODES IN ANY ORDER
pub anywhere_means : (v : Assignment) (first : ℕ) (a b : NodeInts) (p q : Point) (unless : List Literal) → ReadsPoint v a p → ReadsPoint v b q →
    (Satisfies v unless → ⊥) → SatisfiesAll v (anywhere_clauses first a b unless) → p ≢ q
anywhere_means v first a b p q unless ra rb on h e =
    let one = apart_rows_clauses (first + 1) (yes first) a.x b.x unless in
    let two = apart_rows_clauses (first + 1) (flip (yes first)) a.y b.y unless in
    elim (differ_means v (first + 1) (yes first) a.x b.x p.x q.x unless ra.x rb.x on (satisfies_left v one two h)) [
      | inr ne ↦ ne (ap (λ (r : Point). r.x) e)
      | inl is ↦ elim (differ_means v (first + 1) (flip (yes first)) a.y b.y p.y q.y unless ra.y rb.y on (satisfies_right v one two h)) [
        | inl off ↦ cc (flipped (v first) off, is)
        | inr ne ↦ ne (ap (λ (r : Point). r.y) e)
      ]
    ]

-- the two bits: the columns are equal; the smaller column, or where they are equal the smaller row, is p's
abbrev pub anywhere_bits : Bool → Point → Point → ℕ → Bool
anywhere_bits same p q zero = same
anywhere_bits true p q (suc k) = nat_lt p.y q.y
anywhere_bits false p q (suc k) = nat_lt p.x q.x

anywhere_set : (w : Assignment) (first : ℕ) (a b : NodeInts) (p q : Point) (unless : List Literal) → ReadsPoint w a p → ReadsPoint w b q →
    ((p.x ≡ q.x) × (p.y ≢ q.y) × (w first ≡ true) × (w (first + 1) ≡ nat_lt p.y q.y)) ⊎ ((p.x ≢ q.x) × (w first ≡ false) × (w (first + 1) ≡ nat_lt p.x q.x)) →
    SatisfiesAll w (anywhere_clauses first a b unless)
anywhere_set w first a b p q unless ra rb (inl h) = satisfies_append w (apart_rows_clauses (first + 1) (yes first) a.x b.x unless)
    (apart_rows_clauses (first + 1) (flip (yes first)) a.y b.y unless)
    (differ_holds w (first + 1) (yes first) a.x b.x p.x q.x unless ra.x rb.x (inr (inl h.2)))
    (differ_holds w (first + 1) (flip (yes first)) a.y b.y p.y q.y unless ra.y rb.y (inr (inr (h.1, h.3))))
anywhere_set w first a b p q unless ra rb (inr h) = satisfies_append w (apart_rows_clauses (first + 1) (yes first) a.x b.x unless)
    (apart_rows_clauses (first + 1) (flip (yes first)) a.y b.y unless)
    (differ_holds w (first + 1) (yes first) a.x b.x p.x q.x unless ra.x rb.x (inr (inr (h.0, h.2))))
    (differ_holds w (first + 1) (flip (yes first)) a.y b.y p.y q.y unless ra.y rb.y (inr (inl (ap not h.1))))

pub anywhere_extends : (v : Assignment) (first : ℕ) (a b : NodeInts) (p q : Point) (unless : List Literal) → LieBefore first a → LieBefore first b →
    ReadsPoint v a p → ReadsPoint v b q → Satisfies v unless ⊎ (p ≢ q) → Extends first 2 v (λ w. SatisfiesAll w (anywhere_clauses first a b unless))
anywhere_extends v first a b p q unless ba bb ra rb (inl u) = record {
  to = v;
  same = same_none first 2 v;
  holds = satisfies_append v (apart_rows_clauses (first + 1) (yes first) a.x b.x unless) (apart_rows_clauses (first + 1) (flip (yes first)) a.y b.y unless)
      (differ_holds v (first + 1) (yes first) a.x b.x p.x q.x unless ra.x rb.x (inl u))
      (differ_holds v (first + 1) (flip (yes first)) a.y b.y p.y q.y unless ra.y rb.y (inl u));
}
anywhere_extends v first a b p q unless ba bb ra rb (inr ne) = elim (eqb_tells p.x q.x) [
  | inl one ↦
      let w = patch first 2 (anywhere_bits true p q) v in
      let same = patch_same first 2 (anywhere_bits true p q) v in
      record {
        to = w;
        same = same;
        holds = anywhere_set w first a b p q unless (point_stays first 2 v w a p ba same ra) (point_stays first 2 v w b q bb same rb)
            (inl (
              one.1,
              (λ ey. ne (same_coordinates p q (one.1, ey))),
              ap w z ∙ patch_at first 2 (anywhere_bits true p q) v 0 (omega arith),
              patch_at first 2
                  (anywhere_bits true p q) v 1 (omega arith),
            ));
      }
  | inr two ↦
      let w = patch first 2 (anywhere_bits false p q) v in
      let same = patch_same first 2 (anywhere_bits false p q) v in
      record {
        to = w;
        same = same;
        holds = anywhere_set w first a b p q unless (point_stays first 2 v w a p ba same ra) (point_stays first 2 v w b q bb same rb)
            (inr (two.1, ap w z ∙ patch_at first 2 (anywhere_bits false p q) v 0 (omega arith), patch_at first 2 (anywhere_bits false p q) v 1 (omega arith)));
      }
]
  where
    z : first ≡ first + 0
    z = omega arith
