-- The short log is as the examples say.
use Rattle.std.proofs.Common.{◌≡◌, ℕ, zero, suc, ◌+◌, ◌<◌, ◌≤◌, ◌⊎◌, Bool, true, false, List, [], ◌∷◌, ◌++◌, length, get_or, refl, sym, ◌∙◌, ap, subst, inl}
use Rattle.std.proofs.Common.{inr, arith}
use Rattle.std.specs.Prelude.{◌↔◌, ⊤, All, Contains, flat_map}
use Rattle.std.specs.List.{AllByRecursion}
use Rattle.std.proofs.lemmas.Option.{same_Some}
use Rattle.std.proofs.lemmas.List.Elements.{All-nil, All-cons, All-head, All-tail}
use Rattle.plan_core.specs.declared.criterion.Criterion.{Criterion}
use Rattle.plan_core.specs.declared.criterion.Criterion.TheVariants.{Height, Bends, Diagonal, Width}
use Rattle.plan_core.specs.Values.{value_of}
use Rattle.plan_core.specs.Examples.{measured}
use Rattle.cnf_core.specs.declared.literal.Var.{Var}
use Rattle.cnf_core.specs.Lit.{Literal, positive_of, negative_of, negate}
use Rattle.cnf_core.specs.Clause.{Clauses}
use Rattle.cnf_core.specs.Assignment.{Assignment}
use Rattle.cnf_core.specs.Propagation.{Rup, Closure, negations}
use Rattle.refute_log.specs.declared.line.LogLine.{LogLine}
use Rattle.refute_log.specs.declared.line.LogLine.TheVariants.{Formula, Bound, Query, Refuted}
use Rattle.refute_log.specs.Told.{Lines}
use Rattle.refute_log.specs.Log.{added, Derives}
use Rattle.refute_log.proofs.LogLemmas.{derives_none, derives_more}
use Rattle.refute_log.specs.Bounds.{SaysAtLeast, MeetsLog}
use Rattle.refute_log.specs.Certified.{IsOutOfReach, IsCertifiedLeast, Certifies, CertifiesNone, IsSettled}
use Rattle.cases_refutation.specs.Examples.{variable, height_up_to, height_then_width, width_then_height, all_four, short_log}

-- ---- what stands in the log

holds_at : {X : Type 0} (P : X → Type 0) (xs : List X) → AllByRecursion P xs → (x : X) (k : ℕ) → k < length xs → get_or xs k x ≡ x → P x
holds_at P [] h x k low e = absurd (omega arith)
holds_at P (y ∷ xs) h x zero low e = subst P e h.0
holds_at P (y ∷ xs) h x (suc k) low e = holds_at P xs h.1 x k (omega arith) e

abbrev IsOneOfTwo : List Literal → Type 0
IsOneOfTwo c = (c ≡ positive_of 1 ∷ []) ⊎ (c ≡ positive_of 2 ∷ positive_of 3 ∷ [])

abbrev RefutesOneOfTwo : LogLine → Type 0
RefutesOneOfTwo (Refuted c) = IsOneOfTwo c
RefutesOneOfTwo line = ⊤

refuted_is : (c : List Literal) → Contains short_log (Refuted c) → IsOneOfTwo c
refuted_is c there = holds_at RefutesOneOfTwo short_log (tt, (tt, (tt, (tt, (tt, (tt, (inl refl, (tt, (inr refl, tt))))))))) (Refuted c) there.0 there.1 there.2

-- the criterion, the number and the variable of a Bound line
record Is (c : Criterion) (k x : ℕ) (d : Criterion) (m y : ℕ) : Type 0 where
  criterion : c ≡ d
  number : k ≡ m
  var : x ≡ y

abbrev IsOneOfThree : Criterion → ℕ → ℕ → Type 0
IsOneOfThree c k x = Is c k x Height 1 1 ⊎ Is c k x Height 2 2 ⊎ Is c k x Width 3 3

abbrev BoundsOneOfThree : LogLine → Type 0
BoundsOneOfThree (Bound c k x) = IsOneOfThree c k x.0
BoundsOneOfThree line = ⊤

is_itself : (c : Criterion) (k x : ℕ) → Is c k x c k x
is_itself c k x = record { criterion = refl; number = refl; var = refl }

bound_is : (c : Criterion) (k : ℕ) (x : Var) → Contains short_log (Bound c k x) → IsOneOfThree c k x.0
bound_is c k x there = holds_at BoundsOneOfThree short_log
    (tt, (tt, (inl (is_itself Height 1 1), (inr (inl (is_itself Height 2 2)), (inr (inr (is_itself Width 3 3)), (tt, (tt, (tt, (tt, tt))))))))) (Bound c k x)
    there.0 there.1 there.2

said : (greatest : Criterion → ℕ) (c : Criterion) (k : ℕ) (l : Literal) → SaysAtLeast greatest short_log c k l → IsOneOfThree c k l.var
said greatest c k l s =
    let e : l.var ≡ s.variable.0 = ap (λ m. m.var) s.is in
    subst (λ x. IsOneOfThree c k x) (sym e) (bound_is c k s.variable s.told)

-- ---- it derives, and is met

rup_itself_one : (clauses : Clauses) → Contains clauses (positive_of 1 ∷ []) → Rup clauses (positive_of 1 ∷ [])
rup_itself_one clauses there = record {
  clause = positive_of 1 ∷ [];
  among = there;
  each = All-cons (λ k. Closure clauses (negations (positive_of 1 ∷ [])) (negate k)) (positive_of 1) [] (λ set closed includes. includes (negative_of 1) refl)
      (All-nil (λ k. Closure clauses (negations (positive_of 1 ∷ [])) (negate k)));
}

rup_itself_two : (clauses : Clauses) → Contains clauses (positive_of 2 ∷ positive_of 3 ∷ []) → Rup clauses (positive_of 2 ∷ positive_of 3 ∷ [])
rup_itself_two clauses there =
    let P : Literal → Type 0 = λ k. Closure clauses (negations (positive_of 2 ∷ positive_of 3 ∷ [])) (negate k) in
    record {
      clause = positive_of 2 ∷ positive_of 3 ∷ [];
      among = there;
      each = All-cons P (positive_of 2) (positive_of 3 ∷ []) (λ set closed includes. includes (negative_of 2) refl)
          (All-cons P (positive_of 3) [] (λ set closed includes. includes (negative_of 3) refl) (All-nil P));
    }

named_none : (n : ℕ) → All (λ (l : Literal). l.var ≤ n) []
named_none n = All-nil (λ (l : Literal). l.var ≤ n)

named_one : (n x : ℕ) (sign : Bool) → x ≤ n → All (λ (l : Literal). l.var ≤ n) (record { var = x; positive = sign } ∷ [])
named_one n x sign h = All-cons (λ (l : Literal). l.var ≤ n) (record { var = x; positive = sign }) [] h (named_none n)

named_two : (n x y : ℕ) (sign : Bool) → x ≤ n → y ≤ n → All (λ (l : Literal). l.var ≤ n) (record {
  var = x;
  positive = sign;
} ∷ record { var = y; positive = sign } ∷ [])
named_two n x y sign h k = All-cons (λ (l : Literal). l.var ≤ n) (record {
  var = x;
  positive = sign;
}) (record { var = y; positive = sign } ∷ []) h (named_one n y sign k)

pub short_log_derives : Derives short_log
short_log_derives =
    let l0 : Lines = [] in
    let l1 : Lines = Formula (positive_of 1 ∷ []) ∷ [] in
    let l2 : Lines = l1 ++ Formula (positive_of 2 ∷ positive_of 3 ∷ []) ∷ [] in
    let l3 : Lines = l2 ++ Bound Height 1 (variable 1) ∷ [] in
    let l4 : Lines = l3 ++ Bound Height 2 (variable 2) ∷ [] in
    let l5 : Lines = l4 ++ Bound Width 3 (variable 3) ∷ [] in
    let l6 : Lines = l5 ++ Query (negative_of 1 ∷ []) ∷ [] in
    let l7 : Lines = l6 ++ Refuted (positive_of 1 ∷ []) ∷ [] in
    let l8 : Lines = l7 ++ Query (negative_of 2 ∷ negative_of 3 ∷ []) ∷ [] in
    let d1 : Derives l1 = derives_more l0 (Formula (positive_of 1 ∷ [])) derives_none (record {
      named = named_none 0;
      answers = tt;
      implied = tt;
      says_more = tt;
    }) in
    let d2 : Derives l2 = derives_more l1 (Formula (positive_of 2 ∷ positive_of 3 ∷ [])) d1 (record {
      named = named_none 1;
      answers = tt;
      implied = tt;
      says_more = tt;
    }) in
    let d3 : Derives l3 = derives_more l2 (Bound Height 1 (variable 1)) d2 (record { named = named_none 3; answers = tt; implied = tt; says_more = tt }) in
    let d4 : Derives l4 = derives_more l3 (Bound Height 2 (variable 2)) d3 (record { named = named_none 3; answers = tt; implied = tt; says_more = tt }) in
    let d5 : Derives l5 = derives_more l4 (Bound Width 3 (variable 3)) d4 (record { named = named_none 3; answers = tt; implied = tt; says_more = tt }) in
    let d6 : Derives l6 = derives_more l5 (Query (negative_of 1 ∷ [])) d5 (record {
      named = named_one 3 1 false (omega arith);
      answers = tt;
      implied = tt;
      says_more = tt;
    }) in
    let d7 : Derives l7 = derives_more l6 (Refuted (positive_of 1 ∷ [])) d6 (record {
      named = named_one 3 1 true (omega arith);
      answers = All-cons (λ l. Contains (negative_of 1 ∷ []) (negate l)) (positive_of 1) [] (0, omega arith, refl)
          (All-nil (λ l. Contains (negative_of 1 ∷ []) (negate l)));
      implied = rup_itself_one (flat_map added l6) (0, omega arith, refl);
      says_more = tt;
    }) in
    let d8 : Derives l8 = derives_more l7 (Query (negative_of 2 ∷ negative_of 3 ∷ [])) d7 (record {
      named = named_two 3 2 3 false (omega arith) (omega arith);
      answers = tt;
      implied = tt;
      says_more = tt;
    }) in
    let Q : Literal → Type 0 = λ l. Contains (negative_of 2 ∷ negative_of 3 ∷ []) (negate l) in
    derives_more l8 (Refuted (positive_of 2 ∷ positive_of 3 ∷ [])) d8 (record {
      named = named_two 3 2 3 true (omega arith) (omega arith);
      answers = All-cons Q (positive_of 2) (positive_of 3 ∷ []) (0, omega arith, refl) (All-cons Q (positive_of 3) [] (1, omega arith, refl) (All-nil Q));
      implied = rup_itself_two (flat_map added l8) (1, omega arith, refl);
      says_more = tt;
    })

abbrev but_two : Assignment
but_two zero = true
but_two (suc zero) = true
but_two (suc (suc zero)) = false
but_two (suc (suc (suc n))) = true

pub short_log_is_met : MeetsLog short_log (measured 1 0 0 3)
short_log_is_met = record {
  assignment = but_two;
  formula = (inl refl, (inr (inl refl), tt));
  bounds = λ c k x there. elim (bound_is c k x there) [
    | inl b ↦ exactly c k x b (inl (refl, (let low : 1 ≤ 1 = omega arith in low)))
    | inr (inl b) ↦ exactly c k x b (inr ((λ e. cc), λ (low : 2 ≤ 1). omega arith))
    | inr (inr b) ↦ exactly c k x b (inl (refl, (let low : 3 ≤ 3 = omega arith in low)))
  ];
}
  where
    exactly : (c : Criterion) (k : ℕ) (x : Var) {d : Criterion} {m y : ℕ} → Is c k x.0 d m y →
        (((but_two y ≡ true) × (m ≤ value_of (measured 1 0 0 3) d)) ⊎ ((but_two y ≡ true → ⊥) × (m ≤ value_of (measured 1 0 0 3) d → ⊥))) →
        (but_two x.0 ≡ true) ↔ (k ≤ value_of (measured 1 0 0 3) c)
    exactly c k x {d} {m} {y} b which =
        let t : but_two x.0 ≡ but_two y = ap but_two b.var in
        let v : value_of (measured 1 0 0 3) c ≡ value_of (measured 1 0 0 3) d = ap (value_of (measured 1 0 0 3)) b.criterion in
        let n = b.number in
        elim which [
          | inl both ↦ (λ e. (let h = both.1 in omega (arith, h, v, n)), λ h. t ∙ both.0)
          | inr neither ↦ (λ e. absurd (neither.0 (sym t ∙ e)), λ h. absurd (neither.1 (omega (arith, h, v, n))))
        ]

-- ---- what it certifies

says : (greatest : Criterion → ℕ) (c : Criterion) (k x : ℕ) → k ≤ greatest c → Contains short_log (Bound c k (variable x)) →
    SaysAtLeast greatest short_log c k (positive_of x)
says greatest c k x within told = record { within = within; variable = variable x; told = told; is = refl }

pub height_then_width_certified : Certifies (height_up_to 9) short_log height_then_width (measured 1 0 0 3) 2
height_then_width_certified zero c low at = subst (λ b. IsCertifiedLeast (height_up_to 9) short_log [] b (measured 1 0 0 3)) (same_Some Height c at)
    (λ positive. record {
      clause = positive_of 1 ∷ [];
      among = (6, omega arith, refl);
      each =
          let P : Literal → Type 0 = IsOutOfReach (height_up_to 9) short_log [] Height (measured 1 0 0 3) in
          All-cons P (positive_of 1) [] (inr (says (height_up_to 9) Height 1 1 (omega arith) (2, omega arith, refl))) (All-nil P);
    })
height_then_width_certified (suc zero) c low at = subst (λ b. IsCertifiedLeast (height_up_to 9) short_log (Height ∷ []) b (measured 1 0 0 3))
    (same_Some Width c at) (λ positive. record {
      clause = positive_of 2 ∷ positive_of 3 ∷ [];
      among = (8, omega arith, refl);
      each =
          let P : Literal → Type 0 = IsOutOfReach (height_up_to 9) short_log (Height ∷ []) Width (measured 1 0 0 3) in
          All-cons P (positive_of 2) (positive_of 3 ∷ []) (inl (
            0,
            Height,
            omega arith,
            refl,
            says (height_up_to 9) Height 2 2 (omega arith)
                (3, omega arith, refl),
          ))
          (All-cons P (positive_of 3) [] (inr (says (height_up_to 9) Width 3 3 (omega arith) (4, omega arith, refl))) (All-nil P));
    })
height_then_width_certified (suc (suc i)) c low at = absurd (omega arith)

all_zero : (c : Criterion) → value_of (measured 0 0 0 0) c ≡ 0
all_zero Height = refl
all_zero Bends = refl
all_zero Diagonal = refl
all_zero Width = refl

pub zeros_certified : Certifies (height_up_to 9) [] all_four (measured 0 0 0 0) 4
zeros_certified = λ i c low at. λ positive. absurd (let e = all_zero c in omega (arith, e, positive))

pub none_certified : CertifiesNone (short_log ++ Refuted [] ∷ [])
none_certified = (9, omega arith, refl)

-- ---- what it lacks

pub no_empty_clause : CertifiesNone short_log → ⊥
no_empty_clause h = elim (refuted_is [] h) [ inl e ↦ cc | inr e ↦ cc ]

first_literal : (P : Literal → Type 0) (c : List Literal) → IsOneOfTwo c → All P c → P (positive_of 1) ⊎ (P (positive_of 2) × P (positive_of 3))
first_literal P c (inl e) h = inl (All-head P (positive_of 1) [] (subst (All P) e h))
first_literal P c (inr e) h =
    let all = subst (All P) e h in
    inr (All-head P (positive_of 2) (positive_of 3 ∷ []) all, All-head P (positive_of 3) [] (All-tail P (positive_of 2) (positive_of 3 ∷ []) all))

pub width_first_lacks : Certifies (height_up_to 9) short_log width_then_height (measured 1 0 0 3) 1 → ⊥
width_first_lacks h =
    let r = h 0 Width (omega arith) refl (let low : 1 ≤ 3 = omega arith in low) in
    elim (first_literal (IsOutOfReach (height_up_to 9) short_log [] Width (measured 1 0 0 3)) r.clause (refuted_is r.clause r.among) r.each) [
      | inl p ↦ cannot 1 (omega arith) p
      | inr ps ↦ cannot 2 (omega arith) ps.0
    ]
  where
    cannot : (x : ℕ) → x < 3 → IsOutOfReach (height_up_to 9) short_log [] Width (measured 1 0 0 3) (positive_of x) → ⊥
    cannot x less (inl any) = let low = any.2 in omega arith
    cannot x less (inr s) = elim (said (height_up_to 9) Width 3 (positive_of x) s) [
      | inl b ↦ let n = b.number in omega (arith, n)
      | inr (inl b) ↦ let n = b.number in omega (arith, n)
      | inr (inr b) ↦ let v = b.var in omega (arith, v, less)
    ]

pub greater_height_lacks : Certifies (height_up_to 9) short_log height_then_width (measured 2 0 0 3) 1 → ⊥
greater_height_lacks h =
    let r = h 0 Height (omega arith) refl (let low : 1 ≤ 2 = omega arith in low) in
    elim (first_literal (IsOutOfReach (height_up_to 9) short_log [] Height (measured 2 0 0 3)) r.clause (refuted_is r.clause r.among) r.each) [
      | inl p ↦ cannot 1 (λ e. omega (arith, e)) p
      | inr ps ↦ cannot 3 (λ e. omega (arith, e)) ps.1
    ]
  where
    cannot : (x : ℕ) → (x ≡ 2 → ⊥) → IsOutOfReach (height_up_to 9) short_log [] Height (measured 2 0 0 3) (positive_of x) → ⊥
    cannot x other (inl any) = let low = any.2 in omega arith
    cannot x other (inr s) = elim (said (height_up_to 9) Height 2 (positive_of x) s) [
      | inl b ↦ let n = b.number in omega (arith, n)
      | inr (inl b) ↦ other b.var
      | inr (inr b) ↦ let n = b.number in omega (arith, n)
    ]

pub capped_height_lacks : Certifies (height_up_to 1) short_log height_then_width (measured 1 0 0 3) 2 → ⊥
capped_height_lacks h =
    let r = h 1 Width (omega arith) refl (let low : 1 ≤ 3 = omega arith in low) in
    elim (first_literal (IsOutOfReach (height_up_to 1) short_log (Height ∷ []) Width (measured 1 0 0 3)) r.clause (refuted_is r.clause r.among) r.each) [
      | inl p ↦ cannot 1 (omega arith) p
      | inr ps ↦ cannot 2 (omega arith) ps.0
    ]
  where
    earlier : (b : Criterion) (k : ℕ) (l : Literal) → k ≡ value_of (measured 1 0 0 3) b + 1 → SaysAtLeast (height_up_to 1) short_log b k l → l.var < 3 → ⊥
    earlier b k l e s less = elim (said (height_up_to 1) b k l s) [
      | inl i ↦ (let n = i.number in let v : value_of (measured 1 0 0 3) b ≡ 1 = ap (value_of (measured 1 0 0 3)) i.criterion in omega (arith, n, v, e))
      | inr (inl i) ↦ (let n = i.number in let w = s.within in let g : height_up_to 1 b ≡ 1 = ap (height_up_to 1) i.criterion in omega (arith, n, w, g))
      | inr (inr i) ↦ (let v = i.var in omega (arith, v, less))
    ]

    cannot : (x : ℕ) → x < 3 → IsOutOfReach (height_up_to 1) short_log (Height ∷ []) Width (measured 1 0 0 3) (positive_of x) → ⊥
    cannot x less (inl any) = earlier any.1 (value_of (measured 1 0 0 3) any.1 + 1) (positive_of x) refl any.4 less
    cannot x less (inr s) = elim (said (height_up_to 1) Width 3 (positive_of x) s) [
      | inl b ↦ let n = b.number in omega (arith, n)
      | inr (inl b) ↦ let n = b.number in omega (arith, n)
      | inr (inr b) ↦ let v = b.var in omega (arith, v, less)
    ]

-- ---- what is settled

pub one_is_settled : IsSettled (height_up_to 9) short_log height_then_width (measured 1 0 0 3) 1
one_is_settled = record {
  below = omega arith;
  certified = λ i c low at. height_then_width_certified i c (omega (arith, low)) at;
  most = λ t below certified. (let b : t < 2 = below in omega (arith, b));
}
