-- What the lines of told bounds are: they cover the drawings, no two of their bounds have one variable, and how many there are.
use Rattle.std.proofs.Common.{◌≡◌, ◌≢◌, ◌≤◌, ℕ, ◌+◌, ◌⊎◌, Bool, true, false, cond, List, [], ◌∷◌, ◌++◌, length, map, refl, sym, ◌∙◌, ap, subst, inl, inr}
use Rattle.std.proofs.Common.{arith, append-nil}
use Rattle.std.specs.Prelude.{All, AllPairs, Contains, flat_map, fold, min}
use Rattle.std.proofs.lemmas.Grind.{flat_map-append}
use Rattle.std.proofs.lemmas.List.Elements.{All-head, All-tail, All-weaker, Contains-append_cases, Contains-append_right}
use Rattle.plan_core.specs.declared.criterion.Criterion.{Criterion}
use Rattle.plan_core.specs.declared.criterion.Criterion.TheVariants.{Height, Bends, Diagonal, Width}
use Rattle.plan_core.specs.Grid.{GridSize}
use Rattle.plan_core.specs.Graph.{Graph}
use Rattle.plan_core.specs.Values.{values_of, limit_of}
use Rattle.plan_core.proofs.Listing.{Contains-flat_map}
use Rattle.plan_core.proofs.ListFacts.{pairs_head, pairs_tail}
use Rattle.cnf_core.specs.declared.literal.Var.{Var}
use Rattle.track_order.specs.Order.{is_above, is_overlap}
use Rattle.refute_log.specs.declared.line.LogLine.TheVariants.{Formula, Bound as BoundLine}
use Rattle.refute_log.specs.Told.{Lines}
use Rattle.refute_log.specs.Log.{learnt, clause_line, clause_lines}
use Rattle.cnf_core.specs.declared.limits.TheConstants.{VARS}
use Rattle.cdcl_core.specs.Kept.{Kept}
use Rattle.cdcl_core.specs.Belongs.{Belongs}
use Rattle.refute_log.specs.Bounds.{CoversDrawings}
use Rattle.refute_log.specs.Expected.{same_criterion, bound_var, bound_vars, bound_lines, caps}
use Rattle.refute_log.proofs.MeetsLemmas.{meets_front}
use Rattle.refute_log.proofs.CapsLemmas.{bounds_same, bounds_other, formulas_none, bounds_of_clauses, differs}
use Rattle.refute_log.proofs.ExpectedLemmas.{same_itself, same_tells}
use Rattle.drawing_cnf.specs.Stands.{DrawingVars}
use Rattle.drawing_cnf.specs.Expected.{drawing_vars, formula_clauses, formula_size}
use Rattle.drawing_cnf.specs.Bounds.{bound_size}
use Rattle.drawing_cnf.specs.Bounded.{Bound, clauses_of_bound, size_of_bound, AreBehind}
use Rattle.search_least.specs.Asked.{AreApart}
use Rattle.drawing_cnf.specs.Lists.{variables_behind, lines_of_bound}
use Rattle.drawing_cnf.specs.Layout.{Layout}
use Rattle.lex_minimise.specs.Known.{told_lines, with_bound, no_caps, caps_of, AreTold, KnowsLines}
use Rattle.drawing_cnf.proofs.CoverLemmas.{meets_with}
use Rattle.drawing_cnf.proofs.ListLemmas.{first_line, length-variables, IsBoundLine, IsOfBound, in_lines}

-- ---- they cover

pub lines_cover : (y : Layout) (told : List Bound) (lines : Lines) → AreTold y told → clause_lines lines ≡ told_lines y told →
    CoversDrawings y.graph (is_above y.order) y.grid lines
lines_cover y told lines facts is = λ d lawful.
    meets_front (told_lines y told) lines (values_of d) ([], sym is ∙ sym (append-nil (clause_lines lines)))
    (meets_with y.graph (is_above y.order) (is_overlap y.order) y.grid told d (facts.covers d lawful))

-- ---- no two bounds have one variable

pub cap_within : (g : Graph) (x : DrawingVars) (grid : GridSize) (b : Bound) → b.cap ≤ size_of_bound g x grid b
cap_within g x grid b = by b.criterion
  where
    by : (c : Criterion) → b.cap ≤ bound_size g x grid b.last b.cap c
    by Height = omega arith
    by Bends = omega arith
    by Diagonal = omega arith
    by Width = omega arith

all_behind : (g : Graph) (x : DrawingVars) (grid : GridSize) (vars : ℕ) (told : List Bound) → AreBehind g x grid vars told → (b : Bound) → Contains told b →
    vars ≤ b.last
all_behind g x grid vars [] h b there = absurd (let lt = there.1 in omega arith)
all_behind g x grid vars (a ∷ rest) h b there = elim (Contains-append_cases (a ∷ []) rest b there) [
  | inl here ↦ let e : a ≡ b = first_line a b here in subst (λ (c : Bound). vars ≤ c.last) e h.0
  | inr later ↦ let le = all_behind g x grid (a.last + size_of_bound g x grid a) rest h.1 b later in let first = h.0 in omega arith
]

-- the bound of a variable is one
pub one_bound : (g : Graph) (x : DrawingVars) (grid : GridSize) (vars : ℕ) (told : List Bound) → AreBehind g x grid vars told → (a b : Bound) (j k : ℕ) →
    Contains told a → Contains told b → 1 ≤ j → j ≤ a.cap → 1 ≤ k → k ≤ b.cap → a.last + j ≡ b.last + k → a ≡ b
one_bound g x grid vars [] h a b j k ia ib low high from to same = absurd (let lt = ia.1 in omega arith)
one_bound g x grid vars (c ∷ rest) h a b j k ia ib low high from to same =
    elim (Contains-append_cases (c ∷ []) rest a ia) [
      | inl ha ↦ elim (Contains-append_cases (c ∷ []) rest b ib) [
        | inl hb ↦ sym (first_line c a ha) ∙ first_line c b hb
        | inr lb ↦
            let e : c ≡ a = first_line c a ha in
            let le = all_behind g x grid (c.last + size_of_bound g x grid c) rest h.1 b lb in
            let size = cap_within g x grid c in
            let cap : c.cap ≡ a.cap = ap (λ (z : Bound). z.cap) e in
            let last : c.last ≡ a.last = ap (λ (z : Bound). z.last) e in
            absurd (omega arith)
      ]
      | inr la ↦ elim (Contains-append_cases (c ∷ []) rest b ib) [
        | inl hb ↦
            let e : c ≡ b = first_line c b hb in
            let le = all_behind g x grid (c.last + size_of_bound g x grid c) rest h.1 a la in
            let size = cap_within g x grid c in
            let cap : c.cap ≡ b.cap = ap (λ (z : Bound). z.cap) e in
            let last : c.last ≡ b.last = ap (λ (z : Bound). z.last) e in
            absurd (omega arith)
        | inr lb ↦ one_bound g x grid (c.last + size_of_bound g x grid c) rest h.1 a b j k la lb low high from to same
      ]
    ]

told_bound : (y : Layout) (told : List Bound) (lines : Lines) → clause_lines lines ≡ told_lines y told → (c : Criterion) (k : ℕ) (x : Var) →
    Contains lines (BoundLine c k x) → IsOfBound told c k x
told_bound y told lines is c k x there =
    in_lines y.graph (is_above y.order) (is_overlap y.order) y.grid told c k x
    (subst (λ (ls : Lines). Contains ls (BoundLine c k x)) is (Contains-flat_map clause_line lines (BoundLine c k x) (BoundLine c k x) there
    (0, omega arith, refl)))

pub lines_apart : (y : Layout) (told : List Bound) (lines : Lines) → AreTold y told → clause_lines lines ≡ told_lines y told → AreApart lines
lines_apart y told lines facts is = λ c d k n x z ia ib same.
    let a = told_bound y told lines is c k x ia in
    let b = told_bound y told lines is d n z ib in
    let la : IsBoundLine (a.told).criterion 1 (a.told).last (a.told).cap c k x = a.line in
    let lb : IsBoundLine (b.told).criterion 1 (b.told).last (b.told).cap d n z = b.line in
    let fa = la.from in
    let ta = la.to in
    let sa = la.is in
    let fb = lb.from in
    let tb = lb.to in
    let sb = lb.is in
    let place : (a.told).last + k ≡ (b.told).last + n = omega arith in
    let one : a.told ≡ b.told = one_bound y.graph (drawing_vars y.graph y.grid) y.grid (formula_size y.graph (is_above y.order) (is_overlap y.order) y.grid)
    told facts.behind a.told b.told k n a.among b.among fa (omega arith) fb (omega arith) place in
    let last : (a.told).last ≡ (b.told).last = ap (λ (e : Bound). e.last) one in
    (sym la.same ∙ ap (λ (e : Bound). e.criterion) one ∙ lb.same, (omega arith))

-- ---- how many bounds there are

block_same : (g : Graph) (x : DrawingVars) (grid : GridSize) (b : Bound) (c : Criterion) → b.criterion ≡ c →
    length (bound_vars c (lines_of_bound g x grid b)) ≡ b.cap
block_same g x grid b c e =
    let vs = variables_behind b.last b.cap in
    ap length (flat_map-append (bound_var c) (map Formula (clauses_of_bound g x grid b)) (bound_lines b.criterion 1 vs)
    ∙ ap (λ (ys : List Var). ys ++ bound_vars c (bound_lines b.criterion 1 vs)) (formulas_none c (clauses_of_bound g x grid b))
    ∙ ap (λ d. bound_vars c (bound_lines d 1 vs)) e ∙ bounds_same c 1 vs) ∙ length-variables b.last b.cap

block_other : (g : Graph) (x : DrawingVars) (grid : GridSize) (b : Bound) (c : Criterion) → c ≢ b.criterion → bound_vars c (lines_of_bound g x grid b) ≡ []
block_other g x grid b c ne =
    let vs = variables_behind b.last b.cap in
    flat_map-append (bound_var c) (map Formula (clauses_of_bound g x grid b)) (bound_lines b.criterion 1 vs)
    ∙ ap (λ (ys : List Var). ys ++ bound_vars c (bound_lines b.criterion 1 vs)) (formulas_none c (clauses_of_bound g x grid b))
    ∙ bounds_other c b.criterion 1 vs (differs c b.criterion ne)

blocks_first : (g : Graph) (x : DrawingVars) (grid : GridSize) (b : Bound) (bs : List Bound) (c : Criterion) →
    bound_vars c (flat_map (lines_of_bound g x grid) (b ∷ bs)) ≡ bound_vars c (lines_of_bound g x grid b) ++ bound_vars c
    (flat_map (lines_of_bound g x grid) bs)
blocks_first g x grid b bs c = flat_map-append (bound_var c) (lines_of_bound g x grid b) (flat_map (lines_of_bound g x grid) bs)

with_other : (f : Criterion → ℕ) (b : Bound) (c : Criterion) → c ≢ b.criterion → with_bound f b c ≡ f c
with_other f b c ne = by (same_criterion b.criterion c) refl
  where
    by : (t : Bool) → same_criterion b.criterion c ≡ t → with_bound f b c ≡ f c
    by true e = absurd (ne (sym (same_tells b.criterion c e)))
    by false e = ap (λ t. cond t b.cap (f c)) e

pub none_of : (g : Graph) (x : DrawingVars) (grid : GridSize) (f : Criterion → ℕ) (told : List Bound) (c : Criterion) → All (λ b. c ≢ b.criterion) told →
    (bound_vars c (flat_map (lines_of_bound g x grid) told) ≡ []) × (fold with_bound f told c ≡ f c)
none_of g x grid f [] c h = (refl, refl)
none_of g x grid f (b ∷ bs) c h =
    let ne : c ≢ b.criterion = All-head (λ b. c ≢ b.criterion) b bs h in
    let rest = none_of g x grid (with_bound f b) bs c (All-tail (λ b. c ≢ b.criterion) b bs h) in (
      blocks_first g x grid b bs c ∙ ap (λ (ys : List Var). ys ++ bound_vars c (flat_map (lines_of_bound g x grid) bs)) (block_other g x grid b c ne) ∙ rest.0,
      rest.1 ∙ with_other f b c ne,
    )

not_same : (b c : Criterion) → same_criterion b c ≡ false → c ≢ b
not_same b c e same = let k : same_criterion b c ≡ true = ap (same_criterion b) same ∙ same_itself b in let both : true ≡ false = sym k ∙ e in cc

count_step : (g : Graph) (x : DrawingVars) (grid : GridSize) (f : Criterion → ℕ) (b : Bound) (bs : List Bound) (c : Criterion) (t : Bool) →
    same_criterion b.criterion c ≡ t → AllPairs (λ a d. a.criterion ≢ d.criterion) (b ∷ bs) →
    (with_bound f b c ≡ 0 → length (bound_vars c (flat_map (lines_of_bound g x grid) bs)) ≡ fold with_bound (with_bound f b) bs c) → f c ≡ 0 →
    length (bound_vars c (flat_map (lines_of_bound g x grid) (b ∷ bs))) ≡ fold with_bound f (b ∷ bs) c
count_step g x grid f b bs c true e once rest zero =
    let is : b.criterion ≡ c = same_tells b.criterion c e in
    let others : All (λ d. c ≢ d.criterion) bs = All-weaker (λ d. b.criterion ≢ d.criterion) (λ d. c ≢ d.criterion) (λ d ne same. ne (is ∙ same)) bs
    (pairs_head (λ a d. a.criterion ≢ d.criterion) b bs once) in
    let none = none_of g x grid (with_bound f b) bs c others in
    let here : with_bound f b c ≡ b.cap = ap (λ t. cond t b.cap (f c)) e in
    ap length (blocks_first g x grid b bs c ∙ ap (λ (ys : List Var). bound_vars c (lines_of_bound g x grid b) ++ ys) none.0
    ∙ append-nil (bound_vars c (lines_of_bound g x grid b)))
    ∙ block_same g x grid b c is ∙ sym here ∙ sym none.1
count_step g x grid f b bs c false e once rest zero =
    let ne = not_same b.criterion c e in
    ap length (blocks_first g x grid b bs c ∙ ap (λ (ys : List Var). ys ++ bound_vars c (flat_map (lines_of_bound g x grid) bs)) (block_other g x grid b c ne))
    ∙ rest (with_other f b c ne ∙ zero)

count_of : (g : Graph) (x : DrawingVars) (grid : GridSize) (f : Criterion → ℕ) (told : List Bound) (c : Criterion) →
    AllPairs (λ a b. a.criterion ≢ b.criterion) told → f c ≡ 0 →
    length (bound_vars c (flat_map (lines_of_bound g x grid) told)) ≡ fold with_bound f told c
count_of g x grid f [] c once zero = sym zero
count_of g x grid f (b ∷ bs) c once zero =
    count_step g x grid f b bs c (same_criterion b.criterion c) refl once (count_of g x grid (with_bound f b) bs c
    (pairs_tail (λ a d. a.criterion ≢ d.criterion) b bs once)) zero

fold_within : (f : Criterion → ℕ) (told : List Bound) (most : Criterion → ℕ) (c : Criterion) → f c ≤ most c → All (λ b. b.cap ≤ most b.criterion) told →
    fold with_bound f told c ≤ most c
fold_within f [] most c le h = le
fold_within f (b ∷ bs) most c le h = fold_within (with_bound f b) bs most c (by (same_criterion b.criterion c) refl)
    (All-tail (λ b. b.cap ≤ most b.criterion) b bs h)
  where
    by : (t : Bool) → same_criterion b.criterion c ≡ t → with_bound f b c ≤ most c
    by true e =
        let is : b.criterion ≡ c = same_tells b.criterion c e in
        let here : with_bound f b c ≡ b.cap = ap (λ t. cond t b.cap (f c)) e in
        let top : b.cap ≤ most b.criterion = All-head (λ b. b.cap ≤ most b.criterion) b bs h in
        subst (λ n. n ≤ most c) (sym here) (subst (λ d. b.cap ≤ most d) is top)
    by false e = subst (λ n. n ≤ most c) (sym (ap (λ t. cond t b.cap (f c)) e)) le

pub lines_counted : (y : Layout) (told : List Bound) (lines : Lines) (c : Criterion) → AreTold y told → clause_lines lines ≡ told_lines y told →
    caps (limit_of y.graph y.grid) lines c ≡ caps_of told c
lines_counted y told lines c facts is =
    let g = y.graph in
    let x = drawing_vars y.graph y.grid in
    let first = map Formula (formula_clauses g (is_above y.order) (is_overlap y.order) y.grid) in
    let count : length (bound_vars c lines) ≡ caps_of told c =
    ap length (sym (bounds_of_clauses c lines) ∙ ap (bound_vars c) is ∙ flat_map-append (bound_var c) first (flat_map (lines_of_bound g x y.grid) told)
    ∙ ap (λ (ys : List Var). ys ++ bound_vars c (flat_map (lines_of_bound g x y.grid) told))
    (formulas_none c (formula_clauses g (is_above y.order) (is_overlap y.order) y.grid)))
    ∙ count_of g x y.grid no_caps told c facts.once refl in
    let within : caps_of told c ≤ limit_of y.graph y.grid c = fold_within no_caps told (limit_of y.graph y.grid) c (omega arith) facts.within in
    least_is (length (bound_vars c lines)) (caps_of told c) (limit_of y.graph y.grid c) count within
  where
    least_is : (m n top : ℕ) → m ≡ n → n ≤ top → min m top ≡ n
    least_is m n top e le = omega arith

-- so they are known, where they belong to the solver
pub known_lines : (y : Layout) (told : List Bound) (budget room : ℕ) (k : Kept) (lines : Lines) → AreTold y told → Belongs lines k →
    clause_lines lines ≡ told_lines y told → k.learnt ≡ length (flat_map learnt lines) → k.learnt ≤ budget → k.words ≤ room → k.vars ≤ VARS →
    KnowsLines y told budget room k lines
known_lines y told budget room k lines facts belongs are count spent fits few = record {
  facts = facts;
  belongs = belongs;
  told_are = are;
  learnt_are = count;
  spent = spent;
  covers = lines_cover y told lines facts are;
  counted = λ c. lines_counted y told lines c facts are;
  apart = lines_apart y told lines facts are;
  fits = subst (λ n. n ≤ room) belongs.words fits;
  few = few;
}

-- a criterion that has bounds has one among those told
pub record HasTold (told : List Bound) (c : Criterion) (n : ℕ) : Type 0 where
  pub bound : Bound
  pub among : Contains told bound
  pub same : bound.criterion ≡ c
  pub cap : bound.cap ≡ n

cap_found : (f : Criterion → ℕ) (told : List Bound) (c : Criterion) → (fold with_bound f told c ≡ f c) ⊎ HasTold told c (fold with_bound f told c)
cap_found f [] c = inl refl
cap_found f (b ∷ bs) c = elim (cap_found (with_bound f b) bs c) [
  | inl e ↦ by (same_criterion b.criterion c) refl e
  | inr h ↦ inr (record { bound = h.bound; among = Contains-append_right (b ∷ []) bs h.bound h.among; same = h.same; cap = h.cap })
]
  where
    by : (t : Bool) → same_criterion b.criterion c ≡ t → fold with_bound (with_bound f b) bs c ≡ with_bound f b c →
        (fold with_bound f (b ∷ bs) c ≡ f c) ⊎ HasTold (b ∷ bs) c (fold with_bound f (b ∷ bs) c)
    by true s e = inr (record { bound = b; among = (0, omega arith, refl); same = same_tells b.criterion c s; cap = sym (e ∙ ap (λ t. cond t b.cap (f c)) s) })
    by false s e = inl (e ∙ ap (λ t. cond t b.cap (f c)) s)

pub told_of : (told : List Bound) (c : Criterion) → 1 ≤ caps_of told c → HasTold told c (caps_of told c)
told_of told c positive = elim (cap_found no_caps told c) [
  | inl e ↦ absurd (let z : caps_of told c ≡ 0 = e in omega arith)
  | inr h ↦ h
]
