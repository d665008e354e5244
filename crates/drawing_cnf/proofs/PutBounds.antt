-- Bounds that are put one behind another: a bound's variables tell the value, and its sums count what they are to.
use Rattle.std.proofs.Common.{◌≡◌, ℕ, zero, suc, ◌+◌, ◌-◌, ◌≤◌, ◌<◌, List, [], ◌∷◌, ◌++◌, map, length, get_or, drop, refl, sym, ◌∙◌, ap, subst, arith, inl, inr}
use Rattle.std.specs.Prelude.{nat_le, All}
use Rattle.std.proofs.Math.Seq.{drop-cons}
use Rattle.std.proofs.lemmas.List.{drop_all}
use Rattle.std.proofs.lemmas.Bool.Decides.{eqb_tells}
use Rattle.std.proofs.lemmas.List.Elements.{All-head, All-tail}
use Rattle.plan_core.specs.declared.criterion.Criterion.{Criterion}
use Rattle.plan_core.specs.declared.criterion.Criterion.TheVariants.{Height, Bends, Diagonal, Width}
use Rattle.plan_core.specs.Grid.{GridSize}
use Rattle.plan_core.specs.Graph.{Graph}
use Rattle.plan_core.specs.Drawing.{Drawing}
use Rattle.plan_core.specs.Values.{values_of, value_of}
use Rattle.cnf_core.specs.Lit.{Literal}
use Rattle.cnf_core.specs.Clause.{AreThere}
use Rattle.cnf_core.specs.Assignment.{Assignment, SatisfiesAll, SameOutside}
use Rattle.cnf_core.specs.Formula.{each}
use Rattle.cnf_core.proofs.ClauseLemmas.{satisfies_append, satisfies_left, satisfies_right, satisfies_each, satisfies_all_same}
use Rattle.cnf_core.proofs.SettingLemmas.{same_none}
use Rattle.unary_sum.specs.Sum.{SumVars, sum_vars, sum_count, sum_clauses, count_true, sum_at_least}
use Rattle.unary_sum.proofs.SumLemmas.{sum_means, sum_there}
use Rattle.drawing_cnf.specs.declared.kept_bound.KeptBound.{KeptBound}
use Rattle.cnf_laws.specs.Stands.{DrawingVars}
use Rattle.cnf_laws.specs.Expected.{drawing_vars}
use Rattle.drawing_cnf.specs.Bounds.{IsExact, sum_bound, bend_lits, bends_sum, height_at, width_at, step_lits, steps_sum, edge_steps, edges_steps, edges_sums}
use Rattle.drawing_cnf.specs.Bounds.{edges_count, edge_most, diagonal_sum, steps_beside, west_first, bound_sums, bound_clauses, bound_size}
use Rattle.drawing_cnf.specs.Bounded.{Bound, clauses_of_bound, size_of_bound, bounds_clauses, AreBehind}
use Rattle.drawing_cnf.specs.Kept.{bound_of, HasSums, AreKept}
use Rattle.drawing_cnf.specs.Whole.{bounds_last}
use Rattle.drawing_cnf.specs.Puts.{IsPutTo, HoldsBefore, AreInRow, sums_size, sums_clauses}
use Rattle.cnf_laws.proofs.OverLemmas.{Read}
use Rattle.cnf_laws.proofs.ThereLemmas.{AreVars, vars_more}
use Rattle.cnf_laws.proofs.BaseLemmas.{base_last, base_vars}
use Rattle.drawing_cnf.proofs.BoundLemmas.{same_as_holds, bound_outputs, all_edges}
use Rattle.drawing_cnf.proofs.BendsBound.{count_bends, bends_lits_there}
use Rattle.drawing_cnf.proofs.HeightBound.{height_holds}
use Rattle.drawing_cnf.proofs.WidthBound.{width_holds}
use Rattle.drawing_cnf.proofs.DiagonalBound.{edge_diagonal, beside_holds, steps_there, outputs_there, outputs_tell}
use Rattle.drawing_cnf.proofs.WholeLemmas.{last_rises}
use Rattle.drawing_cnf.proofs.PutLaws.{put_to_read}

-- SUMS IN A ROW
row_edges : (vars : ℕ) (g : Graph) (x : DrawingVars) (width most : ℕ) (es : List ℕ) (rest : List SumVars) → AreVars vars g x width →
    All (λ e. e < length g.edges) es → AreInRow (vars + edges_count x width most vars es) rest → AreInRow vars (edges_sums x width most vars es ++ rest)
row_edges vars g x width most [] rest a there h = let z : vars + 0 ≡ vars = omega arith in subst (λ n. AreInRow n rest) z h
row_edges vars g x width most (e ∷ es) rest a there h =
    let s = steps_sum (x.edge e) width most vars in
    let next = vars + sum_count s in
    let lt = All-head (λ e. e < length g.edges) e es there in
    let z : vars + (sum_count s + edges_count x width most next es) ≡ next + edges_count x width most next es = omega arith in (
      refl,
      (
        steps_there vars (x.edge e) width 0 width (a.edge e lt) (omega arith),
        row_edges next g x width most es rest (vars_more vars next g x width (omega arith) a) (All-tail (λ e. e < length g.edges) e es there)
            (subst (λ n. AreInRow n rest) z h),
      ),
    )

pub bound_row : (vars : ℕ) (g : Graph) (x : DrawingVars) (grid : GridSize) (last cap : ℕ) (c : Criterion) → AreVars vars g x grid.width → vars ≤ last →
    AreInRow (last + cap) (bound_sums g x grid last cap c)
bound_row vars g x grid last cap Height a le = tt
bound_row vars g x grid last cap Bends a le = (refl, (bends_lits_there vars g x grid.width (west_first g) (last + cap) (omega arith) (all_edges g) a, tt))
bound_row vars g x grid last cap Diagonal a le =
    let most = edge_most grid cap in
    let b = vars_more vars (last + cap) g x grid.width (omega arith) a in
    row_edges (last + cap) g x grid.width most (west_first g) (diagonal_sum x grid (west_first g) last cap ∷ []) b (all_edges g).there
    (refl, (outputs_there (last + cap) g x grid.width most (west_first g) b (all_edges g).there, tt))
bound_row vars g x grid last cap Width a le = tt

sizes_edges : (x : DrawingVars) (width most vars : ℕ) (es : List ℕ) (rest : List SumVars) →
    sums_size (edges_sums x width most vars es ++ rest) ≡ edges_count x width most vars es + sums_size rest
sizes_edges x width most vars [] rest = omega arith
sizes_edges x width most vars (e ∷ es) rest = omega (arith, sizes_edges x width most (vars + sum_count (steps_sum (x.edge e) width most vars)) es rest)

pub bound_sums_size : (g : Graph) (x : DrawingVars) (grid : GridSize) (last cap : ℕ) (c : Criterion) →
    cap + sums_size (bound_sums g x grid last cap c) ≡ bound_size g x grid last cap c
bound_sums_size g x grid last cap Height = omega arith
bound_sums_size g x grid last cap Bends = omega arith
bound_sums_size g x grid last cap Diagonal =
    let more = sizes_edges x grid.width (edge_most grid cap) (last + cap) (west_first g) (diagonal_sum x grid (west_first g) last cap ∷ []) in
    omega arith
bound_sums_size g x grid last cap Width = omega arith

-- THE CLAUSES OF A BOUND
-- where the sum's clauses hold and the variables tell its count
sum_bound_holds : (v : Assignment) (inputs : List Literal) (last cap vars : ℕ) → SatisfiesAll v (sum_clauses (sum_vars inputs cap vars)) →
    IsExact v last cap (count_true v inputs) → SatisfiesAll v (sum_bound (sum_vars inputs cap vars) last)
sum_bound_holds v inputs last cap vars h exact =
    let s = sum_vars inputs cap vars in
    satisfies_append v (sum_clauses s) (each (bound_outputs s last) 1 cap) h
    (satisfies_each v (bound_outputs s last) 1 cap (λ k from to.
    same_as_holds v (last + k) (sum_at_least s k) (exact k from (omega arith) ∙ sym (sum_means v cap vars inputs h k (omega arith)))))

steps_hold : (v : Assignment) (g : Graph) (x : DrawingVars) (grid : GridSize) (d : Drawing) (most vars : ℕ) (es : List ℕ) (rest : List SumVars) →
    Read v g x grid d → All (λ e. e < length g.edges) es → SatisfiesAll v (sums_clauses (edges_sums x grid.width most vars es ++ rest)) →
    SatisfiesAll v (edges_steps x grid.width most vars es) × SatisfiesAll v (sums_clauses rest)
steps_hold v g x grid d most vars [] rest r there h = (tt, h)
steps_hold v g x grid d most vars (e ∷ es) rest r there h =
    let s = steps_sum (x.edge e) grid.width most vars in
    let inputs = step_lits (x.edge e) 0 grid.width in
    let next = vars + sum_count s in
    let lt = All-head (λ e. e < length g.edges) e es there in
    let one : SatisfiesAll v (sum_clauses s) = satisfies_left v (sum_clauses s) (sums_clauses (edges_sums x grid.width most next es ++ rest)) h in
    let more = steps_hold v g x grid d most next es rest r (All-tail (λ e. e < length g.edges) e es there)
    (satisfies_right v (sum_clauses s) (sums_clauses (edges_sums x grid.width most next es ++ rest)) h) in
    let beside = beside_holds v g x grid d e s r lt (λ k few. sum_means v most vars inputs one k few ∙ ap (nat_le k) (edge_diagonal v g x grid d e r lt)) in (
      satisfies_append v (edge_steps (x.edge e) s) (edges_steps x grid.width most next es)
          (satisfies_append v (sum_clauses s) (steps_beside (x.edge e) s) one beside) more.0,
      more.1,
    )

pub bound_holds : (v : Assignment) (g : Graph) (x : DrawingVars) (grid : GridSize) (d : Drawing) (last cap : ℕ) (c : Criterion) → Read v g x grid d →
    IsExact v last cap (value_of (values_of d) c) → SatisfiesAll v (sums_clauses (bound_sums g x grid last cap c)) →
    SatisfiesAll v (bound_clauses g x grid last cap c)
bound_holds v g x grid d last cap Height r exact h = satisfies_each v (λ k. height_at g x grid.width (last + k) k) 1 cap
    (λ k from to. height_holds v g x grid d (last + k) k r from (exact k from (omega arith)))
bound_holds v g x grid d last cap Bends r exact h =
    let s = bends_sum x (west_first g) last cap in
    sum_bound_holds v (bend_lits x (west_first g)) last cap (last + cap) (satisfies_left v (sum_clauses s) [] h)
    (λ k from to. exact k from to ∙ ap (nat_le k) (sym (count_bends v g x grid d (west_first g) (all_edges g) r)))
bound_holds v g x grid d last cap Diagonal r exact h =
    let most = edge_most grid cap in
    let es = west_first g in
    let s = diagonal_sum x grid es last cap in
    let both = steps_hold v g x grid d most (last + cap) es (s ∷ []) r (all_edges g).there h in
    satisfies_append v (edges_steps x grid.width most (last + cap) es) (sum_bound s last) both.0
    (sum_bound_holds v s.inputs last cap s.vars (satisfies_left v (sum_clauses s) [] both.1)
    (λ k from to. exact k from to ∙ sym (outputs_tell v g x grid d es cap (last + cap) k (all_edges g) r both.0 to)))
bound_holds v g x grid d last cap Width r exact h = satisfies_each v (λ k. width_at g x (last + k) k) 1 cap
    (λ k from to. width_holds v g x grid d (last + k) k r from (exact k from (omega arith)))

-- A BOUND'S VARIABLES, ONE AFTER ANOTHER
-- those below k tell the value
pub record IsPuttingBlock (last value : ℕ) (old now : Assignment) (k : ℕ) : Type 0 where
  pub told : (j : ℕ) → 1 ≤ j → j < k → now (last + j) ≡ nat_le j value
  pub same : SameOutside (last + 1) (k - 1) old now

pub block_start : (last value : ℕ) (v : Assignment) → IsPuttingBlock last value v v 1
block_start last value v = record { told = λ j from to. absurd (omega arith); same = same_none (last + 1) 0 v }

pub block_more : (last value : ℕ) (old now new : Assignment) (k : ℕ) → 1 ≤ k → IsPuttingBlock last value old now k → new (last + k) ≡ nat_le k value →
    ((y : ℕ) → (y ≡ last + k → ⊥) → new y ≡ now y) → IsPuttingBlock last value old new (k + 1)
block_more last value old now new k from p here others = record {
  told = λ j low lt. elim (eqb_tells j k) [
    | inl e ↦ ap (λ i. new (last + i)) e.1 ∙ here ∙ sym (ap (λ i. nat_le i value) e.1)
    | inr ne ↦ let differ = ne.1 in others (last + j) (λ e. differ (omega arith)) ∙ p.told j low (omega arith)
  ];
  same = record {
    below = λ y low. others y (λ e. omega arith) ∙ p.same.below y low;
    above = λ y high. others y (λ e. omega arith) ∙ p.same.above y (omega arith);
  };
}

-- A BOUND'S SUMS, ONE AFTER ANOTHER
pub record IsPuttingSums (vars : ℕ) (sums : List SumVars) (i : ℕ) (old now : Assignment) : Type 0 where
  pub next : ℕ
  pub from : vars ≤ next
  pub row : AreInRow next (drop i sums)
  pub total : next + sums_size (drop i sums) ≡ vars + sums_size sums
  pub same : SameOutside (vars + 1) (next - vars) old now
  pub left : (w : Assignment) → ((y : ℕ) → y < next + 1 → w y ≡ now y) → SatisfiesAll w (sums_clauses (drop i sums)) → SatisfiesAll w (sums_clauses sums)

pub sums_start : (vars : ℕ) (sums : List SumVars) (v : Assignment) → AreInRow vars sums → IsPuttingSums vars sums 0 v v
sums_start vars sums v h = record { next = vars; from = omega arith; row = h; total = refl; same = same_none (vars + 1) (vars - vars) v; left = λ w agree k. k }

-- a list spelt otherwise
pub item_within : (xs ys : List SumVars) (i : ℕ) → ys ≡ xs → i < length ys → i < length xs
item_within xs ys i e lt = subst (λ (l : List SumVars). i < length l) e lt

pub item_past : (xs ys : List SumVars) (i : ℕ) → ys ≡ xs → length ys ≤ i → length xs ≤ i
item_past xs ys i e le = subst (λ (l : List SumVars). length l ≤ i) e le

pub item_is : (xs ys : List SumVars) (i : ℕ) (s : SumVars) → ys ≡ xs → s ≡ get_or ys i s → s ≡ get_or xs i s
item_is xs ys i s e is = subst (λ (l : List SumVars). s ≡ get_or l i s) e is

-- the sum that is put next
pub record NextSum (vars : ℕ) (sums : List SumVars) (s : SumVars) : Type 0 where
  pub there : AreThere s.vars s.inputs
  pub from : vars ≤ s.vars
  pub to : s.vars + sum_count s ≤ vars + sums_size sums

pub next_sum : (vars : ℕ) (sums : List SumVars) (i : ℕ) (s : SumVars) (old now : Assignment) → i < length sums → s ≡ get_or sums i s →
    IsPuttingSums vars sums i old now → NextSum vars sums s
next_sum vars sums i s old now lt is p =
    let z : suc i ≡ i + 1 = omega arith in
    let cut : drop i sums ≡ s ∷ drop (i + 1) sums = drop-cons sums i s lt ∙ ap (λ (k : SumVars). k ∷ drop (suc i) sums) (sym is)
    ∙ ap (λ n. s ∷ drop n sums) z in
    let row : AreInRow p.next (s ∷ drop (i + 1) sums) = subst (λ (l : List SumVars). AreInRow p.next l) cut p.row in
    let sizes : sums_size (drop i sums) ≡ sum_count s + sums_size (drop (i + 1) sums) = ap sums_size cut in
    let at = row.0 in
    let total = p.total in
    let from = p.from in
    record { there = subst (λ n. AreThere n s.inputs) (sym at) row.1.0; from = omega arith; to = omega arith }

pub sums_more : (vars : ℕ) (sums : List SumVars) (i : ℕ) (s : SumVars) (old now new : Assignment) → i < length sums → s ≡ get_or sums i s →
    IsPuttingSums vars sums i old now → SatisfiesAll new (sum_clauses s) → SameOutside (s.vars + 1) (sum_count s) now new →
    IsPuttingSums vars sums (i + 1) old new
sums_more vars sums i s old now new lt is p model same =
    let z : suc i ≡ i + 1 = omega arith in
    let rest = drop (i + 1) sums in
    let cut : drop i sums ≡ s ∷ rest = drop-cons sums i s lt ∙ ap (λ (k : SumVars). k ∷ drop (suc i) sums) (sym is) ∙ ap (λ n. s ∷ drop n sums) z in
    let row : AreInRow p.next (s ∷ rest) = subst (λ (l : List SumVars). AreInRow p.next l) cut p.row in
    let sizes : sums_size (drop i sums) ≡ sum_count s + sums_size rest = ap sums_size cut in
    let at = row.0 in
    let there : AreThere s.vars s.inputs = subst (λ n. AreThere n s.inputs) (sym at) row.1.0 in
    let total = p.total in
    let from = p.from in
    record {
      next = p.next + sum_count s;
      from = omega arith;
      row = row.1.1;
      total = omega arith;
      same = record {
        below = λ y low. same.below y (omega arith) ∙ p.same.below y low;
        above = λ y high. same.above y (omega arith) ∙ p.same.above y (omega arith);
      };
      left = λ w agree h.
          p.left w (λ y low. agree y (omega arith) ∙ same.below y (omega arith))
          (subst (λ (l : List SumVars). SatisfiesAll w (sums_clauses l)) (sym cut)
          (satisfies_append w (sum_clauses s) (sums_clauses rest)
          (satisfies_all_same new w (s.vars + sum_count s) (sum_clauses s) (sum_there s.most s.vars s.inputs there) (λ y low. agree y (omega arith)) model) h));
    }

pub record SumsPut (vars : ℕ) (sums : List SumVars) (old now : Assignment) : Type 0 where
  pub same : SameOutside (vars + 1) (sums_size sums) old now
  pub holds : HoldsBefore (vars + sums_size sums + 1) now (sums_clauses sums)

pub sums_done : (vars : ℕ) (sums : List SumVars) (i : ℕ) (old now : Assignment) → length sums ≤ i → IsPuttingSums vars sums i old now →
    SumsPut vars sums old now
sums_done vars sums i old now le p =
    let none : drop i sums ≡ [] = drop_all i sums le in
    let sizes : sums_size (drop i sums) ≡ 0 = ap sums_size none in
    let total = p.total in
    let from = p.from in
    record {
      same = record { below = p.same.below; above = λ y high. p.same.above y (omega arith) };
      holds = λ w agree. p.left w (λ y low. agree y (omega arith)) (subst (λ (l : List SumVars). SatisfiesAll w (sums_clauses l)) (sym none) tt);
    }

-- ALL BOUNDS, ONE BEHIND ANOTHER
kept_at : (g : Graph) (grid : GridSize) (ks : List KeptBound) (i : ℕ) (k : KeptBound) → AreKept g grid ks → i < length ks → k ≡ get_or ks i k → HasSums g grid k
kept_at g grid [] i k h lt is = absurd (omega arith)
kept_at g grid (j ∷ ks) zero k h lt is = subst (λ (n : KeptBound). HasSums g grid n) (sym is) h.0
kept_at g grid (j ∷ ks) (suc i) k h lt is = kept_at g grid ks i k h.1 (omega arith) is

pub record IsPuttingBounds (g : Graph) (grid : GridSize) (ks : List KeptBound) (vars i : ℕ) (old now : Assignment) : Type 0 where
  pub next : ℕ
  pub from : vars ≤ next
  pub behind : AreBehind g (drawing_vars g grid) grid next (map bound_of (drop i ks))
  pub total : bounds_last g (drawing_vars g grid) grid next (map bound_of (drop i ks)) ≡ bounds_last g (drawing_vars g grid) grid vars (map bound_of ks)
  pub same : (y : ℕ) → y ≤ vars → now y ≡ old y
  pub later : (y : ℕ) → next < y → now y ≡ old y
  pub left : (w : Assignment) → ((y : ℕ) → y < next + 1 → w y ≡ now y) →
      SatisfiesAll w (bounds_clauses g (drawing_vars g grid) grid (map bound_of (drop i ks))) →
      SatisfiesAll w (bounds_clauses g (drawing_vars g grid) grid (map bound_of ks))

pub bounds_start : (g : Graph) (grid : GridSize) (ks : List KeptBound) (vars : ℕ) (v : Assignment) →
    AreBehind g (drawing_vars g grid) grid vars (map bound_of ks) → IsPuttingBounds g grid ks vars 0 v v
bounds_start g grid ks vars v h = record {
  next = vars;
  from = omega arith;
  behind = h;
  total = refl;
  same = λ y le. refl;
  later = λ y high. refl;
  left = λ w agree k. k;
}

next_cut : (ks : List KeptBound) (i : ℕ) (k : KeptBound) → i < length ks → k ≡ get_or ks i k →
    map bound_of (drop i ks) ≡ bound_of k ∷ map bound_of (drop (i + 1) ks)
next_cut ks i k lt is =
    let z : suc i ≡ i + 1 = omega arith in
    ap (map bound_of) (drop-cons ks i k lt ∙ ap (λ (j : KeptBound). j ∷ drop (suc i) ks) (sym is) ∙ ap (λ n. k ∷ drop n ks) z)

-- the bound that is put next
pub record NextBound (g : Graph) (grid : GridSize) (vars top : ℕ) (k : KeptBound) : Type 0 where
  pub row : AreInRow (k.last + k.cap) k.sums.items
  pub from : vars ≤ k.last
  pub size : k.cap + sums_size k.sums.items ≡ size_of_bound g (drawing_vars g grid) grid (bound_of k)
  pub to : k.last + k.cap + sums_size k.sums.items ≤ top

pub next_bound : (g : Graph) (grid : GridSize) (d : Drawing) (ks : List KeptBound) (vars i : ℕ) (k : KeptBound) (old now : Assignment) → i < length ks →
    k ≡ get_or ks i k → AreKept g grid ks → IsPutTo g grid d old (vars + 1) → IsPuttingBounds g grid ks vars i old now →
    NextBound g grid vars (bounds_last g (drawing_vars g grid) grid vars (map bound_of ks)) k
next_bound g grid d ks vars i k old now lt is kept put p =
    let x = drawing_vars g grid in
    let cut = next_cut ks i k lt is in
    let behind : AreBehind g x grid p.next (bound_of k ∷ map bound_of (drop (i + 1) ks)) = subst (λ (l : List Bound). AreBehind g x grid p.next l) cut
    p.behind in
    let low = behind.0 in
    let from = p.from in
    let begins = put.behind in
    let sums = kept_at g grid ks i k kept lt is in
    let size : k.cap + sums_size k.sums.items ≡ size_of_bound g x grid (bound_of k) = ap (λ (l : List SumVars). k.cap + sums_size l) sums
    ∙ bound_sums_size g x grid k.last k.cap k.criterion in
    let rise = last_rises g x grid (k.last + size_of_bound g x grid (bound_of k)) (map bound_of (drop (i + 1) ks)) behind.1 in
    let total : bounds_last g x grid (k.last + size_of_bound g x grid (bound_of k)) (map bound_of (drop (i + 1) ks)) ≡ bounds_last g x grid vars
    (map bound_of ks) = sym (ap (bounds_last g x grid p.next) cut) ∙ p.total in
    record {
      row = subst (λ (l : List SumVars). AreInRow (k.last + k.cap) l) (sym sums) (bound_row (base_last g grid) g x grid k.last k.cap k.criterion
          (base_vars g grid put.size put.few) (omega arith));
      from = omega arith;
      size = size;
      to = omega arith;
    }

pub bounds_more : (g : Graph) (grid : GridSize) (d : Drawing) (ks : List KeptBound) (vars i : ℕ) (k : KeptBound) (old now new : Assignment) → i < length ks →
    k ≡ get_or ks i k → AreKept g grid ks → IsPutTo g grid d old (vars + 1) → IsPuttingBounds g grid ks vars i old now →
    SameOutside (k.last + 1) (k.cap + sums_size k.sums.items) now new → IsExact new k.last k.cap (value_of (values_of d) k.criterion) →
    HoldsBefore (k.last + k.cap + sums_size k.sums.items + 1) new (sums_clauses k.sums.items) → IsPuttingBounds g grid ks vars (i + 1) old new
bounds_more g grid d ks vars i k old now new lt is kept put p same exact holds =
    let x = drawing_vars g grid in
    let b = bound_of k in
    let rest = map bound_of (drop (i + 1) ks) in
    let cut = next_cut ks i k lt is in
    let n = next_bound g grid d ks vars i k old now lt is kept put p in
    let behind : AreBehind g x grid p.next (b ∷ rest) = subst (λ (l : List Bound). AreBehind g x grid p.next l) cut p.behind in
    let low = behind.0 in
    let from = p.from in
    let size = n.size in
    let begins = put.behind in
    let sums = kept_at g grid ks i k kept lt is in
    record {
      next = k.last + size_of_bound g x grid b;
      from = omega arith;
      behind = behind.1;
      total = sym (ap (bounds_last g x grid p.next) cut) ∙ p.total;
      same = λ y le. same.below y (omega arith) ∙ p.same y le;
      later = λ y high. same.above y (omega arith) ∙ p.later y (omega arith);
      left = λ w agree h.
          let r = put_to_read g grid d old w (vars + 1) put (λ y le. agree y (omega arith) ∙ same.below y (omega arith) ∙ p.same y (omega arith)) in
          let told : IsExact w k.last k.cap (value_of (values_of d) k.criterion) = λ j one to. agree (k.last + j) (omega arith) ∙ exact j one to in
          let counted : SatisfiesAll w (sums_clauses (bound_sums g x grid k.last k.cap k.criterion)) = subst
          (λ (l : List SumVars). SatisfiesAll w (sums_clauses l)) sums (holds w (λ y le. agree y (omega arith))) in
          p.left w (λ y le. agree y (omega arith) ∙ same.below y (omega arith))
          (subst (λ (l : List Bound). SatisfiesAll w (bounds_clauses g x grid l)) (sym cut)
          (satisfies_append w (clauses_of_bound g x grid b) (bounds_clauses g x grid rest) (bound_holds w g x grid d k.last k.cap k.criterion r told counted)
          h));
    }

pub bounds_done : (g : Graph) (grid : GridSize) (ks : List KeptBound) (vars i : ℕ) (old now : Assignment) → length ks ≤ i →
    IsPuttingBounds g grid ks vars i old now → HoldsBefore (bounds_last g (drawing_vars g grid) grid vars (map bound_of ks) + 1) now
    (bounds_clauses g (drawing_vars g grid) grid (map bound_of ks))
bounds_done g grid ks vars i old now le p w agree =
    let x = drawing_vars g grid in
    let none : map bound_of (drop i ks) ≡ [] = ap (map bound_of) (drop_all i ks le) in
    let total : p.next ≡ bounds_last g x grid vars (map bound_of ks) = sym (ap (bounds_last g x grid p.next) none) ∙ p.total in
    p.left w (λ y low. agree y (omega arith)) (subst (λ (l : List Bound). SatisfiesAll w (bounds_clauses g x grid l)) (sym none) tt)

pub bounds_later : (g : Graph) (grid : GridSize) (ks : List KeptBound) (vars i : ℕ) (old now : Assignment) → length ks ≤ i →
    IsPuttingBounds g grid ks vars i old now → (y : ℕ) → bounds_last g (drawing_vars g grid) grid vars (map bound_of ks) < y → now y ≡ old y
bounds_later g grid ks vars i old now le p y high =
    let x = drawing_vars g grid in
    let none : map bound_of (drop i ks) ≡ [] = ap (map bound_of) (drop_all i ks le) in
    let total : p.next ≡ bounds_last g x grid vars (map bound_of ks) = sym (ap (bounds_last g x grid p.next) none) ∙ p.total in
    p.later y (omega arith)
