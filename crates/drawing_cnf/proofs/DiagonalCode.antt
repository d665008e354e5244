-- Calls that add the sums of the diagonal.
use Rattle.std.proofs.Common.{◌≡◌, ℕ, zero, suc, ◌+◌, ◌*◌, ◌≤◌, ◌<◌, true, false, List, [], ◌∷◌, ◌++◌, length, get_or, refl, sym, ◌∙◌, ap, subst, arith, Ok}
use Rattle.std.proofs.Common.{Err, append_assoc, append-nil, inl, inr}
use Rattle.std.specs.Prelude.{Result, IsErr, IsErrOf, nat_le, cond, drop, slice_index_or}
use Rattle.std.specs.List.{flat_map}
use Rattle.std.proofs.lemmas.List.{at_drop_more, at_drop_all}
use Rattle.std.proofs.Math.Nat.{mul-le-mul_left, mul-le-mul_right}
use Rattle.std.proofs.lemmas.Bool.Decides.{nat_tests}
use Rattle.plan_core.specs.declared.limits.TheConstants.{MAX_EDGES}
use Rattle.plan_core.specs.Grid.{GridSize, IsGrid}
use Rattle.plan_core.specs.Graph.{Graph}
use Rattle.cnf_core.specs.declared.fault.CnfFault.{CnfFault}
use Rattle.cnf_core.specs.declared.fault.CnfFault.TheVariants.{Room}
use Rattle.cnf_core.specs.declared.limits.TheConstants.{VARS}
use Rattle.cnf_core.specs.declared.literal.LitOrTruth.{LitOrTruth}
use Rattle.cnf_core.specs.Lit.{Literal}
use Rattle.cnf_core.specs.Clause.{Clauses, AreThere, words_of}
use Rattle.cnf_core.specs.LitOrTruth.{yes, flip}
use Rattle.cnf_core.specs.Formula.{Cnf}
use Rattle.cnf_core.specs.Added.{AddsClauses, AddsBlock}
use Rattle.cnf_core.proofs.BlockLemmas.{block_of_clauses, block_refused, block_after}
use Rattle.cnf_core.proofs.ClauseLemmas.{words_append}
use Rattle.cnf_core.proofs.StepLemmas.{grown}
use Rattle.unary_sum.specs.Sum.{SumVars, sum_vars, sum_count, sum_clauses, sum_outputs}
use Rattle.edge_shape.specs.EdgeVars.{EdgeSpot, lits_of, edge_size, EdgeIsPlaced}
use Rattle.edge_shape.proofs.PlaceLemmas.{column_there}
use Rattle.cnf_laws.specs.Stands.{DrawingVars}
use Rattle.cnf_laws.specs.Expected.{drawing_vars, laws_first}
use Rattle.drawing_cnf.specs.Bounds.{west_first, step_lits, gives_output, slope_outputs, edge_steps, steps_sum, edges_steps, edges_sums, edges_outputs}
use Rattle.drawing_cnf.specs.Bounds.{edges_count, diagonal_sum, edge_most, sum_bound, diagonal_bound, diagonal_bound_size}
use Rattle.cnf_laws.proofs.BaseLemmas.{base_last, base_vars}
use Rattle.cnf_laws.proofs.ThereLemmas.{vars_more}
use Rattle.drawing_cnf.proofs.BoundLemmas.{all_edges, edges_length}
use Rattle.drawing_cnf.proofs.DiagonalBound.{outputs_there}
use Rattle.drawing_cnf.proofs.ListCode.{AreInputs}
use Rattle.drawing_cnf.proofs.BoundWords.{steps_inputs_length}
use Rattle.drawing_cnf.proofs.BoundForced.{outputs_few}

-- variables and clauses, and then clauses
pub clauses_refused : {T U : Type 0} (r : Result T CnfFault) (t : Result U CnfFault) (old new : Cnf) (count : ℕ) (xs ys : Clauses) (longest : ℕ) → IsErr t →
    (IsErrOf t Room → IsErrOf r Room) → AddsBlock r old new count xs longest → AddsBlock t old new count (xs ++ ys) longest
clauses_refused r t old new count xs ys longest err same h =
    let z : count + 0 ≡ count = omega arith in
    subst (λ n. AddsBlock t old new n (xs ++ ys) longest) z (block_refused r t old new count 0 xs ys longest err same h)

pub clauses_after : {T U : Type 0} (y : T) (r : Result U CnfFault) (old mid new : Cnf) (count : ℕ) (xs ys : Clauses) (longest : ℕ) →
    AddsBlock (Ok y) old mid count xs longest → AddsClauses r mid new ys longest → AddsBlock r old new count (xs ++ ys) longest
clauses_after y r old mid new count xs ys longest a b =
    let z : count + 0 ≡ count = omega arith in
    subst (λ n. AddsBlock r old new n (xs ++ ys) longest) z (block_after y r old mid new count 0 xs ys longest a (block_of_clauses r mid new ys longest b))

-- an edge's sum, spelt by its edge and the grid
pub edge_adds : {T : Type 0} (r : Result T CnfFault) (old new : Cnf) (s t : EdgeSpot) (w u most : ℕ) → s ≡ t → w ≡ u →
    AddsBlock r old new (sum_count (steps_sum (lits_of s) w most old.vars)) (edge_steps (lits_of s) (steps_sum (lits_of s) w most old.vars)) 3 →
    AddsBlock r old new (sum_count (steps_sum (lits_of t) u most old.vars)) (edge_steps (lits_of t) (steps_sum (lits_of t) u most old.vars)) 3
edge_adds r old new s t w u most es ew h =
    subst (λ n. AddsBlock r old new (sum_count (steps_sum (lits_of t) n most old.vars)) (edge_steps (lits_of t) (steps_sum (lits_of t) n most old.vars)) 3) ew
    (subst (λ (z : EdgeSpot). AddsBlock r old new (sum_count (steps_sum (lits_of z) w most old.vars))
    (edge_steps (lits_of z) (steps_sum (lits_of z) w most old.vars)) 3) es h)

-- a loop that adds blocks: what is there, and what is left
pub record IsLeft (old now : Cnf) (left total : ℕ) (rest all : Clauses) : Type 0 where
  pub vars : now.vars + left ≡ old.vars + total
  pub from : old.vars ≤ now.vars
  pub clauses : now.clauses ++ rest ≡ old.clauses ++ all
  pub room : now.room ≡ old.room

left_more : {T : Type 0} (y : T) (old now new : Cnf) (m n total : ℕ) (xs ys all : Clauses) (longest : ℕ) → IsLeft old now (m + n) total (xs ++ ys) all →
    AddsBlock (Ok y) now new m xs longest → IsLeft old new n total ys all
left_more y old now new m n total xs ys all longest a b =
    let made : new.vars ≡ now.vars + m = b.made in
    let v = a.vars in
    let low = a.from in
    record {
      vars = omega arith;
      from = omega arith;
      clauses = ap (λ (z : Clauses). z ++ ys) b.added ∙ append_assoc now.clauses xs ys ∙ a.clauses;
      room = b.room ∙ a.room;
    }

left_done : {T : Type 0} (y : T) (old now : Cnf) (total : ℕ) (all : Clauses) (longest : ℕ) → IsLeft old now 0 total [] all →
    AddsBlock (Ok y) old now total all longest
left_done y old now total all longest a =
    let e : now.clauses ≡ old.clauses ++ all = sym (append-nil now.clauses) ∙ a.clauses in
    let v = a.vars in
    let low = a.from in
    record {
      made = omega arith;
      added = e;
      passes = λ k. cc;
      full = λ k. cc;
      words = grown old.clauses now.clauses all e;
      from = low;
      vars = omega arith;
      room = a.room;
    }

left_refused : {T U : Type 0} (r : Result T CnfFault) (t : Result U CnfFault) (old now new : Cnf) (m n total : ℕ) (xs ys all : Clauses) (longest : ℕ) →
    IsErr t → (IsErrOf t Room → IsErrOf r Room) → IsLeft old now (m + n) total (xs ++ ys) all → AddsBlock r now new m xs longest →
    AddsBlock t old new total all longest
left_refused r (Ok y) old now new m n total xs ys all longest err same a b = absurd (cc)
left_refused r (Err g) old now new m n total xs ys all longest err same a b =
    let s : words_of (now.clauses ++ (xs ++ ys)) ≡ words_of (old.clauses ++ all) = ap words_of a.clauses in
    let q = a.room in
    let v = a.vars in
    let low = a.from in
    let from = b.from in
    let vars = b.vars in
    let sums = words_append now.clauses (xs ++ ys) in
    let parts = words_append xs ys in
    let whole = words_append old.clauses all in
    let one = words_append now.clauses xs in
    record {
      made = tt;
      added = tt;
      passes = λ k. elim (b.passes (same k)) [ inl many ↦ inl (omega arith) | inr p ↦ inr (omega arith) ];
      full = λ k. elim (b.full (same k)) [ inl many ↦ inl (omega arith) | inr p ↦ inr p ];
      words = let w = b.words in omega arith;
      from = omega arith;
      vars = omega arith;
      room = b.room ∙ q;
    }

-- what is left of a list behind its first elements
pub left_none : (es : List ℕ) (k : ℕ) → length es ≤ k → drop k es ≡ []
left_none [] zero h = refl
left_none [] (suc k) h = refl
left_none (e ∷ es) zero h = absurd (omega arith)
left_none (e ∷ es) (suc k) h = left_none es k (omega arith)

pub left_one : (es : List ℕ) (k d : ℕ) → k < length es → drop k es ≡ slice_index_or es k d ∷ drop (k + 1) es
left_one [] k d h = absurd (omega arith)
left_one (e ∷ es) zero d h = refl
left_one (e ∷ es) (suc k) d h =
    let z : suc (k + 1) ≡ suc k + 1 = omega arith in
    left_one es k d (omega arith) ∙ ap (λ j. slice_index_or es k d ∷ drop j (e ∷ es)) z

-- the loop over sums
pub outputs_next : (all : List SumVars) (i : ℕ) (s : SumVars) (front own new : List Literal) → i < length all → s ≡ get_or all i s → own ≡ sum_outputs s →
    new ≡ front ++ own → front ++ flat_map sum_outputs (drop i all) ≡ flat_map sum_outputs all →
    new ++ flat_map sum_outputs (drop (i + 1) all) ≡ flat_map sum_outputs all
outputs_next all i s front own new lt is outputs grown h =
    let left = flat_map sum_outputs (drop (i + 1) all) in
    let cut : flat_map sum_outputs (drop i all) ≡ sum_outputs (get_or all i s) ++ left = at_drop_more (flat_map sum_outputs) all i s lt in
    ap (λ (ls : List Literal). ls ++ left) (grown ∙ ap (λ (ls : List Literal). front ++ ls) (outputs ∙ ap sum_outputs is))
    ∙ append_assoc front (sum_outputs (get_or all i s)) left ∙ ap (λ (ls : List Literal). front ++ ls) (sym cut) ∙ h

pub outputs_done : (all : List SumVars) (i : ℕ) (front : List Literal) → length all ≤ i →
    front ++ flat_map sum_outputs (drop i all) ≡ flat_map sum_outputs all → front ≡ flat_map sum_outputs all
outputs_done all i front past h = sym (append-nil front) ∙ ap (λ (ls : List Literal). front ++ ls) (sym (at_drop_all (flat_map sum_outputs) all i past)) ∙ h

-- the loop over edges
pub record IsSumming (x : DrawingVars) (width most : ℕ) (old now : Cnf) (before sums : List SumVars) (edges rest : List ℕ) : Type 0 where
  pub left : IsLeft old now (edges_count x width most now.vars rest) (edges_count x width most old.vars edges) (edges_steps x width most now.vars rest)
      (edges_steps x width most old.vars edges)
  pub kept : sums ++ edges_sums x width most now.vars rest ≡ before ++ edges_sums x width most old.vars edges

pub summing_more : {T : Type 0} (y : T) (x : DrawingVars) (width most : ℕ) (old now new : Cnf) (before sums more : List SumVars) (edges rest later : List ℕ)
    (e : ℕ) → rest ≡ e ∷ later → IsSumming x width most old now before sums edges rest →
    AddsBlock (Ok y) now new (sum_count (steps_sum (x.edge e) width most now.vars)) (edge_steps (x.edge e) (steps_sum (x.edge e) width most now.vars)) 3 →
    more ≡ sums ++ steps_sum (x.edge e) width most now.vars ∷ [] → IsSumming x width most old new before more edges later
summing_more y x width most old now new before sums more edges rest later e is a b grown_by =
    let s = steps_sum (x.edge e) width most now.vars in
    let next = now.vars + sum_count s in
    let made : next ≡ new.vars = sym b.made in
    let c = subst (λ (ks : List ℕ). IsSumming x width most old now before sums edges ks) is a in
    let step = left_more y old now new (sum_count s) (edges_count x width most next later) (edges_count x width most old.vars edges) (edge_steps (x.edge e) s)
    (edges_steps x width most next later) (edges_steps x width most old.vars edges) 3 c.left b in
    record {
      left = subst (λ n. IsLeft old new (edges_count x width most n later) (edges_count x width most old.vars edges) (edges_steps x width most n later)
          (edges_steps x width most old.vars edges)) made step;
      kept = ap (λ (ls : List SumVars). ls ++ edges_sums x width most new.vars later) grown_by
          ∙ append_assoc sums (s ∷ []) (edges_sums x width most new.vars later)
          ∙ ap (λ n. sums ++ s ∷ edges_sums x width most n later) (sym made) ∙ c.kept;
    }

pub summing_done : {T : Type 0} (y : T) (x : DrawingVars) (width most : ℕ) (old now : Cnf) (before sums : List SumVars) (edges rest : List ℕ) → rest ≡ [] →
    IsSumming x width most old now before sums edges rest → AddsBlock (Ok y) old now (edges_count x width most old.vars edges)
    (edges_steps x width most old.vars edges) 3
summing_done y x width most old now before sums edges rest is a =
    let c = subst (λ (ks : List ℕ). IsSumming x width most old now before sums edges ks) is a in
    left_done y old now (edges_count x width most old.vars edges) (edges_steps x width most old.vars edges) 3 c.left

pub summed : (x : DrawingVars) (width most : ℕ) (old now : Cnf) (before sums : List SumVars) (edges rest : List ℕ) → rest ≡ [] →
    IsSumming x width most old now before sums edges rest → sums ≡ before ++ edges_sums x width most old.vars edges
summed x width most old now before sums edges rest is a =
    let c = subst (λ (ks : List ℕ). IsSumming x width most old now before sums edges ks) is a in
    sym (append-nil sums) ∙ c.kept

pub summing_refused : {T U : Type 0} (r : Result T CnfFault) (t : Result U CnfFault) (x : DrawingVars) (width most : ℕ) (old now new : Cnf)
    (before sums : List SumVars) (edges rest later : List ℕ) (e : ℕ) → IsErr t → (IsErrOf t Room → IsErrOf r Room) → rest ≡ e ∷ later →
    IsSumming x width most old now before sums edges rest → AddsBlock r now new (sum_count (steps_sum (x.edge e) width most now.vars))
    (edge_steps (x.edge e) (steps_sum (x.edge e) width most now.vars)) 3 →
    AddsBlock t old new (edges_count x width most old.vars edges) (edges_steps x width most old.vars edges) 3
summing_refused r t x width most old now new before sums edges rest later e err same is a b =
    let s = steps_sum (x.edge e) width most now.vars in
    let next = now.vars + sum_count s in
    let c = subst (λ (ks : List ℕ). IsSumming x width most old now before sums edges ks) is a in
    left_refused r t old now new (sum_count s) (edges_count x width most next later) (edges_count x width most old.vars edges) (edge_steps (x.edge e) s)
    (edges_steps x width most next later) (edges_steps x width most old.vars edges) 3 err same c.left b

pub diagonal_inputs : (g : Graph) (grid : GridSize) (edges : List ℕ) (outputs : List Literal) (cap vars late : ℕ) → IsGrid grid → laws_first g grid ≤ vars + 1 →
    vars ≤ VARS → length g.edges ≤ MAX_EDGES → edges ≡ west_first g → outputs ≡ edges_outputs (drawing_vars g grid) grid.width (edge_most grid cap) vars edges →
    late ≡ vars + edges_count (drawing_vars g grid) grid.width (edge_most grid cap) vars edges → AreInputs late outputs
diagonal_inputs g grid edges outputs cap vars late is there limit few same at end =
    let x = drawing_vars g grid in
    let most = edge_most grid cap in
    let rows = is.height_limit in
    let a = vars_more (base_last g grid) vars g x grid.width (omega arith) (base_vars g grid is (omega arith)) in
    let all : outputs ≡ edges_outputs x grid.width most vars (west_first g) = at ∙ ap (edges_outputs x grid.width most vars) same in
    let to : late ≡ vars + edges_count x grid.width most vars (west_first g) = end ∙ ap (λ (es : List ℕ). vars + edges_count x grid.width most vars es) same in
    let twice : most ≤ 24 = omega arith in
    let sizes : length (west_first g) * most ≤ 160 * 24 = mul_small (length (west_first g)) most (omega (arith, edges_length g)) twice in
    record {
      there = subst (λ n. AreThere n outputs) (sym to) (subst (λ (ls : List Literal). AreThere (vars + edges_count x grid.width most vars (west_first g)) ls)
          (sym all) (outputs_there vars g x grid.width most (west_first g) a (all_edges g).there));
      few = omega (arith, ap length all, outputs_few x grid.width most vars (west_first g), sizes);
    }
  where
    mul_small : (m n : ℕ) → m ≤ 160 → n ≤ 24 → m * n ≤ 160 * 24
    mul_small m n hm hn =
        let one : m * n ≤ 160 * n = mul-le-mul_right n hm in
        let two : 160 * n ≤ 160 * 24 = mul-le-mul_left 160 hn in
        omega arith

-- the same variables and clauses, spelt by other numbers
pub steps_at : {T : Type 0} (r : Result T CnfFault) (old new : Cnf) (x : DrawingVars) (width most want vars : ℕ) (edges : List ℕ) → most ≡ want →
    old.vars ≡ vars → AddsBlock r old new (edges_count x width most old.vars edges) (edges_steps x width most old.vars edges) 3 →
    AddsBlock r old new (edges_count x width want vars edges) (edges_steps x width want vars edges) 3
steps_at r old new x width most want vars edges em ev h =
    subst (λ n. AddsBlock r old new (edges_count x width want n edges) (edges_steps x width want n edges) 3) ev
    (subst (λ n. AddsBlock r old new (edges_count x width n old.vars edges) (edges_steps x width n old.vars edges) 3) em h)

pub steps_end : {T : Type 0} (y : T) (old new : Cnf) (x : DrawingVars) (width most want vars : ℕ) (edges : List ℕ) → most ≡ want → old.vars ≡ vars →
    AddsBlock (Ok y) old new (edges_count x width most old.vars edges) (edges_steps x width most old.vars edges) 3 →
    new.vars ≡ vars + edges_count x width want vars edges
steps_end y old new x width most want vars edges em ev h = (steps_at (Ok y) old new x width most want vars edges em ev h).made
    ∙ ap (λ n. n + edges_count x width want vars edges) ev

pub sums_are : (x : DrawingVars) (width most want old vars : ℕ) (edges : List ℕ) (before sums : List SumVars) → before ≡ [] → most ≡ want → old ≡ vars →
    sums ≡ before ++ edges_sums x width most old edges → sums ≡ edges_sums x width want vars edges
sums_are x width most want old vars edges before sums none em ev h =
    h ∙ ap (λ (ls : List SumVars). ls ++ edges_sums x width most old edges) none ∙ ap (λ n. edges_sums x width n old edges) em
    ∙ ap (λ n. edges_sums x width want n edges) ev

pub top_at : {T : Type 0} (r : Result T CnfFault) (old new : Cnf) (ls ks : List Literal) (cap last vars : ℕ) → ls ≡ ks → old.vars ≡ vars →
    AddsBlock r old new (sum_count (sum_vars ls cap old.vars)) (sum_bound (sum_vars ls cap old.vars) last) 3 →
    AddsBlock r old new (sum_count (sum_vars ks cap vars)) (sum_bound (sum_vars ks cap vars) last) 3
top_at r old new ls ks cap last vars el ev h =
    subst (λ n. AddsBlock r old new (sum_count (sum_vars ks cap n)) (sum_bound (sum_vars ks cap n) last) 3) ev
    (subst (λ (ms : List Literal). AddsBlock r old new (sum_count (sum_vars ms cap old.vars)) (sum_bound (sum_vars ms cap old.vars) last) 3) el h)

-- all sums of the diagonal, and the bound's variables before them
abbrev sums_clauses : DrawingVars → GridSize → List ℕ → ℕ → ℕ → Clauses
sums_clauses x grid edges last cap = diagonal_bound x grid edges last cap

abbrev sums_count : DrawingVars → GridSize → List ℕ → ℕ → ℕ → ℕ
sums_count x grid edges last cap = edges_count x grid.width (edge_most grid cap) (last + cap) edges + sum_count (diagonal_sum x grid edges last cap)

pub diagonal_after : {T U : Type 0} (y : T) (r : Result U CnfFault) (old mid new : Cnf) (x : DrawingVars) (grid : GridSize) (edges : List ℕ) (last cap : ℕ) →
    last ≡ old.vars → AddsBlock (Ok y) old mid cap [] 3 → AddsBlock r mid new (sums_count x grid edges last cap) (sums_clauses x grid edges last cap) 3 →
    AddsBlock r old new (diagonal_bound_size x grid edges old.vars cap) (diagonal_bound x grid edges old.vars cap) 3
diagonal_after y r old mid new x grid edges last cap el a b =
    let c = subst (λ l. AddsBlock r mid new (sums_count x grid edges l cap) (sums_clauses x grid edges l cap) 3) el b in
    block_after y r old mid new cap (sums_count x grid edges old.vars cap) [] (sums_clauses x grid edges old.vars cap) 3 a c

pub diagonal_refused : {T U : Type 0} (r : Result T CnfFault) (t : Result U CnfFault) (old new : Cnf) (x : DrawingVars) (grid : GridSize) (edges : List ℕ)
    (cap : ℕ) → IsErr t → (IsErrOf t Room → IsErrOf r Room) → AddsBlock r old new cap [] 3 →
    AddsBlock t old new (diagonal_bound_size x grid edges old.vars cap) (diagonal_bound x grid edges old.vars cap) 3
diagonal_refused r t old new x grid edges cap err same a = block_refused r t old new cap (sums_count x grid edges old.vars cap) []
    (sums_clauses x grid edges old.vars cap) 3 err same a

-- the same outputs, spelt otherwise
pub slope_adds : {T : Type 0} (r : Result T CnfFault) (old new : Cnf) (s : SumVars) (a b : LitOrTruth) (p q : ℕ) → a ≡ yes p → b ≡ yes q →
    AddsClauses r old new (gives_output s (flip a ∷ []) 1 ++ gives_output s (flip b ∷ []) 1) 3 → AddsClauses r old new (slope_outputs s p q) 3
slope_adds r old new s a b p q ea eb h =
    subst (λ (t : LitOrTruth). AddsClauses r old new (gives_output s (flip (yes p) ∷ []) 1 ++ gives_output s (flip t ∷ []) 1) 3) eb
    (subst (λ (t : LitOrTruth). AddsClauses r old new (gives_output s (flip t ∷ []) 1 ++ gives_output s (flip b ∷ []) 1) 3) ea h)

pub two_adds : {T : Type 0} (r : Result T CnfFault) (old new : Cnf) (s : SumVars) (a b : LitOrTruth) (p q : ℕ) → a ≡ yes p → b ≡ yes q →
    AddsClauses r old new (gives_output s (flip a ∷ flip b ∷ []) 2) 3 → AddsClauses r old new (gives_output s (flip (yes p) ∷ flip (yes q) ∷ []) 2) 3
two_adds r old new s a b p q ea eb h =
    subst (λ (t : LitOrTruth). AddsClauses r old new (gives_output s (flip (yes p) ∷ flip t ∷ []) 2) 3) eb
    (subst (λ (t : LitOrTruth). AddsClauses r old new (gives_output s (flip t ∷ flip b ∷ []) 2) 3) ea h)

-- a sum, with its inputs spelt otherwise
pub built_adds : {T : Type 0} (r : Result T CnfFault) (old new : Cnf) (ks ls : List Literal) (most : ℕ) → ks ≡ ls →
    AddsBlock r old new (sum_count (sum_vars ks most old.vars)) (sum_clauses (sum_vars ks most old.vars)) 3 →
    AddsBlock r old new (sum_count (sum_vars ls most old.vars)) (sum_clauses (sum_vars ls most old.vars)) 3
built_adds r old new ks ls most e h = subst (λ (ms : List Literal). AddsBlock r old new (sum_count (sum_vars ms most old.vars))
    (sum_clauses (sum_vars ms most old.vars)) 3) e h

steps_are_there : (e : EdgeSpot) (vars c n : ℕ) → EdgeIsPlaced e.first e.high e.width → e.first + edge_size e.high e.width ≤ vars + 1 → c + n ≤ e.width →
    AreThere vars (step_lits (lits_of e) c n)
steps_are_there e vars c zero p to le = tt
steps_are_there e vars c (suc n) p to le = (
  column_there e.first e.high e.width vars c 1 p.spot to (omega arith) (omega arith),
  (column_there e.first e.high e.width vars c 2 p.spot to (omega arith) (omega arith), steps_are_there e vars (c + 1) n p to (omega arith)),
)

pub steps_inputs : (e : EdgeSpot) (width vars : ℕ) (inputs : List Literal) → EdgeIsPlaced e.first e.high e.width →
    e.first + edge_size e.high e.width ≤ vars + 1 → width ≡ e.width → inputs ≡ step_lits (lits_of e) 0 width → AreInputs vars inputs
steps_inputs e width vars inputs p to same is =
    let columns = p.spot.columns in
    record {
      there = subst (λ (ls : List Literal). AreThere vars ls) (sym is) (steps_are_there e vars 0 width p to (omega arith));
      few = omega (arith, ap length is, steps_inputs_length (lits_of e) 0 width);
    }
