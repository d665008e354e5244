-- The bound of the diagonal is exact, and each drawing extends to it.
use Rattle.std.proofs.Common.{◌≡◌, ◌⊎◌, ℕ, zero, suc, ◌+◌, ◌*◌, ◌≤◌, ◌<◌, Bool, true, false, not, List, [], ◌∷◌, ◌++◌, length, inl, inr, refl, sym, ◌∙◌, ap}
use Rattle.std.proofs.Common.{subst, arith}
use Rattle.std.specs.Prelude.{nat_le, min, cond, All}
use Rattle.std.specs.List.{sum_by}
use Rattle.std.proofs.lemmas.Bool.Decides.{nat_tests, leb_tells}
use Rattle.std.proofs.lemmas.List.Sums.{sum_by-cons}
use Rattle.std.proofs.lemmas.List.Elements.{All-nil, All-cons, All-head, All-tail, All-weaker}
use Rattle.plan_core.specs.declared.point.Point.{Point}
use Rattle.plan_core.specs.Grid.{GridSize}
use Rattle.plan_core.specs.Graph.{Graph, edge}
use Rattle.plan_core.specs.Line.{east_end, slope_west, slope_east, bends, diagonal, height}
use Rattle.plan_core.specs.Drawing.{Drawing, place, line}
use Rattle.plan_core.specs.Laws.{IsOnGrid}
use Rattle.cnf_core.specs.declared.literal.LitOrTruth.{LitOrTruth}
use Rattle.cnf_core.specs.Lit.{Literal}
use Rattle.cnf_core.specs.Clause.{Clauses, AreThere, AllThere}
use Rattle.cnf_core.specs.Assignment.{Assignment, SatisfiesAll, Extends}
use Rattle.cnf_core.specs.LitOrTruth.{yes, flip, value, SomeTrue, AreWithin, clause_of}
use Rattle.cnf_core.proofs.ClauseLemmas.{satisfies_append, satisfies_left, satisfies_right, there_more, all_there_append, all_there_more}
use Rattle.cnf_core.proofs.GatherLemmas.{clause_holds, clause_there}
use Rattle.cnf_core.proofs.SettingLemmas.{same_none, patch, patch_same, extends_both, extends_weaker, extends_clauses}
use Rattle.unary_sum.specs.Sum.{SumVars, sum_count, sum_clauses, sum_outputs, count_true, sum_at_least as sum_at_least}
use Rattle.unary_sum.proofs.SumLemmas.{sum_means, sum_extends, sum_there}
use Rattle.unary_sum.proofs.OutputLemmas.{sum_outputs_true, sum_outputs_there}
use Rattle.edge_shape.proofs.StepLemmas.{up_diagonal, down_diagonal}
use Rattle.edge_shape.proofs.GridLemmas.{heights_on_grid}
use Rattle.edge_shape.proofs.RunLemmas.{one_if}
use Rattle.edge_shape.proofs.DiagonalSteps.{diagonal_steps}
use Rattle.edge_shape.specs.EdgeVars.{EdgeLits}
use Rattle.cnf_laws.specs.Stands.{DrawingVars, IsJoinedOnGrid}
use Rattle.drawing_cnf.specs.Bounds.{IsExact, step_lits, steps_sum, gives_output, steps_beside, edge_steps, edges_steps, edges_outputs, edges_count, edge_most}
use Rattle.drawing_cnf.specs.Bounds.{sum_bound, diagonal_sum, diagonal_bound, diagonal_bound_size}
use Rattle.cnf_laws.proofs.GuardLemmas.{some_to}
use Rattle.cnf_laws.proofs.OverLemmas.{Read}
use Rattle.cnf_laws.proofs.ThereLemmas.{AreVars, EdgeThere, vars_more}
use Rattle.cnf_laws.proofs.InstanceLemmas.{read_stays}
use Rattle.drawing_cnf.proofs.BoundLemmas.{set_bound, sum_bound_means, sum_bound_extends, sum_bound_there, output_within, AreEdges, sum_over_lines}
use Rattle.drawing_cnf.proofs.BendsBound.{line_bends}
use Rattle.drawing_cnf.proofs.DiagonalLines.{west_diagonal, east_diagonal, bent_diagonal, low_diagonal, count_steps}

-- ONE EDGE
pub edge_diagonal : (v : Assignment) (g : Graph) (x : DrawingVars) (grid : GridSize) (d : Drawing) (e : ℕ) → Read v g x grid d → e < length g.edges →
    count_true v (step_lits (x.edge e) 0 grid.width) ≡ diagonal (line d e)
edge_diagonal v g x grid d e r lt =
    let l = line d e in
    let s = r.reads.lines e lt in
    let j = r.loose.joins e lt in
    let wide = j.in_width in
    let z : (east_end l).x ≡ (place d (edge g e).east).x = ap (λ (p : Point). p.x) j.ends in
    count_steps v (x.edge e) (height l) 0 grid.width (λ c from to. s.up c (omega arith)) (λ c from to. s.down c (omega arith))
    ∙ sym (diagonal_steps l grid.width j.shape (omega arith))

edge_low : (g : Graph) (grid : GridSize) (d : Drawing) (e : ℕ) → IsJoinedOnGrid g grid d → e < length g.edges → diagonal (line d e) ≤ 2 * grid.height
edge_low g grid d e loose lt =
    let l = line d e in
    let j = loose.joins e lt in
    let wide = j.in_width in
    let z : (east_end l).x ≡ (place d (edge g e).east).x = ap (λ (p : Point). p.x) j.ends in
    low_diagonal l grid.height j.shape (All-weaker (IsOnGrid grid) (λ (p : Point). p.y ≤ grid.height) (λ p on. on.in_height) l
    (heights_on_grid grid l j.shape j.in_height (omega arith)))

-- what the sum is to tell
abbrev Tells : Assignment → SumVars → ℕ → Type 0
Tells v s n = (k : ℕ) → k ≤ s.most → value v (sum_at_least s k) ≡ nat_le k n

output_holds : (v : Assignment) (s : SumVars) (ts : List LitOrTruth) (k n : ℕ) → Tells v s n → SomeTrue v ts ⊎ (k ≤ n) → SatisfiesAll v (gives_output s ts k)
output_holds v s ts k n tells h = cases (nat_le k s.most) refl
  where
    cases : (b : Bool) → nat_le k s.most ≡ b → SatisfiesAll v (cond b (clause_of [] (ts ++ sum_at_least s k ∷ [])) [])
    cases false e = tt
    cases true e =
        let few : k ≤ s.most = grind (arith, nat_tests, e) in
        clause_holds v [] (ts ++ sum_at_least s k ∷ []) (inr (some_to v ts (sum_at_least s k ∷ []) (elim h [
          | inl a ↦ inl a
          | inr le ↦ let t : nat_le k n ≡ true = grind (arith, nat_tests) in inr (inl (tells k few ∙ t))
        ])))

one_output : (v : Assignment) (s : SumVars) (a n : ℕ) → Tells v s n → (v a ≡ true → 1 ≤ n) → SatisfiesAll v (gives_output s (flip (yes a) ∷ []) 1)
one_output v s a n tells h = output_holds v s (flip (yes a) ∷ []) 1 n tells (cases (v a) refl)
  where
    cases : (b : Bool) → v a ≡ b → SomeTrue v (flip (yes a) ∷ []) ⊎ (1 ≤ n)
    cases false e = inl (inl (ap not e))
    cases true e = inr (h e)

two_output : (v : Assignment) (s : SumVars) (a b n : ℕ) → Tells v s n → (v a ≡ true → v b ≡ true → 2 ≤ n) →
    SatisfiesAll v (gives_output s (flip (yes a) ∷ flip (yes b) ∷ []) 2)
two_output v s a b n tells h = output_holds v s (flip (yes a) ∷ flip (yes b) ∷ []) 2 n tells (cases (v a) (v b) refl refl)
  where
    cases : (p q : Bool) → v a ≡ p → v b ≡ q → SomeTrue v (flip (yes a) ∷ flip (yes b) ∷ []) ⊎ (2 ≤ n)
    cases false q e f = inl (inl (ap not e))
    cases true false e f = inl (inr (inl (ap not f)))
    cases true true e f = inr (h e f)

two_bends : (p q : Bool) (n : ℕ) → n ≡ one_if p + one_if q → p ≡ true → q ≡ true → n ≡ 2
two_bends true true n e f g = e
two_bends true false n e f g = cc
two_bends false q n e f g = cc

pub beside_holds : (v : Assignment) (g : Graph) (x : DrawingVars) (grid : GridSize) (d : Drawing) (e : ℕ) (s : SumVars) → Read v g x grid d →
    e < length g.edges → Tells v s (diagonal (line d e)) → SatisfiesAll v (steps_beside (x.edge e) s)
beside_holds v g x grid d e s r lt tells =
    let l = line d e in
    let n = diagonal l in
    let i = x.edge e in
    let reads = r.reads.lines e lt in
    let p1 = gives_output s (flip (yes i.west_up) ∷ []) 1 in
    let p2 = gives_output s (flip (yes i.west_down) ∷ []) 1 in
    let p3 = gives_output s (flip (yes i.east_up) ∷ []) 1 in
    let p4 = gives_output s (flip (yes i.east_down) ∷ []) 1 in
    let p5 = gives_output s (flip (yes i.first_bend) ∷ flip (yes i.second_bend) ∷ []) 2 in
    satisfies_append v ((p1 ++ p2) ++ (p3 ++ p4)) p5
    (satisfies_append v (p1 ++ p2) (p3 ++ p4)
    (satisfies_append v p1 p2 (one_output v s i.west_up n tells (λ b. west_diagonal l (up_diagonal (slope_west l) (sym reads.west.rises ∙ b))))
    (one_output v s i.west_down n tells (λ b. west_diagonal l (down_diagonal (slope_west l) (sym reads.west.falls ∙ b)))))
    (satisfies_append v p3 p4 (one_output v s i.east_up n tells (λ b. east_diagonal l (up_diagonal (slope_east l) (sym reads.east.rises ∙ b))))
    (one_output v s i.east_down n tells (λ b. east_diagonal l (down_diagonal (slope_east l) (sym reads.east.falls ∙ b))))))
    (two_output v s i.first_bend i.second_bend n tells (λ a b. bent_diagonal l (r.loose.joins e lt).shape
    (two_bends (v i.first_bend) (v i.second_bend) (bends l) (line_bends v g x grid d e r lt) a b)))

-- where the variables lie
pub steps_there : (vars : ℕ) (e : EdgeLits) (width c n : ℕ) → EdgeThere vars e width → c + n ≤ width → AreThere vars (step_lits e c n)
steps_there vars e width c zero t le = tt
steps_there vars e width c (suc n) t le = (t.up c (omega arith), (t.down c (omega arith), steps_there vars e width (c + 1) n t (omega arith)))

output_there : (vars : ℕ) (s : SumVars) (ts : List LitOrTruth) (k : ℕ) → AreWithin vars (ts ++ sum_at_least s k ∷ []) → AllThere vars (gives_output s ts k)
output_there vars s ts k h = cases (nat_le k s.most)
  where
    cases : (b : Bool) → AllThere vars (cond b (clause_of [] (ts ++ sum_at_least s k ∷ [])) [])
    cases false = tt
    cases true = clause_there vars [] (ts ++ sum_at_least s k ∷ []) tt h

edge_steps_there : (before vars : ℕ) (e : EdgeLits) (width most : ℕ) → EdgeThere before e width → before ≤ vars → EdgeThere vars e width →
    AllThere (vars + sum_count (steps_sum e width most vars)) (edge_steps e (steps_sum e width most vars))
edge_steps_there before vars e width most t le u =
    let s = steps_sum e width most vars in
    let all = vars + sum_count s in
    let lits = steps_there vars e width 0 width u (omega arith) in
    let w = u.whole in
    let a = w.west_up.1 in
    let b = w.west_down.1 in
    let c = w.east_up.1 in
    let d = w.east_down.1 in
    let f = w.first_bend.1 in
    let g = w.second_bend.1 in
    let out : (k : ℕ) → AreWithin all (sum_at_least s k ∷ []) = λ k. (output_within (step_lits e 0 width) most vars k lits, tt) in
    let p1 = gives_output s (flip (yes e.west_up) ∷ []) 1 in
    let p2 = gives_output s (flip (yes e.west_down) ∷ []) 1 in
    let p3 = gives_output s (flip (yes e.east_up) ∷ []) 1 in
    let p4 = gives_output s (flip (yes e.east_down) ∷ []) 1 in
    let p5 = gives_output s (flip (yes e.first_bend) ∷ flip (yes e.second_bend) ∷ []) 2 in
    all_there_append all (sum_clauses s) (steps_beside e s) (sum_there most vars (step_lits e 0 width) lits)
    (all_there_append all ((p1 ++ p2) ++ (p3 ++ p4)) p5
    (all_there_append all (p1 ++ p2) (p3 ++ p4)
    (all_there_append all p1 p2 (output_there all s (flip (yes e.west_up) ∷ []) 1 ((w.west_up.0, omega arith), out 1))
    (output_there all s (flip (yes e.west_down) ∷ []) 1 ((w.west_down.0, omega arith), out 1)))
    (all_there_append all p3 p4 (output_there all s (flip (yes e.east_up) ∷ []) 1 ((w.east_up.0, omega arith), out 1))
    (output_there all s (flip (yes e.east_down) ∷ []) 1 ((w.east_down.0, omega arith), out 1))))
    (output_there all s (flip (yes e.first_bend) ∷ flip (yes e.second_bend) ∷ []) 2 ((w.first_bend.0, omega arith), ((w.second_bend.0, omega arith), out 2))))

edge_steps_extend : (v : Assignment) (vars : ℕ) (g : Graph) (x : DrawingVars) (grid : GridSize) (d : Drawing) (e most : ℕ) → AreVars vars g x grid.width →
    Read v g x grid d → e < length g.edges → Extends (vars + 1) (sum_count (steps_sum (x.edge e) grid.width most vars)) v
    (λ w. SatisfiesAll w (edge_steps (x.edge e) (steps_sum (x.edge e) grid.width most vars)))
edge_steps_extend v vars g x grid d e most a r lt =
    let s = steps_sum (x.edge e) grid.width most vars in
    let inputs = step_lits (x.edge e) 0 grid.width in
    let lits = steps_there vars (x.edge e) grid.width 0 grid.width (a.edge e lt) (omega arith) in
    extends_weaker (vars + 1) (sum_count s) v (λ w. SatisfiesAll w (sum_clauses s)) (λ w. SatisfiesAll w (edge_steps (x.edge e) s))
    (λ w later h.
    let q = read_stays v w vars g x grid d a (λ y low. later.below y (omega arith)) r in
    satisfies_append w (sum_clauses s) (steps_beside (x.edge e) s) h
    (beside_holds w g x grid d e s q lt (λ k few. sum_means w most vars inputs h k few ∙ ap (nat_le k) (edge_diagonal w g x grid d e q lt))))
    (sum_extends v most vars inputs lits)

-- ALL EDGES
true_append : (v : Assignment) (ks ls : List Literal) → count_true v (ks ++ ls) ≡ count_true v ks + count_true v ls
true_append v [] ls = omega arith
true_append v (k ∷ ks) ls = omega (arith, true_append v ks ls)

both_there : (vars : ℕ) (ks ls : List Literal) → AreThere vars ks → AreThere vars ls → AreThere vars (ks ++ ls)
both_there vars [] ls h k = k
both_there vars (l ∷ ks) ls h k = (h.0, both_there vars ks ls h.1 k)

abbrev capped : Drawing → ℕ → ℕ → ℕ
capped d most e = min (diagonal (line d e)) most

outputs_true : (v : Assignment) (g : Graph) (x : DrawingVars) (grid : GridSize) (d : Drawing) (most vars : ℕ) (es : List ℕ) → Read v g x grid d →
    All (λ e. e < length g.edges) es → SatisfiesAll v (edges_steps x grid.width most vars es) →
    count_true v (edges_outputs x grid.width most vars es) ≡ sum_by (capped d most) es
outputs_true v g x grid d most vars [] r there h = refl
outputs_true v g x grid d most vars (e ∷ es) r there h =
    let s = steps_sum (x.edge e) grid.width most vars in
    let next = vars + sum_count s in
    let one = edge_steps (x.edge e) s in
    let more = edges_steps x grid.width most next es in
    let lt = All-head (λ e. e < length g.edges) e es there in
    let cons = sum_by-cons (capped d most) e es in
    let here = sum_outputs_true v most vars (step_lits (x.edge e) 0 grid.width) (satisfies_left v (sum_clauses s) (steps_beside (x.edge e) s)
    (satisfies_left v one more h))
    ∙ ap (λ n. min n most) (edge_diagonal v g x grid d e r lt) in
    let rest = outputs_true v g x grid d most next es r (All-tail (λ e. e < length g.edges) e es there) (satisfies_right v one more h) in
    omega (arith, cons, here, rest, true_append v (sum_outputs s) (edges_outputs x grid.width most next es))

pub outputs_there : (vars : ℕ) (g : Graph) (x : DrawingVars) (width most : ℕ) (es : List ℕ) → AreVars vars g x width → All (λ e. e < length g.edges) es →
    AreThere (vars + edges_count x width most vars es) (edges_outputs x width most vars es)
outputs_there vars g x width most [] a there = tt
outputs_there vars g x width most (e ∷ es) a there =
    let s = steps_sum (x.edge e) width most vars in
    let next = vars + sum_count s in
    let more = edges_count x width most next es in
    let lt = All-head (λ e. e < length g.edges) e es there in
    let lits = steps_there vars (x.edge e) width 0 width (a.edge e lt) (omega arith) in
    let z : next + more ≡ vars + (sum_count s + more) = omega arith in
    subst (λ n. AreThere n (edges_outputs x width most vars (e ∷ es))) z
    (both_there (next + more) (sum_outputs s) (edges_outputs x width most next es)
    (there_more next (next + more) (sum_outputs s) (omega arith) (sum_outputs_there most vars (step_lits (x.edge e) 0 width) lits))
    (outputs_there next g x width most es (vars_more vars next g x width (omega arith) a) (All-tail (λ e. e < length g.edges) e es there)))

edges_steps_there : (vars : ℕ) (g : Graph) (x : DrawingVars) (width most : ℕ) (es : List ℕ) → AreVars vars g x width → All (λ e. e < length g.edges) es →
    AllThere (vars + edges_count x width most vars es) (edges_steps x width most vars es)
edges_steps_there vars g x width most [] a there = tt
edges_steps_there vars g x width most (e ∷ es) a there =
    let s = steps_sum (x.edge e) width most vars in
    let next = vars + sum_count s in
    let more = edges_count x width most next es in
    let lt = All-head (λ e. e < length g.edges) e es there in
    let z : next + more ≡ vars + (sum_count s + more) = omega arith in
    subst (λ n. AllThere n (edges_steps x width most vars (e ∷ es))) z
    (all_there_append (next + more) (edge_steps (x.edge e) s) (edges_steps x width most next es)
    (all_there_more next (next + more) (edge_steps (x.edge e) s) (omega arith) (edge_steps_there vars vars (x.edge e) width most (a.edge e lt) (omega arith)
    (a.edge e lt)))
    (edges_steps_there next g x width most es (vars_more vars next g x width (omega arith) a) (All-tail (λ e. e < length g.edges) e es there)))

edges_steps_extend : (v : Assignment) (vars : ℕ) (g : Graph) (x : DrawingVars) (grid : GridSize) (d : Drawing) (most : ℕ) (es : List ℕ) →
    AreVars vars g x grid.width → Read v g x grid d → All (λ e. e < length g.edges) es →
    Extends (vars + 1) (edges_count x grid.width most vars es) v (λ w. SatisfiesAll w (edges_steps x grid.width most vars es))
edges_steps_extend v vars g x grid d most [] a r there = record { to = v; same = same_none (vars + 1) 0 v; holds = tt }
edges_steps_extend v vars g x grid d most (e ∷ es) a r there =
    let s = steps_sum (x.edge e) grid.width most vars in
    let next = vars + sum_count s in
    let more = edges_count x grid.width most next es in
    let lt = All-head (λ e. e < length g.edges) e es there in
    let z : next + 1 ≡ vars + 1 + sum_count s = omega arith in
    extends_clauses (vars + 1) (sum_count s) more next v (edge_steps (x.edge e) s) (edges_steps x grid.width most next es) (omega arith)
    (edge_steps_there vars vars (x.edge e) grid.width most (a.edge e lt) (omega arith) (a.edge e lt))
    (edge_steps_extend v vars g x grid d e most a r lt)
    (λ w same h. subst (λ p. Extends p more w (λ u. SatisfiesAll u (edges_steps x grid.width most next es))) z
    (edges_steps_extend w next g x grid d most es (vars_more vars next g x grid.width (omega arith) a)
    (read_stays v w vars g x grid d a (λ y low. same.below y (omega arith)) r) (All-tail (λ e. e < length g.edges) e es there)))

-- the cut sums are enough up to the cap
cut_sum : (f : ℕ → ℕ) (cap twice : ℕ) (es : List ℕ) → All (λ e. f e ≤ twice) es → min (sum_by (λ e. min (f e) (min cap twice)) es) cap ≡ min (sum_by f es) cap
cut_sum f cap twice [] low = refl
cut_sum f cap twice (e ∷ es) low =
    let one = sum_by-cons (λ e. min (f e) (min cap twice)) e es in
    let two = sum_by-cons f e es in
    let here = All-head (λ e. f e ≤ twice) e es low in
    omega (arith, one, two, here, cut_sum f cap twice es (All-tail (λ e. f e ≤ twice) e es low))

same_up_to : (k cap m n : ℕ) → k ≤ cap → min m cap ≡ min n cap → nat_le k m ≡ nat_le k n
same_up_to k cap m n le e = elim (leb_tells k m) [
  | inl low ↦ let a = low.1 in let b : k ≤ n = omega arith in low.0 ∙ sym (yes_le k n b)
  | inr high ↦ let a = high.1 in let b : n < k = omega arith in high.0 ∙ sym (no_le k n b)
]
  where
    yes_le : (i j : ℕ) → i ≤ j → nat_le i j ≡ true
    yes_le i j h = grind (arith, nat_tests)

    no_le : (i j : ℕ) → j < i → nat_le i j ≡ false
    no_le i j h = grind (arith, nat_tests)

lows : (g : Graph) (grid : GridSize) (d : Drawing) (es : List ℕ) → IsJoinedOnGrid g grid d → All (λ e. e < length g.edges) es →
    All (λ e. diagonal (line d e) ≤ 2 * grid.height) es
lows g grid d [] loose there = All-nil (λ e. diagonal (line d e) ≤ 2 * grid.height)
lows g grid d (e ∷ es) loose there = All-cons (λ e. diagonal (line d e) ≤ 2 * grid.height) e es
    (edge_low g grid d e loose (All-head (λ e. e < length g.edges) e es there)) (lows g grid d es loose (All-tail (λ e. e < length g.edges) e es there))

-- the outputs tell the diagonal up to the cap
pub outputs_tell : (v : Assignment) (g : Graph) (x : DrawingVars) (grid : GridSize) (d : Drawing) (edges : List ℕ) (cap vars k : ℕ) → AreEdges g edges →
    Read v g x grid d → SatisfiesAll v (edges_steps x grid.width (edge_most grid cap) vars edges) → k ≤ cap →
    nat_le k (count_true v (edges_outputs x grid.width (edge_most grid cap) vars edges)) ≡ nat_le k (sum_by diagonal d.lines)
outputs_tell v g x grid d edges cap vars k are r h le =
    ap (nat_le k) (outputs_true v g x grid d (edge_most grid cap) vars edges r are.there h)
    ∙ same_up_to k cap (sum_by (capped d (edge_most grid cap)) edges) (sum_by (λ e. diagonal (line d e)) edges) le
    (cut_sum (λ e. diagonal (line d e)) cap (2 * grid.height) edges (lows g grid d edges r.loose are.there))
    ∙ ap (nat_le k) (sum_over_lines g diagonal d.lines edges r.loose.fits.size.lines are)

pub diagonal_exact : (v : Assignment) (g : Graph) (x : DrawingVars) (grid : GridSize) (d : Drawing) (edges : List ℕ) (last cap : ℕ) → AreEdges g edges →
    Read v g x grid d → SatisfiesAll v (diagonal_bound x grid edges last cap) → IsExact v last cap (sum_by diagonal d.lines)
diagonal_exact v g x grid d edges last cap are r h k from to =
    let steps = edges_steps x grid.width (edge_most grid cap) (last + cap) edges in
    let s = diagonal_sum x grid edges last cap in
    sum_bound_means v s.inputs last cap s.vars (satisfies_right v steps (sum_bound s last) h) k from to
    ∙ outputs_tell v g x grid d edges cap (last + cap) k are r (satisfies_left v steps (sum_bound s last) h) to

pub diagonal_there : (vars : ℕ) (g : Graph) (x : DrawingVars) (grid : GridSize) (edges : List ℕ) (last cap : ℕ) → AreEdges g edges →
    AreVars vars g x grid.width → vars ≤ last → AllThere (last + diagonal_bound_size x grid edges last cap) (diagonal_bound x grid edges last cap)
diagonal_there vars g x grid edges last cap are a le =
    let most = edge_most grid cap in
    let steps = edges_steps x grid.width most (last + cap) edges in
    let count = edges_count x grid.width most (last + cap) edges in
    let s = diagonal_sum x grid edges last cap in
    let all = last + diagonal_bound_size x grid edges last cap in
    let b = vars_more vars (last + cap) g x grid.width (omega arith) a in
    all_there_append all steps (sum_bound s last)
    (all_there_more (last + cap + count) all steps (omega arith) (edges_steps_there (last + cap) g x grid.width most edges b are.there))
    (all_there_more (s.vars + sum_count s) all (sum_bound s last) (omega arith) (sum_bound_there s.inputs last cap s.vars
    (outputs_there (last + cap) g x grid.width most edges b are.there) (omega arith)))

pub diagonal_extends : (v : Assignment) (vars : ℕ) (g : Graph) (x : DrawingVars) (grid : GridSize) (d : Drawing) (edges : List ℕ) (last cap : ℕ) →
    AreEdges g edges → AreVars vars g x grid.width → vars ≤ last → Read v g x grid d →
    Extends (last + 1) (diagonal_bound_size x grid edges last cap) v (λ w. SatisfiesAll w (diagonal_bound x grid edges last cap))
diagonal_extends v vars g x grid d edges last cap are a le r =
    extends_both (last + 1) cap (count + sum_count s) v (λ u. IsExact u last cap n) (λ u. SatisfiesAll u (diagonal_bound x grid edges last cap))
    (record { to = patch (last + 1) cap f v; same = patch_same (last + 1) cap f v; holds = set_bound v last cap n })
    (λ u first exact. subst (λ p. Extends p (count + sum_count s) u (λ z. SatisfiesAll z (diagonal_bound x grid edges last cap))) place
    (behind u (read_stays v u vars g x grid d a (λ y low. first.below y (omega arith)) r) exact))
  where
    most : ℕ
    most = edge_most grid cap

    count : ℕ
    count = edges_count x grid.width most (last + cap) edges

    s : SumVars
    s = diagonal_sum x grid edges last cap

    steps : Clauses
    steps = edges_steps x grid.width most (last + cap) edges

    n : ℕ
    n = sum_by diagonal d.lines

    f : ℕ → Bool
    f = λ k. nat_le (k + 1) n

    place : last + cap + 1 ≡ last + 1 + cap
    place = omega arith

    b : AreVars (last + cap) g x grid.width
    b = vars_more vars (last + cap) g x grid.width (omega arith) a

    behind : (u : Assignment) → Read u g x grid d → IsExact u last cap n →
        Extends (last + cap + 1) (count + sum_count s) u (λ z. SatisfiesAll z (diagonal_bound x grid edges last cap))
    behind u q exact =
        let z : s.vars + 1 ≡ last + cap + 1 + count = omega arith in
        extends_clauses (last + cap + 1) count (sum_count s) (last + cap + count) u steps (sum_bound s last) (omega arith)
        (edges_steps_there (last + cap) g x grid.width most edges b are.there)
        (edges_steps_extend u (last + cap) g x grid d most edges b q are.there)
        (λ w same h.
        let later = read_stays u w (last + cap) g x grid d b (λ y low. same.below y (omega arith)) q in
        subst (λ p. Extends p (sum_count s) w (λ y. SatisfiesAll y (sum_bound s last))) z
        (sum_bound_extends w s.inputs last cap s.vars (outputs_there (last + cap) g x grid.width most edges b are.there) (omega arith)
        (λ k from to. same.below (last + k) (omega arith) ∙ exact k from to ∙ sym (outputs_tell w g x grid d edges cap (last + cap) k are later h to))))
