-- The bound of bends is exact, and each drawing extends to it.
use Rattle.std.proofs.Common.{◌≡◌, ℕ, ◌+◌, ◌≤◌, ◌<◌, Bool, not, List, [], ◌∷◌, length, refl, sym, ◌∙◌, ap, subst, arith}
use Rattle.std.specs.Prelude.{nat_le, ◌&&◌, All}
use Rattle.std.specs.List.{sum_by}
use Rattle.std.proofs.lemmas.List.Sums.{sum_by-cons}
use Rattle.std.proofs.lemmas.List.Elements.{All-head, All-tail}
use Rattle.plan_core.specs.Grid.{GridSize}
use Rattle.plan_core.specs.Graph.{Graph}
use Rattle.plan_core.specs.Line.{bends, slope_east}
use Rattle.plan_core.specs.Drawing.{Drawing, line}
use Rattle.cnf_core.specs.Clause.{AreThere, AllThere}
use Rattle.cnf_core.specs.Assignment.{Assignment, SatisfiesAll, Extends}
use Rattle.cnf_core.proofs.SettingLemmas.{patch, patch_same, extends_both}
use Rattle.unary_sum.specs.Sum.{sum_count, count_true}
use Rattle.edge_shape.specs.Columns.{is_level, has_level_piece}
use Rattle.edge_shape.proofs.RunLemmas.{one_if}
use Rattle.edge_shape.proofs.BendLemmas.{bends_are}
use Rattle.cnf_laws.specs.Stands.{DrawingVars}
use Rattle.drawing_cnf.specs.Bounds.{IsExact, bend_lits, bends_sum, bends_bound, bends_bound_size}
use Rattle.cnf_laws.proofs.OverLemmas.{Read}
use Rattle.cnf_laws.proofs.ThereLemmas.{AreVars, vars_more}
use Rattle.cnf_laws.proofs.InstanceLemmas.{read_stays}
use Rattle.drawing_cnf.proofs.BoundLemmas.{set_bound, sum_bound_means, sum_bound_extends, sum_bound_there, AreEdges, sum_over_lines}

pub line_bends : (v : Assignment) (g : Graph) (x : DrawingVars) (grid : GridSize) (d : Drawing) (e : ℕ) → Read v g x grid d → e < length g.edges →
    bends (line d e) ≡ one_if (v (x.edge e).first_bend) + one_if (v (x.edge e).second_bend)
line_bends v g x grid d e r lt =
    let l = line d e in
    let s = r.reads.lines e lt in
    bends_are l (r.loose.joins e lt).shape
    ∙ ap (λ b. one_if b + one_if (not (is_level (slope_east l)) && has_level_piece l)) (sym s.first_bend)
    ∙ ap (λ b. one_if (v (x.edge e).first_bend) + one_if b) (sym s.second_bend)

edges_bends : (v : Assignment) (g : Graph) (x : DrawingVars) (grid : GridSize) (d : Drawing) (es : List ℕ) → Read v g x grid d →
    All (λ e. e < length g.edges) es → count_true v (bend_lits x es) ≡ sum_by (λ e. bends (line d e)) es
edges_bends v g x grid d [] r there = refl
edges_bends v g x grid d (e ∷ es) r there =
    let one = line_bends v g x grid d e r (All-head (λ e. e < length g.edges) e es there) in
    let cons = sum_by-cons (λ e. bends (line d e)) e es in
    let rest = edges_bends v g x grid d es r (All-tail (λ e. e < length g.edges) e es there) in
    omega arith

pub count_bends : (v : Assignment) (g : Graph) (x : DrawingVars) (grid : GridSize) (d : Drawing) (edges : List ℕ) → AreEdges g edges → Read v g x grid d →
    count_true v (bend_lits x edges) ≡ sum_by bends d.lines
count_bends v g x grid d edges are r = edges_bends v g x grid d edges r are.there ∙ sum_over_lines g bends d.lines edges r.loose.fits.size.lines are

pub bends_exact : (v : Assignment) (g : Graph) (x : DrawingVars) (grid : GridSize) (d : Drawing) (edges : List ℕ) (last cap : ℕ) → AreEdges g edges →
    Read v g x grid d → SatisfiesAll v (bends_bound x edges last cap) → IsExact v last cap (sum_by bends d.lines)
bends_exact v g x grid d edges last cap are r h k from to = sum_bound_means v (bend_lits x edges) last cap (last + cap) h k from to
    ∙ ap (nat_le k) (count_bends v g x grid d edges are r)

lits_there : (vars : ℕ) (g : Graph) (x : DrawingVars) (width : ℕ) (es : List ℕ) → AreVars vars g x width → All (λ e. e < length g.edges) es →
    AreThere vars (bend_lits x es)
lits_there vars g x width [] a there = tt
lits_there vars g x width (e ∷ es) a there =
    let w = (a.edge e (All-head (λ e. e < length g.edges) e es there)).whole in
    (w.first_bend, (w.second_bend, lits_there vars g x width es a (All-tail (λ e. e < length g.edges) e es there)))

pub bends_lits_there : (vars : ℕ) (g : Graph) (x : DrawingVars) (width : ℕ) (edges : List ℕ) (most : ℕ) → vars ≤ most → AreEdges g edges →
    AreVars vars g x width → AreThere most (bend_lits x edges)
bends_lits_there vars g x width edges most le are a = lits_there most g x width edges (vars_more vars most g x width le a) are.there

pub bends_extend : (v : Assignment) (vars : ℕ) (g : Graph) (x : DrawingVars) (grid : GridSize) (d : Drawing) (edges : List ℕ) (last cap : ℕ) →
    AreEdges g edges → AreVars vars g x grid.width → vars ≤ last → Read v g x grid d →
    Extends (last + 1) (bends_bound_size x edges last cap) v (λ w. SatisfiesAll w (bends_bound x edges last cap))
bends_extend v vars g x grid d edges last cap are a le r =
    let s = bends_sum x edges last cap in
    let n = sum_by bends d.lines in
    let f : ℕ → Bool = λ k. nat_le (k + 1) n in
    let same = patch_same (last + 1) cap f v in
    let place : last + cap + 1 ≡ last + 1 + cap = omega arith in
    extends_both (last + 1) cap (sum_count s) v (λ u. IsExact u last cap n) (λ u. SatisfiesAll u (bends_bound x edges last cap))
    (record { to = patch (last + 1) cap f v; same = same; holds = set_bound v last cap n })
    (λ u first exact.
    let q = read_stays v u vars g x grid d a (λ y low. first.below y (omega arith)) r in
    subst (λ p. Extends p (sum_count s) u (λ z. SatisfiesAll z (bends_bound x edges last cap))) place
    (sum_bound_extends u (bend_lits x edges) last cap (last + cap) (bends_lits_there vars g x grid.width edges (last + cap) (omega arith) are a) (omega arith)
    (λ k from to. exact k from to ∙ ap (nat_le k) (sym (count_bends u g x grid d edges are q)))))

pub bends_there : (vars : ℕ) (g : Graph) (x : DrawingVars) (width : ℕ) (edges : List ℕ) (last cap : ℕ) → AreEdges g edges → AreVars vars g x width →
    vars ≤ last → AllThere (last + bends_bound_size x edges last cap) (bends_bound x edges last cap)
bends_there vars g x width edges last cap are a le =
    let s = bends_sum x edges last cap in
    let z : last + cap + sum_count s ≡ last + (cap + sum_count s) = omega arith in
    subst (λ n. AllThere n (bends_bound x edges last cap)) z
    (sum_bound_there (bend_lits x edges) last cap (last + cap) (bends_lits_there vars g x width edges (last + cap) (omega arith) are a) (omega arith))
