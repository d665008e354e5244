-- A bound past what a criterion's value may be: a clause of one literal makes its variable false.
use Rattle.std.proofs.Common.{◌≡◌, ℕ, suc, ◌+◌, ◌*◌, ◌≤◌, ◌<◌, List, [], ◌∷◌, length, sym, subst, arith, length-append, length-take}
use Rattle.std.specs.Prelude.{Contains}
use Rattle.std.proofs.Math.Nat.{mul-le-mul_left}
use Rattle.std.proofs.lemmas.List.Elements.{Contains-append_right}
use Rattle.plan_core.specs.declared.criterion.Criterion.{Criterion}
use Rattle.plan_core.specs.declared.criterion.Criterion.TheVariants.{Height, Bends, Diagonal, Width}
use Rattle.plan_core.specs.Grid.{GridSize}
use Rattle.plan_core.specs.Graph.{Graph}
use Rattle.plan_core.specs.Values.{limit_of}
use Rattle.plan_core.proofs.Listing.{Contains-head}
use Rattle.cnf_core.specs.declared.literal.LitOrTruth.{LitOrTruth}
use Rattle.cnf_core.specs.declared.literal.LitOrTruth.TheVariants.{False}
use Rattle.cnf_core.specs.Lit.{negative_of}
use Rattle.cnf_core.specs.Formula.{each}
use Rattle.unary_sum.specs.Part.{part_outputs}
use Rattle.unary_sum.specs.Sum.{SumVars, sum_count, sum_clauses, sum_outputs, sum_at_least, sum_tree, tree_top}
use Rattle.unary_sum.proofs.SizeLemmas.{size_bound}
use Rattle.unary_sum.proofs.JoinLemmas.{at_above}
use Rattle.unary_sum.proofs.SumLemmas.{part_size-top}
use Rattle.cnf_laws.specs.Stands.{DrawingVars}
use Rattle.drawing_cnf.specs.Bounds.{same_as, sum_bound, west_first, steps_sum, edges_steps, edges_outputs, edge_most, diagonal_sum, bound_clauses, reach_of}
use Rattle.drawing_cnf.proofs.BoundLemmas.{bound_outputs, edges_length}
use Rattle.drawing_cnf.proofs.BoundNames.{among_each}

past_sum : (s : SumVars) (k : ℕ) → length s.inputs < k → sum_at_least s k ≡ False
past_sum s k lt = at_above (tree_top s.most s.vars (sum_tree s)) k (omega (
  arith,
  part_size-top s.most s.vars (sum_tree s),
  size_bound s.most (length s.inputs)
      s.inputs (omega arith),
))

-- each edge's sum has no more outputs than its cap
pub outputs_few : (x : DrawingVars) (width most vars : ℕ) (es : List ℕ) → length (edges_outputs x width most vars es) ≤ length es * most
outputs_few x width most vars [] = omega arith
outputs_few x width most vars (e ∷ es) =
    let s = steps_sum (x.edge e) width most vars in
    let next = vars + sum_count s in
    let one : suc (length es) * most ≡ length es * most + most = omega arith in
    omega (
      arith,
      one,
      length-append (sum_outputs s) (edges_outputs x width most next es),
      length-take most (part_outputs (tree_top most vars (sum_tree s))),
      outputs_few x width most next es,
    )

false_alone : (b : ℕ) (t : LitOrTruth) → t ≡ False → Contains (same_as b t) (negative_of b ∷ [])
false_alone b t is = subst (λ (u : LitOrTruth). Contains (same_as b u) (negative_of b ∷ [])) (sym is) (Contains-head (negative_of b ∷ []) [])

diagonal_forced : (g : Graph) (x : DrawingVars) (grid : GridSize) (last cap k : ℕ) → 1 ≤ k → k ≤ cap → length g.edges * (2 * grid.height) < k →
    Contains (bound_clauses g x grid last cap Diagonal) (negative_of (last + k) ∷ [])
diagonal_forced g x grid last cap k from to past =
    let es = west_first g in
    let most = edge_most grid cap in
    let s = diagonal_sum x grid es last cap in
    let c = negative_of (last + k) ∷ [] in
    let few : length s.inputs ≤ length g.edges * most = subst (λ n. length s.inputs ≤ n * most) (edges_length g)
    (outputs_few x grid.width most (last + cap) es) in
    let less : length g.edges * most ≤ length g.edges * (2 * grid.height) = mul-le-mul_left (length g.edges) (omega arith) in
    Contains-append_right (edges_steps x grid.width most (last + cap) es) (sum_bound s last) c
    (Contains-append_right (sum_clauses s) (each (bound_outputs s last) 1 s.most) c
    (among_each (bound_outputs s last) 1 s.most k c from (omega arith) (false_alone (last + k) (sum_at_least s k) (past_sum s k (omega arith)))))

pub bound_forced : (g : Graph) (x : DrawingVars) (grid : GridSize) (last cap : ℕ) (c : Criterion) (k : ℕ) → cap ≤ limit_of g grid c → 1 ≤ k → k ≤ cap →
    reach_of g grid c < k → Contains (bound_clauses g x grid last cap c) (negative_of (last + k) ∷ [])
bound_forced g x grid last cap Height k most from to past = absurd (omega arith)
bound_forced g x grid last cap Bends k most from to past = absurd (omega arith)
bound_forced g x grid last cap Diagonal k most from to past = diagonal_forced g x grid last cap k from to past
bound_forced g x grid last cap Width k most from to past = absurd (omega arith)
