-- What is expected covers the lawful drawings: each has a model of the clauses in which the bounds tell its values.
use Rattle.std.proofs.Common.{◌≡◌, ◌≤◌, ℕ, ◌+◌, Bool, true, List, ◌++◌, refl, sym, ◌∙◌, ap, subst, arith}
use Rattle.std.specs.Prelude.{nat_le, ◌↔◌}
use Rattle.std.proofs.lemmas.Bool.{leb-true, le-leb}
use Rattle.std.proofs.lemmas.List.Elements.{All-contains}
use Rattle.plan_core.specs.declared.criterion.Criterion.{Criterion}
use Rattle.plan_core.specs.Grid.{GridSize, IsGrid}
use Rattle.plan_core.specs.Graph.{Graph}
use Rattle.plan_core.specs.Drawing.{Drawing}
use Rattle.plan_core.specs.Values.{values_of, value_of}
use Rattle.port_graph.specs.StationGraph.{IsStationGraph}
use Rattle.cnf_core.specs.Assignment.{SatisfiesAll}
use Rattle.track_order.specs.Order.{EdgeOrder, is_above, is_overlap, IsOrderOf}
use Rattle.refute_log.specs.Told.{Lines}
use Rattle.refute_log.specs.Bounds.{MeetsLog, CoversDrawings}
use Rattle.refute_log.specs.Expected.{expected_lines}
use Rattle.cnf_laws.specs.Expected.{drawing_vars, formula_clauses, formula_size}
use Rattle.drawing_cnf.specs.Bounds.{IsExact}
use Rattle.drawing_cnf.specs.Bounded.{Bound, bounds_clauses, expected_bounds, expected, TellingModel, CoversWith}
use Rattle.drawing_cnf.specs.Encoding.{Encoding, encoding}
use Rattle.drawing_cnf.specs.Whole.{bounds_last}
use Rattle.cnf_laws.proofs.MainLemmas.{few_variables}
use Rattle.drawing_cnf.proofs.BoundedLemmas.{from_behind}
use Rattle.drawing_cnf.proofs.CriterionLemmas.{whole_covers}
use Rattle.drawing_cnf.specs.Lists.{lines_with}
use Rattle.drawing_cnf.specs.Layout.{layout, problem_of}
use Rattle.drawing_cnf.proofs.ListLemmas.{given_with, IsBoundLine, in_lines, expected_with}

pub both_true : (b : Bool) (k n : ℕ) → b ≡ nat_le k n → (b ≡ true) ↔ (k ≤ n)
both_true b k n e = (λ t. leb-true k n (sym e ∙ t), λ le. e ∙ le-leb k n le)

-- the values of a drawing that has such a model meet the lines of the bounds
pub meets_with : (g : Graph) (above overlap : ℕ → ℕ → Bool) (grid : GridSize) (told : List Bound) (d : Drawing) →
    TellingModel g (drawing_vars g grid) (formula_clauses g above overlap grid ++ bounds_clauses g (drawing_vars g grid) grid told) told d →
    MeetsLog (lines_with g above overlap grid told) (values_of d)
meets_with g above overlap grid told d m = record {
  assignment = m.to;
  formula = subst (SatisfiesAll m.to) (sym (given_with g above overlap grid told)) m.satisfies;
  bounds = λ c k x there.
      let r = in_lines g above overlap grid told c k x there in
      let line : IsBoundLine (r.told).criterion 1 (r.told).last (r.told).cap c k x = r.line in
      let exact : IsExact m.to (r.told).last (r.told).cap (value_of (values_of d) (r.told).criterion) =
      All-contains (λ (b : Bound). IsExact m.to b.last b.cap (value_of (values_of d) b.criterion)) told r.told m.tells r.among in
      let from = line.from in
      let to = line.to in
      let is = line.is in
      let place : (r.told).last + k ≡ x.0 = omega arith in
      let same : value_of (values_of d) (r.told).criterion ≡ value_of (values_of d) c = ap (value_of (values_of d)) line.same in
      both_true (m.to x.0) k (value_of (values_of d) c) (ap m.to (sym place) ∙ exact k from (omega arith) ∙ ap (nat_le k) same);
}

-- a formula with them
with_bounds : Graph → EdgeOrder → GridSize → List Criterion → (Criterion → ℕ) → Encoding
with_bounds g o grid order caps =
    let bounds = expected_bounds g (is_above o) (is_overlap o) grid order caps in
    encoding g o grid (record {
      room = 0;
      vars = bounds_last g (drawing_vars g grid) grid (formula_size g (is_above o) (is_overlap o) grid) bounds;
      clauses = expected g (is_above o) (is_overlap o) grid order caps;
    }) bounds

pub bounds_cover : (g : Graph) (o : EdgeOrder) (grid : GridSize) (order : List Criterion) (caps : Criterion → ℕ) → IsStationGraph g → IsOrderOf g o →
    IsGrid grid →
    CoversWith g (is_above o) grid (drawing_vars g grid) (expected g (is_above o) (is_overlap o) grid order caps)
    (expected_bounds g (is_above o) (is_overlap o) grid order caps)
unfolding with_bounds
bounds_cover g o grid order caps is h size =
    whole_covers (with_bounds g o grid order caps) is.track_graph size (few_variables g grid size is.few_nodes is.few_edges) (record {
      order = h;
      clauses = refl;
      behind = from_behind g (drawing_vars g grid) grid caps (formula_size g (is_above o) (is_overlap o) grid) order;
      vars = refl;
    })

pub expected_cover : (g : Graph) (o : EdgeOrder) (grid : GridSize) (order : List Criterion) (caps : Criterion → ℕ) → IsStationGraph g → IsOrderOf g o →
    IsGrid grid →
    CoversDrawings g (is_above o) grid (expected_lines (problem_of (layout g o grid)) order caps)
expected_cover g o grid order caps is h size = λ d lawful.
    let bounds = expected_bounds g (is_above o) (is_overlap o) grid order caps in
    subst (λ (lines : Lines). MeetsLog lines (values_of d)) (sym (expected_with g (is_above o) (is_overlap o) grid order caps))
    (meets_with g (is_above o) (is_overlap o) grid bounds d (bounds_cover g o grid order caps is h size d lawful))
