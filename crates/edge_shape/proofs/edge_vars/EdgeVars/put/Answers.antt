use Rattle.std.proofs.Common.{◌≡◌, sym, subst}
use Rattle.plan_core.specs.Grid.{grid_size}
use Rattle.edge_shape.proofs.GridLemmas.{on_grid_heights}
use Rattle.cnf_core.specs.Assignment.{Assignment, SatisfiesAll, SameOutside}
use Rattle.cnf_core.specs.Truths.{assignment}
use Rattle.edge_shape.specs.EdgeVars.{EdgeSpot, IsSpot, lits_of, edge_size}
use Rattle.edge_shape.specs.Edge.{edge_clauses}
use Rattle.edge_shape.specs.ReadsLine.{ReadsLine, line_bits}
use Rattle.edge_shape.specs.Setting.{set_edge}
use Rattle.edge_shape.proofs.SettingLemmas.{set_same}
use Rattle.edge_shape.proofs.LineExtends.{set_reads, set_satisfies}
use Rattle.edge_shape.proofs.edge_vars.EdgeVars.put.Goals as goal

pub returns-clause-reads : goal.returns-clause-reads
returns-clause-reads c =
    let line = c.args.line.now in
    let old = assignment c.args.m.now in
    let e = c.args.self.now in
    let set = subst (λ (s : EdgeSpot). assignment c.put_line.new.m ≡ set_edge (line_bits line) s.first s.high s.width old) c.self.view_is
    c.put_line.ensures.set in
    let spot = subst (λ (s : EdgeSpot). IsSpot s.first s.high s.width) c.self.view_is c.self.invariant.spot in
    subst (λ (w : Assignment). ReadsLine w (lits_of e) e.width line) (sym set) (set_reads e.first e.high e.width old line spot.some_columns
    (λ x. on_grid_heights (grid_size e.width e.high) line x c.points-points.ensures.is_line c.requires.on_grid))

pub returns-clause-same : goal.returns-clause-same
returns-clause-same c =
    let line = c.args.line.now in
    let old = assignment c.args.m.now in
    let e = c.args.self.now in
    let set = subst (λ (s : EdgeSpot). assignment c.put_line.new.m ≡ set_edge (line_bits line) s.first s.high s.width old) c.self.view_is
    c.put_line.ensures.set in
    subst (λ (w : Assignment). SameOutside e.first (edge_size e.high e.width) old w) (sym set) (set_same (line_bits line) e.first e.high e.width old)

pub returns-clause-satisfies : goal.returns-clause-satisfies
returns-clause-satisfies c = λ west east least p q bw be rx ra rz rb j.
    let line = c.args.line.now in
    let old = assignment c.args.m.now in
    let e = c.args.self.now in
    let set = subst (λ (s : EdgeSpot). assignment c.put_line.new.m ≡ set_edge (line_bits line) s.first s.high s.width old) c.self.view_is
    c.put_line.ensures.set in
    subst (λ (w : Assignment). SatisfiesAll w (edge_clauses (lits_of e) west east least e.high e.width)) (sym set)
    (set_satisfies old e.first e.high e.width least west east p q line bw be rx ra rz rb j)
