use Rattle.std.proofs.Common.{ap, subst, arith}
use Rattle.plan_core.specs.Grid.{GridSize, IsGrid}
use Rattle.plan_core.specs.Graph.{Graph}
use Rattle.port_graph.specs.StationGraph.{IsStationGraph}
use Rattle.cnf_core.specs.Formula.{Cnf, IsFormula}
use Rattle.drawing_cnf.specs.Bounded.{longest_of_bound}
use Rattle.drawing_cnf.specs.Encoding.{Encoding, encoded_vars}
use Rattle.drawing_cnf.proofs.BoundWords.{bound_words, bound_variables}
use Rattle.drawing_cnf.proofs.CriterionLemmas.{whole_there, grown_after}
use Rattle.drawing_cnf.proofs.adding.criterion_bound.Goals as goal

pub add_kept-outcome-requires-clause-there : goal.add_kept-outcome-requires-clause-there
add_kept-outcome-requires-clause-there c = whole_there c.args.e.now c.requires.whole

pub returns-clause-room : goal.returns-clause-room
returns-clause-room c = c.add_kept-outcome.ensures.adds.room

pub returns-clause-grown : goal.returns-clause-grown
returns-clause-grown c =
    let e = c.args.e.now in
    let k = c.add_kept-outcome.ensures in
    let station = subst (λ (g : Graph). IsStationGraph g) (ap (λ (z : Encoding). z.graph) c.e.view_is) c.nodes.ensures.station in
    let size = subst (λ (d : GridSize). IsGrid d) (ap (λ (z : Encoding). z.grid) c.e.view_is) c.width.ensures.is_grid in
    let before = subst (λ (f : Cnf). IsFormula f) (ap (λ (z : Encoding). z.formula) c.e.view_is) c.vars.ensures.formula in
    let after = subst (λ (f : Cnf). IsFormula f) (ap (λ (z : Encoding). z.formula) c.e-2.view_is) c.words.ensures.formula in
    grown_after c.add_kept-outcome.result e c.add_kept-outcome.new.e c.args.c c.args.cap (longest_of_bound e.graph e.grid) station size before after
    c.requires.whole c.requires.to k.layout k.bounds k.adds

pub returns-clause-full : goal.returns-clause-full
returns-clause-full c = c.add_kept-outcome.ensures.adds.passes

pub returns-clause-words_bounded : goal.returns-clause-words_bounded
returns-clause-words_bounded c = λ some.
    let e = c.args.e.now in
    omega (arith, c.add_kept-outcome.ensures.adds.words, bound_words e.graph (encoded_vars e) e.grid e.formula.vars c.args.cap c.args.c some)

pub returns-clause-vars_bounded : goal.returns-clause-vars_bounded
returns-clause-vars_bounded c = λ some.
    let e = c.args.e.now in
    omega (arith, c.add_kept-outcome.ensures.adds.vars, bound_variables e.graph (encoded_vars e) e.grid e.formula.vars c.args.cap c.args.c some)

pub returns-clause-layout : goal.returns-clause-layout
returns-clause-layout c = c.add_kept-outcome.ensures.layout

pub returns-clause-bound : goal.returns-clause-bound
returns-clause-bound c = c.add_kept-outcome.ensures.bound
