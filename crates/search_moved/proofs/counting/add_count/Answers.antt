use Rattle.std.proofs.Common.{Err, ◌≡◌, ◌<◌, ◌∙◌, ap, subst, sym, arith, length, List}
use Rattle.plan_core.specs.Grid.{IsGrid}
use Rattle.port_graph.specs.StationGraph.{IsStationGraph}
use Rattle.cnf_core.specs.declared.fault.CnfFault.TheVariants.{Room}
use Rattle.cnf_core.specs.Formula.{Cnf}
use Rattle.edge_shape.specs.declared.edge_vars.NodeVars.{NodeVars}
use Rattle.drawing_cnf.specs.Nodes.{node_at}
use Rattle.search_moved.specs.Told.{AreNodes}
use Rattle.search_moved.proofs.StartLemmas.{node_there, is_vars, counted_are, count_passes}
use Rattle.search_moved.proofs.counting.add_count.Goals as goal

pub add_moved_count-requires-clause-there : goal.add_moved_count-requires-clause-there
add_moved_count-requires-clause-there c = λ k lt.
    let e = c.args.encoded.now in
    let ok = c.in_ok-new_vars.ensures.ok in
    let vars = is_vars c.args.f.now c.new_vars.new.self c.vars-vars.result ok c.requires.none ∙ c.vars-vars.ensures.value
    ∙ ap (λ (f : Cnf). f.vars) c.formula.ensures in
    let are : AreNodes e c.deref.result.now (length e.graph.nodes) = subst (λ (ns : List NodeVars). AreNodes e ns (length e.graph.nodes))
    (sym c.deref.ensures.value) c.in_ok-nodes.ensures.each in
    let here : k < length e.graph.nodes = (let same = c.requires.same in omega (arith, lt, same)) in
    node_there e c.new_vars.new.self.vars k (node_at c.deref.result.now k) (subst IsStationGraph c.graph.ensures c.nodes.ensures.station)
    (subst IsGrid c.grid.ensures c.width.ensures.is_grid)
    c.requires.whole c.requires.bounds (let v = vars in omega (arith, v)) here (are k here)

pub returns-clause-room : goal.returns-clause-room
returns-clause-room c = λ err.
    let e = c.args.encoded.now in
    let ok = c.in_ok-new_vars.ensures.ok in
    let vars = is_vars c.args.f.now c.new_vars.new.self c.vars-vars.result ok c.requires.none ∙ c.vars-vars.ensures.value
    ∙ ap (λ (f : Cnf). f.vars) c.formula.ensures in
    let are : AreNodes e c.deref.result.now (length e.graph.nodes) = subst (λ (ns : List NodeVars). AreNodes e ns (length e.graph.nodes))
    (sym c.deref.ensures.value) c.in_ok-nodes.ensures.each in
    count_passes e c.new_vars.new.self c.args.f.now.room c.deref.result.now c.args.former.now c.requires.whole c.requires.bounds vars
    (ap (λ (f : Cnf). f.clauses) ok ∙ c.requires.empty) (ap (λ (f : Cnf). f.room) ok) are c.requires.same
    ((c.in-Err.ensures.adds).passes (ap Err (let h : c.in-Err.fault ≡ Room = cc in h)))

pub returns-in-Ok-clause-clauses : goal.returns-in-Ok-clause-clauses
returns-in-Ok-clause-clauses c =
    let e = c.args.encoded.now in
    let ok = c.in_ok-new_vars.ensures.ok in
    let vars = is_vars c.args.f.now c.new_vars.new.self c.vars-vars.result ok c.requires.none ∙ c.vars-vars.ensures.value
    ∙ ap (λ (f : Cnf). f.vars) c.formula.ensures in
    let are : AreNodes e c.deref.result.now (length e.graph.nodes) = subst (λ (ns : List NodeVars). AreNodes e ns (length e.graph.nodes))
    (sym c.deref.ensures.value) c.in_ok-nodes.ensures.each in
    counted_are e c.new_vars.new.self c.add_moved_count.new.f c.deref.result.now c.args.former.now c.requires.whole c.requires.bounds vars
    (ap (λ (f : Cnf). f.clauses) ok ∙ c.requires.empty) are c.requires.same (c.in-Ok.ensures.adds).added
