use Rattle.std.proofs.Common.{◌≡◌, ◌-◌, List, map, drop, sym, subst}
use Rattle.plan_core.specs.Grid.{GridSize, IsGrid}
use Rattle.plan_core.specs.Graph.{Graph}
use Rattle.port_graph.specs.StationGraph.{IsStationGraph}
use Rattle.cnf_core.specs.Formula.{Cnf}
use Rattle.refute_log.specs.declared.line.LogLine.TheVariants.{Formula}
use Rattle.cdcl_core.specs.Kept.{with_more_vars}
use Rattle.cdcl_core.specs.Belongs.{Belongs}
use Rattle.drawing_cnf.specs.Bounded.{Bound}
use Rattle.drawing_cnf.specs.Encoding.{encoded_vars}
use Rattle.drawing_cnf.specs.Lists.{lines_of_bound}
use Rattle.drawing_cnf.specs.Layout.{layout_of}
use Rattle.lex_minimise.specs.Known.{KnowsLines, IsReady}
use Rattle.refute_log.specs.Steps.{GoesOn, Leaves}
use Rattle.lex_minimise.specs.Told.{HasTaken}
use Rattle.lex_minimise.proofs.GrownLemmas.{grown_small, ready_grown, grown_goes}
use Rattle.lex_minimise.proofs.LeftLemmas.{criterion_left, criterion_begun, bounds_all}
use Rattle.lex_minimise.proofs.building.tell_criterion.Goals as goal
use Rattle.outside_io.proofs.Results.{on_err_anyway}

pub tell_bounds-requires : goal.tell_bounds-requires
tell_bounds-requires g c =
    let k = c.args.known.now in
    record {
      small = grown_small k.encoded k.told.items k.budget k.room c.args.bounds c.args.from c.args.solver.now c.requires.grown
          (subst (λ (x : Graph). IsStationGraph x) c.graph.ensures c.nodes.ensures.station)
          (subst (λ (x : GridSize). IsGrid x) c.grid.ensures c.width.ensures.is_grid);
    }

pub returns-clause-ready : goal.returns-clause-ready
returns-clause-ready g c =
    let k = c.args.known.now in
    let old = c.args.solver.now in
    let new = c.add_clauses.new.solver in
    subst (λ (bs : List Bound). IsReady k.encoded bs k.budget k.room new) (sym c.in_ok-push.ensures.items)
    (ready_grown k.encoded k.told.items k.budget k.room c.args.bounds c.args.from old new c.requires.grown
    (subst (λ (f : Cnf). HasTaken (with_more_vars old (f.vars - old.vars)) new (drop c.args.from f.clauses)) c.formula.ensures
    c.in_ok-add_clauses.ensures.taken))

pub returns-clause-lines : goal.returns-clause-lines
returns-clause-lines g c =
    let k = c.args.known.now in
    let l = g.L.LogSink in
    let old = c.args.solver.now in
    let new = c.add_clauses.new.solver in
    subst (λ (bs : List Bound). GoesOn (KnowsLines (layout_of k.encoded) k.told.items k.budget k.room old)
    (KnowsLines (layout_of k.encoded) bs k.budget k.room new)
    (l.tells c.args.log.now) (l.tells c.tell_bounds.new.log) (l.learnt c.args.log.now) (l.learnt c.tell_bounds.new.log)
    (λ lines more. more ≡ lines_of_bound k.encoded.graph (encoded_vars k.encoded) k.encoded.grid c.args.bounds)) (sym c.in_ok-push.ensures.items)
    (grown_goes k.encoded k.told.items k.budget k.room c.args.bounds c.args.from old new (l.tells c.args.log.now) (l.tells c.add_clauses.new.log)
    (l.tells c.tell_bounds.new.log)
    (l.learnt c.args.log.now) (l.learnt c.add_clauses.new.log) (l.learnt c.tell_bounds.new.log) c.requires.grown
    (grown_small k.encoded k.told.items k.budget k.room c.args.bounds c.args.from old c.requires.grown
    (subst (λ (x : Graph). IsStationGraph x) c.graph.ensures c.nodes.ensures.station)
    (subst (λ (x : GridSize). IsGrid x) c.grid.ensures c.width.ensures.is_grid))
    (subst (λ (f : Cnf). HasTaken (with_more_vars old (f.vars - old.vars)) new (drop c.args.from f.clauses)) c.formula.ensures
    c.in_ok-add_clauses.ensures.taken) c.requires.fits
    (subst (λ (f : Cnf). GoesOn (λ ls. Belongs ls old) (λ ls. Belongs ls new) (l.tells c.args.log.now) (l.tells c.add_clauses.new.log) (l.learnt c.args.log.now)
    (l.learnt c.add_clauses.new.log)
    (λ lines more. more ≡ map Formula (drop c.args.from f.clauses))) c.formula.ensures c.in_ok-add_clauses.ensures.lines)
    c.in_ok-tell_bounds.ensures.lines c.in_ok-tell_bounds.ensures.learnt)

pub returns-in_err-add_clauses-clause-leaves : goal.returns-in_err-add_clauses-clause-leaves
returns-in_err-add_clauses-clause-leaves g c =
    let k = g.L.LogSink in
    let x = c.args.known.now in
    let old = c.args.solver.now in
    on_err_anyway _ _ (criterion_begun x.encoded x.told.items x.budget x.room c.args.bounds c.args.from old (k.tells c.args.log.now)
    (k.tells c.add_clauses.new.log) c.requires.grown
    (subst (λ (f : Cnf). Leaves 0 (map Formula (drop c.args.from f.clauses)) (λ ls. Belongs ls old) (k.tells c.args.log.now) (k.tells c.add_clauses.new.log))
    c.formula.ensures c.in_err-add_clauses.ensures.leaves))

pub returns-in_err-tell_bounds-clause-leaves : goal.returns-in_err-tell_bounds-clause-leaves
returns-in_err-tell_bounds-clause-leaves g c =
    let k = g.L.LogSink in
    let x = c.args.known.now in
    let old = c.args.solver.now in
    let new = c.add_clauses.new.solver in
    on_err_anyway _ _ (criterion_left x.encoded x.told.items x.budget x.room c.args.bounds c.args.from old new (k.tells c.args.log.now)
    (k.tells c.add_clauses.new.log) (k.tells c.tell_bounds.new.log) (k.learnt c.args.log.now) (k.learnt c.add_clauses.new.log) c.requires.grown
    (subst (λ (f : Cnf). GoesOn (λ ls. Belongs ls old) (λ ls. Belongs ls new) (k.tells c.args.log.now) (k.tells c.add_clauses.new.log) (k.learnt c.args.log.now)
    (k.learnt c.add_clauses.new.log)
    (λ lines more. more ≡ map Formula (drop c.args.from f.clauses))) c.formula.ensures c.in_ok-add_clauses.ensures.lines) c.in_err-tell_bounds.ensures.leaves)

pub returns-in_err-push-clause-leaves : goal.returns-in_err-push-clause-leaves
returns-in_err-push-clause-leaves g c =
    let k = g.L.LogSink in
    let x = c.args.known.now in
    let old = c.args.solver.now in
    let new = c.add_clauses.new.solver in
    on_err_anyway _ _ (criterion_left x.encoded x.told.items x.budget x.room c.args.bounds c.args.from old new (k.tells c.args.log.now)
    (k.tells c.add_clauses.new.log) (k.tells c.tell_bounds.new.log) (k.learnt c.args.log.now) (k.learnt c.add_clauses.new.log) c.requires.grown
    (subst (λ (f : Cnf). GoesOn (λ ls. Belongs ls old) (λ ls. Belongs ls new) (k.tells c.args.log.now) (k.tells c.add_clauses.new.log) (k.learnt c.args.log.now)
    (k.learnt c.add_clauses.new.log)
    (λ lines more. more ≡ map Formula (drop c.args.from f.clauses))) c.formula.ensures c.in_ok-add_clauses.ensures.lines)
    (bounds_all (k.tells c.add_clauses.new.log) (k.tells c.tell_bounds.new.log) c.args.bounds.criterion c.args.bounds.last c.args.bounds.cap
    c.in_ok-tell_bounds.ensures.lines (g.met.L.LogSink.one_reading c.tell_bounds.new.log)))
