use Rattle.cdcl_core.proofs.ViewLemmas.{idle_now, named_view, solved_given, still_view, refuted_view, searched_view}
use Rattle.cdcl_core.proofs.StepLemmas.{not_err}
use Rattle.cdcl_core.proofs.solver.Solver.solve.Goals as goal

pub solve-requires-clause-idle : goal.solve-requires-clause-idle
solve-requires-clause-idle g c = idle_now c.self.inside.search c.self.inside.model c.self.inside.refuted.items c.self.inside.failed c.args.self.now
    c.self.invariant c.self.view_is c.requires.working

pub solve-requires-clause-named : goal.solve-requires-clause-named
solve-requires-clause-named g c = named_view c.self.inside.search c.self.inside.model c.self.inside.refuted.items c.self.inside.failed c.args.self.now
    c.args.assume.now c.self.view_is c.requires.named

pub returns-in-Ok-clause-given : goal.returns-in-Ok-clause-given
returns-in-Ok-clause-given g c = solved_given c.self.inside.search c.solve.new.self c.self.inside.model c.self.inside.refuted.items c.self.inside.failed
    c.args.self.now c.self.view_is c.in-Ok.ensures.given

pub returns-in-Err-clause-derives : goal.returns-in-Err-clause-derives
returns-in-Err-clause-derives g c = still_view (g.L.LogSink.tells c.args.log.now) (g.L.LogSink.tells c.solve.new.log) c.self.inside.search c.self.inside.model
    c.self.inside.refuted.items c.self.inside.failed c.args.self.now c.self.view_is
    (λ lines b told more m. (c.in-Err.ensures.leaves lines told more m).derives b)

pub returns-in-Err-clause-gives : goal.returns-in-Err-clause-gives
returns-in-Err-clause-gives g c = λ lines told more m. (c.in-Err.ensures.leaves lines told more m).gives

pub returns-in-Ok-clause-refuted : goal.returns-in-Ok-clause-refuted
returns-in-Ok-clause-refuted g c = refuted_view c.self.inside.search c.self.inside.model c.self.inside.refuted.items c.in-Ok.refuted.items c.self.inside.failed
    c.args.self.now c.args.assume.now c.in-Ok.answer c.self.view_is c.in-Ok.ensures.refuted

pub returns-in-Ok-clause-cause : goal.returns-in-Ok-clause-cause
returns-in-Ok-clause-cause g c = λ e. absurd (not_err _ _ e)

pub returns-in-Ok-clause-searched : goal.returns-in-Ok-clause-searched
returns-in-Ok-clause-searched g c = searched_view (g.L.LogSink.tells c.args.log.now) (g.L.LogSink.tells c.solve.new.log) c.args.assume.now c.self.inside.search
    c.solve.new.self c.self.inside.model _ c.self.inside.refuted.items c.in-Ok.refuted.items c.self.inside.failed c.args.self.now c.in-Ok.answer c.args.budget
    (g.L.LogSink.learnt c.args.log.now) (g.L.LogSink.learnt c.solve.new.log) c.self.view_is c.requires.working c.in-Ok.ensures.searched
