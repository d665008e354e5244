use Rattle.std.proofs.Common.{◌≡◌, map, drop, []}
use Rattle.refute_log.specs.declared.line.LogLine.TheVariants.{Formula}
use Rattle.cdcl_core.specs.Belongs.{Belongs}
use Rattle.lex_minimise.proofs.TellLemmas.{ok_from, goes_from}
use Rattle.refute_log.proofs.StepLemmas.{on_err_weaker, leaves_same, leaves_more, leaves_known}
use Rattle.lex_minimise.proofs.building.add_clauses.Goals as goal

pub returns-in-Ok-clause-lines : goal.returns-in-Ok-clause-lines
returns-in-Ok-clause-lines g c =
    let k = g.L.LogSink in
    ok_from c.tell_clauses.result _ _ c.tell_clauses.ensures.lines
    (goes_from (λ ls. Belongs ls c.args.solver.now) (λ ls. Belongs ls c.add_vars.new.self) (λ ls. Belongs ls c.tell_clauses.new.solver) (k.tells c.args.log.now)
    (k.tells c.tell_clauses.new.log)
    (k.learnt c.args.log.now) (k.learnt c.tell_clauses.new.log) (λ lines more. more ≡ map Formula (drop c.args.from c.args.formula.now.clauses))
    c.in-Ok.ensures.belongs)

pub returns-in-Err-Memory-clause-leaves : goal.returns-in-Err-Memory-clause-leaves
returns-in-Err-Memory-clause-leaves g c =
    let k = g.L.LogSink in
    let xs = map Formula (drop c.args.from c.args.formula.now.clauses) in
    leaves_more [] xs (λ ls. Belongs ls c.args.solver.now) (k.tells c.args.log.now) (k.tells c.args.log.now)
    (leaves_same (λ ls. Belongs ls c.args.solver.now) (k.tells c.args.log.now) (λ lines b. b.derives) (g.met.L.LogSink.one_reading c.args.log.now))

pub returns-in-Ok-clause-leaves : goal.returns-in-Ok-clause-leaves
returns-in-Ok-clause-leaves g c =
    let k = g.L.LogSink in
    on_err_weaker c.tell_clauses.result _ _ (leaves_known (map Formula (drop c.args.from c.args.formula.now.clauses)) (λ ls. Belongs ls c.args.solver.now)
    (λ ls. Belongs ls c.add_vars.new.self) (k.tells c.args.log.now) (k.tells c.tell_clauses.new.log) c.in-Ok.ensures.belongs) c.tell_clauses.ensures.leaves
