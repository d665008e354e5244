use Rattle.std.proofs.Common.{◌∷◌, [], List, subst}
use Rattle.cnf_core.specs.Lit.{Literal}
use Rattle.lex_minimise.specs.Told.{HasTaken}
use Rattle.lex_minimise.proofs.TellLemmas.{taken_one}
use Rattle.lex_minimise.proofs.LeftLemmas.{clause_left}
use Rattle.cdcl_core.specs.Belongs.{Belongs}
use Rattle.cnf_core.specs.Formula.{clause_at}
use Rattle.lex_minimise.proofs.telling.tell_clause.Goals as goal

pub returns-in-Ok-clause-taken : goal.returns-in-Ok-clause-taken
returns-in-Ok-clause-taken g c =
    subst (λ (l : List Literal). HasTaken c.args.solver.now c.add_clause.new.self (l ∷ [])) c.lits_of.ensures.value
    (taken_one c.args.solver.now c.add_clause.new.self c.lits_of.result.now c.in-Ok.ensures.more c.in-Ok.ensures.given)

pub returns-in-Err-Log-clause-leaves : goal.returns-in-Err-Log-clause-leaves
returns-in-Err-Log-clause-leaves g c =
    let k = g.L.LogSink in
    clause_left (λ ls. Belongs ls c.args.solver.now) (k.tells c.args.log.now) (k.tells c.add_clause.new.log) (k.learnt c.args.log.now)
    (k.learnt c.add_clause.new.log) (clause_at c.args.formula.now c.args.no) c.lits_of.result.now c.lits_of.ensures.value
    c.in-Err-Log.ensures.derives c.in-Err-Log.ensures.gives (g.met.L.LogSink.counted c.args.log.now) (g.met.L.LogSink.counted c.add_clause.new.log)
    c.in-Err-Log.ensures.learnt

pub returns-in-Err-Memory-clause-leaves : goal.returns-in-Err-Memory-clause-leaves
returns-in-Err-Memory-clause-leaves g c =
    let k = g.L.LogSink in
    clause_left (λ ls. Belongs ls c.args.solver.now) (k.tells c.args.log.now) (k.tells c.add_clause.new.log) (k.learnt c.args.log.now)
    (k.learnt c.add_clause.new.log) (clause_at c.args.formula.now c.args.no) c.lits_of.result.now c.lits_of.ensures.value
    c.in-Err-Memory.ensures.derives c.in-Err-Memory.ensures.gives (g.met.L.LogSink.counted c.args.log.now) (g.met.L.LogSink.counted c.add_clause.new.log)
    c.in-Err-Memory.ensures.learnt
