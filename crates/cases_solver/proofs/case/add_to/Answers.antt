use Rattle.std.proofs.Common.{get_or}
use Rattle.std.proofs.lemmas.List.Elements.{Contains-get_or}
use Rattle.cdcl_core.proofs.ViewLemmas.{named_given}
use Rattle.cases_solver.proofs.case.add_to.Goals as goal

pub returns-in-Ok-clause-named : goal.returns-in-Ok-clause-named
returns-in-Ok-clause-named c = λ k d lt.
    named_given c.args.solver.now c.add_clause.new.self c.args.lits.now (get_or c.args.lits.now k d) c.in-Ok.ensures.more
    (Contains-get_or c.args.lits.now k d lt)
