use Rattle.refute_log.proofs.TwiceLemmas.{distinct_variables}
use Rattle.refute_log.proofs.literals.are_distinct.Goals as goal

pub returns : goal.returns
returns c = distinct_variables c.args.literals.now c.in_ok-variables.variables.items c.none_twice.result c.in_ok-variables.ensures c.none_twice.ensures
