use Rattle.cnf_core.proofs.PropagationLemmas.{closure_start, closure_unit, closure_least}
use Rattle.cnf_core.proofs.unit_laws.closure_is_the_least_closed_set.Goals as goal

pub returns-clause-start : goal.returns-clause-start
returns-clause-start c = closure_start

pub returns-clause-closed : goal.returns-clause-closed
returns-clause-closed c = closure_unit

pub returns-clause-least : goal.returns-clause-least
returns-clause-least c = closure_least
