use Rattle.cnf_core.proofs.PropagationLemmas.{closure_more, falsifies_more, rup_more, among_left}
use Rattle.cnf_core.proofs.unit_laws.more_clauses_more_closure.Goals as goal

pub returns-clause-closure : goal.returns-clause-closure
returns-clause-closure c = closure_more

pub returns-clause-rup : goal.returns-clause-rup
returns-clause-rup c = rup_more

pub returns-clause-behind : goal.returns-clause-behind
returns-clause-behind c = among_left

pub returns-clause-falsifies : goal.returns-clause-falsifies
returns-clause-falsifies c = falsifies_more
