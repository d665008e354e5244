use Rattle.cnf_core.proofs.PropagationLemmas.{closure_again, falsifies_again}
use Rattle.cnf_core.proofs.unit_laws.closure_adds_nothing_again.Goals as goal

pub returns-clause-closure : goal.returns-clause-closure
returns-clause-closure c = closure_again

pub returns-clause-falsifies : goal.returns-clause-falsifies
returns-clause-falsifies c = falsifies_again
