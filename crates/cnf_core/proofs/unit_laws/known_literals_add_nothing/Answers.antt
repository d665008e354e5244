use Rattle.cnf_core.proofs.ForcedLemmas.{closure_without_known, falsifies_without_known, rup_without_known}
use Rattle.cnf_core.proofs.unit_laws.known_literals_add_nothing.Goals as goal

pub returns-clause-closure : goal.returns-clause-closure
returns-clause-closure c = closure_without_known

pub returns-clause-falsifies : goal.returns-clause-falsifies
returns-clause-falsifies c = falsifies_without_known

pub returns-clause-rup : goal.returns-clause-rup
returns-clause-rup c = rup_without_known
