use Rattle.cnf_core.proofs.PropagationLemmas.{rup_same, new_same}
use Rattle.cnf_core.proofs.unit_laws.only_sets_of_literals_count.Goals as goal

pub returns-clause-rup : goal.returns-clause-rup
returns-clause-rup c = rup_same

pub returns-clause-new : goal.returns-clause-new
returns-clause-new c = new_same
