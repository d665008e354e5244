use Rattle.cnf_core.proofs.TrailLemmas.{rising_distinct, rising_append, rising_there}
use Rattle.cnf_core.proofs.laws.rising_variables_are_distinct.Goals as goal

pub returns-clause-distinct : goal.returns-clause-distinct
returns-clause-distinct c = rising_distinct

pub returns-clause-blocks : goal.returns-clause-blocks
returns-clause-blocks c = rising_append

pub returns-clause-there : goal.returns-clause-there
returns-clause-there c = rising_there
