use Rattle.cnf_core.proofs.QuantifierLemmas.{each_from_satisfies, satisfies_from_each}
use Rattle.cnf_core.proofs.laws.each_clause_is_satisfied.Goals as goal

pub returns : goal.returns
returns c = λ v cs. (each_from_satisfies v cs, satisfies_from_each v cs)
