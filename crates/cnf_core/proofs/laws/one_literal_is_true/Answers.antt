use Rattle.cnf_core.proofs.QuantifierLemmas.{some_from_satisfies, satisfies_from_some}
use Rattle.cnf_core.proofs.laws.one_literal_is_true.Goals as goal

pub returns : goal.returns
returns c = λ v c'. (some_from_satisfies v c', satisfies_from_some v c')
