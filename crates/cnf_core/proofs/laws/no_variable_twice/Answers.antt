use Rattle.cnf_core.proofs.QuantifierLemmas.{pairs_from_distinct, distinct_from_pairs}
use Rattle.cnf_core.proofs.laws.no_variable_twice.Goals as goal

pub returns : goal.returns
returns c = λ c'. (pairs_from_distinct c', distinct_from_pairs c')
