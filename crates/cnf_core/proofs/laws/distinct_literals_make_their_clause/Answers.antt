use Rattle.cnf_core.proofs.GatherLemmas.{clause_of_literals}
use Rattle.cnf_core.proofs.laws.distinct_literals_make_their_clause.Goals as goal

pub returns : goal.returns
returns c = clause_of_literals
