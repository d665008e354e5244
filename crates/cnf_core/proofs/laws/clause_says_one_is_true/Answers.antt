use Rattle.cnf_core.proofs.GatherLemmas.{clause_says, clause_holds}
use Rattle.cnf_core.proofs.laws.clause_says_one_is_true.Goals as goal

pub returns : goal.returns
returns c = λ v unless ts. (clause_says v unless ts, clause_holds v unless ts)
