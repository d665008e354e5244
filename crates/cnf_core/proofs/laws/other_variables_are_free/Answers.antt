use Rattle.cnf_core.proofs.ClauseLemmas.{satisfies_all_same}
use Rattle.cnf_core.proofs.laws.other_variables_are_free.Goals as goal

pub returns : goal.returns
returns c = satisfies_all_same
