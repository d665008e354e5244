use Rattle.refute_check.proofs.JudgeLemmas.{lacking_under}
use Rattle.refute_check.proofs.laws.only_greatest_values_lack.Goals as goal

pub returns : goal.returns
returns c = lacking_under
