use Rattle.lawful_check.proofs.LeastLemmas.{one_least}
use Rattle.lawful_check.proofs.laws.one_least_break.Goals as goal

pub returns : goal.returns
returns c = one_least
