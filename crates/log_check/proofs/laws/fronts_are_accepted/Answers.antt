use Rattle.log_check.proofs.CauseLemmas.{accepted_front}
use Rattle.log_check.proofs.laws.fronts_are_accepted.Goals as goal

pub returns : goal.returns
returns c = accepted_front
