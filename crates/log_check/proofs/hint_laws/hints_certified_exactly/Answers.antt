use Rattle.log_check.proofs.HintOnceLemmas.{certified_due, certified_only}
use Rattle.log_check.proofs.hint_laws.hints_certified_exactly.Goals as goal

pub returns : goal.returns
returns c = record { due = certified_due; only = certified_only }
