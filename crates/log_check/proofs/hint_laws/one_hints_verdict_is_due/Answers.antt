use Rattle.log_check.proofs.HintOnceLemmas.{judged_once}
use Rattle.log_check.proofs.hint_laws.one_hints_verdict_is_due.Goals as goal

pub returns : goal.returns
returns c = judged_once
