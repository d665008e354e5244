use Rattle.log_check.proofs.HintVerdictLemmas.{certified_is_so}
use Rattle.log_check.proofs.hint_laws.what_hinted_logs_certify_is_so.Goals as goal

pub returns : goal.returns
returns c = certified_is_so
