use Rattle.refute_log.proofs.LogLemmas.{derived_hold}
use Rattle.refute_log.proofs.log_laws.what_a_log_derives_is_true.Goals as goal

pub returns : goal.returns
returns c = derived_hold
