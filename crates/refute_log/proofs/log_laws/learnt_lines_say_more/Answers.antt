use Rattle.refute_log.proofs.LogLemmas.{learnt_includes_none}
use Rattle.refute_log.proofs.log_laws.learnt_lines_say_more.Goals as goal

pub returns : goal.returns
returns c = learnt_includes_none
