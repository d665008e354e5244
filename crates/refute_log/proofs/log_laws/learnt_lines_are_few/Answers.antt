use Rattle.refute_log.proofs.FewLemmas.{learnt_few}
use Rattle.refute_log.proofs.log_laws.learnt_lines_are_few.Goals as goal

pub returns : goal.returns
returns c = learnt_few
