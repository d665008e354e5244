use Rattle.refute_log.proofs.LogLemmas.{facts_more}
use Rattle.refute_log.proofs.log_laws.facts_come_line_by_line.Goals as goal

pub returns : goal.returns
returns c = facts_more
