use Rattle.refute_log.proofs.LogLemmas.{due_none, due_more, due_front, due_last}
use Rattle.refute_log.proofs.log_laws.learnt_lines_are_due_line_by_line.Goals as goal

pub returns : goal.returns
returns c = record { none = due_none; more = due_more; front = due_front; last = due_last }
