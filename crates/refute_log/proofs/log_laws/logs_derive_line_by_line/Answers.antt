use Rattle.refute_log.proofs.LogLemmas.{derives_none, derives_more, derives_front, derives_last}
use Rattle.refute_log.proofs.log_laws.logs_derive_line_by_line.Goals as goal

pub returns : goal.returns
returns c = record { none = derives_none; more = derives_more; front = derives_front; last = derives_last }
