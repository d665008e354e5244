use Rattle.log_check.proofs.HintLineLemmas.{next_line}
use Rattle.log_check.proofs.hint_reading.next_hint.Goals as goal

pub returns-in-Ok : goal.returns-in-Ok
returns-in-Ok c = next_line c.args.rest.now c.in-Some.text.now c.in-Some.more.now c.in-Ok.line c.in-Some.ensures c.in-Ok.ensures.value
