use Rattle.hint_log.proofs.OnceLemmas.{read_exactly}
use Rattle.hint_log.proofs.reading.read_hint.Goals as goal

pub returns : goal.returns
returns c = read_exactly c.args.text.now c.args.number c.read_text.result c.read_text.ensures.line c.read_text.ensures.fault
