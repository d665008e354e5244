use Rattle.refute_log.proofs.LawLemmas.{read_exactly}
use Rattle.refute_log.proofs.reading.read_line.Goals as goal

pub returns : goal.returns
returns c = read_exactly c.args.text.now c.args.number c.read_text.result c.read_text.ensures.line c.read_text.ensures.fault
