use Rattle.railml_read.proofs.AnswerLemmas.{read_signals_exactly}
use Rattle.railml_read.proofs.document.read_signals.Goals as goal

pub returns-clause-answers : goal.returns-clause-answers
returns-clause-answers c = let said = c.signals_or_fault.ensures in read_signals_exactly c.args.bytes.now c.signals_or_fault.result said.signals said.sound
    said.fault
