use Rattle.railml_read.proofs.AnswerLemmas.{read_exactly}
use Rattle.railml_read.proofs.document.read.Goals as goal

pub returns-clause-answers : goal.returns-clause-answers
returns-clause-answers c = let said = c.rows_or_fault.ensures in read_exactly c.args.bytes.now c.rows_or_fault.result said.rows said.sound said.fault
