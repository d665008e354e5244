use Rattle.railml_text.proofs.AnswerLemmas.{scanned}
use Rattle.railml_text.proofs.scanning.scan.Goals as goal

pub returns-clause-answers : goal.returns-clause-answers
returns-clause-answers c = let said = c.item_from.ensures in scanned c.args.first c.args.bytes.now c.args.at c.item_from.result said.item said.within said.fault
