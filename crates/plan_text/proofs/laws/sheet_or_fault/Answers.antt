use Rattle.plan_text.proofs.SheetLaws.{sheet_or_fault}
use Rattle.plan_text.proofs.laws.sheet_or_fault.Goals as goal

pub returns : goal.returns
returns c = sheet_or_fault
