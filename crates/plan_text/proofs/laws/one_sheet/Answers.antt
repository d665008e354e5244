use Rattle.plan_text.proofs.SheetLaws.{one_sheet}
use Rattle.plan_text.proofs.laws.one_sheet.Goals as goal

pub returns : goal.returns
returns c = one_sheet
