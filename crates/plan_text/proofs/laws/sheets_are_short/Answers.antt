use Rattle.plan_text.proofs.ShortSheet.{short_sheet}
use Rattle.plan_text.proofs.laws.sheets_are_short.Goals as goal

pub returns : goal.returns
returns c = short_sheet
