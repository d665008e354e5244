use Rattle.plan_text.proofs.SheetLaws.{one_kind, one_line}
use Rattle.plan_text.proofs.laws.one_sheet_fault.Goals as goal

pub returns-clause-kind : goal.returns-clause-kind
returns-clause-kind c = one_kind

pub returns-clause-line : goal.returns-clause-line
returns-clause-line c = one_line
