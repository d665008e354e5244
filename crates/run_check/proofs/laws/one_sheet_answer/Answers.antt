use Rattle.run_check.proofs.VerdictLemmas.{one_status, one_text}
use Rattle.run_check.proofs.laws.one_sheet_answer.Goals as goal

pub returns-clause-status : goal.returns-clause-status
returns-clause-status c = one_status

pub returns-clause-text : goal.returns-clause-text
returns-clause-text c = one_text
