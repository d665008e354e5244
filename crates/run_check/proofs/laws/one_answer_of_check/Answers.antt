use Rattle.run_check.proofs.CheckedLemmas.{one_check_status, one_check_text}
use Rattle.run_check.proofs.laws.one_answer_of_check.Goals as goal

pub returns-clause-status : goal.returns-clause-status
returns-clause-status c = one_check_status

pub returns-clause-text : goal.returns-clause-text
returns-clause-text c = one_check_text
