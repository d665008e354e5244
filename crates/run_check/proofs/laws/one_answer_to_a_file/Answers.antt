use Rattle.run_check.proofs.VerdictLemmas.{one_file_status, one_file_text}
use Rattle.run_check.proofs.laws.one_answer_to_a_file.Goals as goal

pub returns-clause-status : goal.returns-clause-status
returns-clause-status c = one_file_status

pub returns-clause-text : goal.returns-clause-text
returns-clause-text c = one_file_text
