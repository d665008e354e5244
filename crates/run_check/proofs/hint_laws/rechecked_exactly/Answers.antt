use Rattle.run_check.proofs.RecheckedLemmas.{recheck_due, recheck_only}
use Rattle.run_check.proofs.hint_laws.rechecked_exactly.Goals as goal

pub returns-clause-due : goal.returns-clause-due
returns-clause-due c = recheck_due

pub returns-clause-only : goal.returns-clause-only
returns-clause-only c = recheck_only
