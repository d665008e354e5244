use Rattle.run_check.proofs.CheckedLemmas.{certified_is_due, only_certified}
use Rattle.run_check.proofs.laws.certified_exactly.Goals as goal

pub returns-clause-due : goal.returns-clause-due
returns-clause-due c = certified_is_due

pub returns-clause-only : goal.returns-clause-only
returns-clause-only c = only_certified
