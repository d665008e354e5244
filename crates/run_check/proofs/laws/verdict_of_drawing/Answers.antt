use Rattle.run_check.proofs.VerdictLemmas.{lawful_is_0, lawful_has_line, broken_is_8}
use Rattle.run_check.proofs.laws.verdict_of_drawing.Goals as goal

pub returns-clause-lawful : goal.returns-clause-lawful
returns-clause-lawful c = lawful_is_0

pub returns-clause-line : goal.returns-clause-line
returns-clause-line c = lawful_has_line

pub returns-clause-broken : goal.returns-clause-broken
returns-clause-broken c = broken_is_8
