use Rattle.schematic_main.proofs.HintedRuns.{hinted_run, only_hinted_run}
use Rattle.schematic_main.proofs.laws.hinted_runs_end_with_0.Goals as goal

pub returns-clause-due : goal.returns-clause-due
returns-clause-due c = λ g o said status line v. hinted_run v.input v.sheet v.hints v.met g o said status line v.told v.files v.run.read v.run.owes

pub returns-clause-only : goal.returns-clause-only
returns-clause-only c = only_hinted_run
