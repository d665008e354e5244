use Rattle.schematic_main.proofs.CertifiedRuns.{certified_run, only_certified_run}
use Rattle.schematic_main.proofs.laws.certified_runs_end_with_0.Goals as goal

pub returns-clause-due : goal.returns-clause-due
returns-clause-due c = λ g o said status line v. certified_run v.input v.sheet v.log v.met g o said status line v.told v.files v.run.read v.run.owes

pub returns-clause-only : goal.returns-clause-only
returns-clause-only c = only_certified_run
