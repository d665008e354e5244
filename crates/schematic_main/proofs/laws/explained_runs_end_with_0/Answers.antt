use Rattle.schematic_main.proofs.ExplainedRuns.{explained_run}
use Rattle.schematic_main.proofs.laws.explained_runs_end_with_0.Goals as goal

pub returns : goal.returns
returns c = λ g o grid status text v. explained_run v.input grid v.budget v.met g o status text v.told v.station v.run.read v.run.owes
