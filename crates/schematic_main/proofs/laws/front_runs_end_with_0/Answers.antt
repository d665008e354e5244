use Rattle.schematic_main.proofs.FrontRuns.{front_run}
use Rattle.schematic_main.proofs.laws.front_runs_end_with_0.Goals as goal

pub returns : goal.returns
returns c = λ g o grid status v. front_run v.input v.first v.second grid v.budget v.met g o status v.text v.told v.station v.run.read v.run.owes
