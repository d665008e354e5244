use Rattle.schematic_main.proofs.DrawnRuns.{drawn_run}
use Rattle.schematic_main.proofs.laws.drawn_runs_end_with_0.Goals as goal

pub returns : goal.returns
returns c = λ g o grid status v. drawn_run v.input grid v.order v.budget v.svg v.log v.met g o status v.text v.told v.station v.run.read v.run.owes
