use Rattle.schematic_main.proofs.RedrawnRuns.{redrawn_run}
use Rattle.schematic_main.proofs.laws.redrawn_runs_end_with_0.Goals as goal

pub returns : goal.returns
returns c = λ g o grid status v. redrawn_run v.input v.former v.sheet grid v.budget v.log v.met g o v.points status v.text v.told v.have v.run.read v.run.owes
