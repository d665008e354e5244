use Rattle.schematic_main.proofs.TriedRuns.{tried_run}
use Rattle.schematic_main.proofs.laws.tried_runs_end_with_0.Goals as goal

pub returns : goal.returns
returns c = λ g o status run. tried_run run.number run.met g o status run.text run.station run.run.owes
