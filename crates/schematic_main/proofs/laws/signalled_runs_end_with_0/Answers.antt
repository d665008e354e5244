use Rattle.schematic_main.proofs.SignalledRuns.{signalled_run}
use Rattle.schematic_main.proofs.laws.signalled_runs_end_with_0.Goals as goal

pub returns : goal.returns
returns c = λ g o places grid status v.
    signalled_run v.input grid v.order v.budget v.log v.met g o v.signals places status v.text v.told v.file v.run.read v.run.owes
