use Rattle.schematic_main.proofs.HintedRuns.{own_hints}
use Rattle.schematic_main.proofs.laws.own_hints_are_certified.Goals as goal

pub returns : goal.returns
returns c = λ input sheet log hints met next status line trimmed files run. own_hints input sheet log hints met next status trimmed.line line trimmed.owes files
    run.read run.owes
