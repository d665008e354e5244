use Rattle.schematic_main.proofs.CertifiedRuns.{told_passes, own_run}
use Rattle.schematic_main.proofs.laws.own_logs_are_certified.Goals as goal

pub returns-clause-passes : goal.returns-clause-passes
returns-clause-passes c = told_passes

pub returns-clause-checked : goal.returns-clause-checked
returns-clause-checked c = λ input sheet log met next status text line drawn files run.
    own_run input sheet log drawn.grid drawn.order drawn.budget drawn.svg met next drawn.status status text line drawn.owes drawn.answered files run.read
    run.owes
