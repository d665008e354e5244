use Rattle.run_check.proofs.VerdictLemmas.{lawful_is_0, broken_is_8}
use Rattle.schematic_main.proofs.VerifiedRuns.{verified_run}
use Rattle.schematic_main.proofs.laws.lawful_runs_end_with_0.Goals as goal

pub returns-clause-lawful : goal.returns-clause-lawful
returns-clause-lawful c = λ g o grid d status v.
    lawful_is_0 g o v.files.text grid d status v.line v.files.has (verified_run v.input v.sheet v.met g o grid d status v.line v.told v.files v.run.read
    v.run.owes)

pub returns-clause-broken : goal.returns-clause-broken
returns-clause-broken c = λ g o grid d status v.
    broken_is_8 g o v.files.text grid d status v.line v.files.has (verified_run v.input v.sheet v.met g o grid d status v.line v.told v.files v.run.read
    v.run.owes)
