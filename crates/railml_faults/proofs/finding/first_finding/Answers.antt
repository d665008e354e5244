use Rattle.std.proofs.Common.{◌+◌}
use Rattle.railml_faults.proofs.FaultLemmas.{none_yet, none_at_next, number_in_order}
use Rattle.railml_faults.proofs.finding.first_finding.Goals as goal

pub loop-what-init : goal.loop-what-init
loop-what-init c = none_yet c.args.rows.now

pub loop-what-preserved : goal.loop-what-preserved
loop-what-preserved c =
    let i = c.loop-what.what-index in
    none_at_next c.args.rows.now _ c.first_with.result c.first_with.ensures c.in_default.is (i + 1) (number_in_order i _ c.loop-what-test.true)
    c.loop-what.invariant
