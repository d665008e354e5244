use Rattle.plan_objects.proofs.FileLemmas.{one_file}
use Rattle.run_input.proofs.signals.signals_in.Goals as goal

pub placed_on-requires-clause-file : goal.placed_on-requires-clause-file
placed_on-requires-clause-file c =
    one_file c.args.bytes.now c.in_ok-rows.rows c.in_ok-topology.topology c.in_ok-signals.signals c.in_ok-rows.ensures.rows.gives c.in_ok-rows.ensures.formed
    c.in_ok-topology.ensures.resolves c.in_ok-topology.ensures.resolved
    c.in_ok-signals.ensures.signals c.in_ok-signals.ensures.rising
