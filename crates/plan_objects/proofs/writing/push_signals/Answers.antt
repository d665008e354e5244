use Rattle.plan_objects.specs.SignalsText.{signal_line}
use Rattle.outside_io.proofs.LineLemmas.{line_more}
use Rattle.plan_objects.proofs.writing.push_signals.Goals as goal

pub loop-i-preserved : goal.loop-i-preserved
loop-i-preserved c = line_more (signal_line c.args.signals.now c.args.placed.now c.args.d.now) c.args.into.now.items c.loop-i.into.items
    c.push_signal.new.into.items c.loop-i.i c.loop-i.invariant c.in_ok-push_signal.ensures.ok
