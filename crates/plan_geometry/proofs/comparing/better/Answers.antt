use Rattle.std.proofs.Common.{arith, sym, ◌∙◌}
use Rattle.plan_geometry.proofs.ComparingLemmas.{equal_values, different_values}
use Rattle.plan_geometry.proofs.comparing.better.Goals as goal

pub returns-then-first-second : goal.returns-then-first-second
returns-then-first-second c =
    different_values c.args.o.now c.loop-i.i c.get-c.result c.args.a.now c.args.b.now c.of-first.result c.of-second.result (omega arith) c.get-c.ensures
    c.of-first.ensures c.of-second.ensures c.if-first-second.true c.loop-i.invariant

pub loop-i-preserved : goal.loop-i-preserved
loop-i-preserved c =
    equal_values c.args.o.now c.loop-i.i c.get-c.result c.args.a.now c.args.b.now (omega arith) c.get-c.ensures
    (sym c.of-first.ensures ∙ c.if-first-second.false ∙ c.of-second.ensures) c.loop-i.invariant
