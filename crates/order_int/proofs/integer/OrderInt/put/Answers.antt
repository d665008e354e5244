use Rattle.std.proofs.Common.{◌-◌, arith, subst}
use Rattle.cnf_core.specs.Assignment.{SatisfiesAll}
use Rattle.cnf_core.specs.Truths.{assignment}
use Rattle.order_int.specs.IntVars.{IntVars}
use Rattle.order_int.specs.OrderInt.{int_clauses}
use Rattle.order_int.proofs.IntLemmas.{steps_hold}
use Rattle.order_int.proofs.integer.OrderInt.put.Goals as goal

pub returns-clause-model : goal.returns-clause-model
returns-clause-model c =
    let ends = c.loop-k-test.false in
    subst (λ (i : IntVars). SatisfiesAll (assignment c.loop-k.m) (int_clauses i)) c.self.view_is
    (steps_hold (assignment c.loop-k.m) c.self.inside.first.0 (c.self.inside.high - c.self.inside.low) (c.args.value - c.self.inside.low)
    (λ k within. c.loop-k.invariant.steps k (omega arith)))
