use Rattle.std.proofs.Common.{◌-◌, arith}
use Rattle.log_trim.proofs.AssumingLemmas.{idle_left}
use Rattle.log_trim.proofs.assumptions.leave.Goals as goal

pub returns : goal.returns
returns c = λ a vars lits h. idle_left a vars lits c.args.trail.now c.undo_to.new.self (c.level-level.result - 1) h c.undo_to.ensures.value
    (omega (arith, c.requires, c.level-level.ensures.value)) (c.undo_to.ensures.watched a h.watched)
