use Rattle.std.proofs.Common.{rules}
use Rattle.log_check.proofs.HintExpectingLemmas.{copy_has_room}
use Rattle.log_check.proofs.hint_expecting.copied.Goals as goal

pub unreachable-requires-in-Err-Room-add : goal.unreachable-requires-in-Err-Room-add
unreachable-requires-in-Err-Room-add c =
    copy_has_room c.args.f.now c.loop-i.copy c.loop-i.i c.lits_of.result.now c.words.ensures.formula c.loop-i.invariant.room c.loop-i.invariant.clauses
    (search rules) c.lits_of.ensures.value (c.in-Err-Room-add.ensures.room.0 (cc))
