use Rattle.std.proofs.Common.{arith, ◌≤◌, ◌<◌, length}
use Rattle.std.specs.Prelude.{option_to_list}
use Rattle.refute_check.proofs.UndoLemmas.{dropped_none, dropped_one, dropped_all}
use Rattle.refute_check.proofs.undo.unmark_behind.Goals as goal

pub loop-truth-init : goal.loop-truth-init
loop-truth-init c = dropped_none c.args.vars c.args.trail.now.items c.args.truth.now c.args.level c.requires.trail

pub loop-truth-preserved : goal.loop-truth-preserved
loop-truth-preserved c =
    let within : c.args.level < length c.loop-truth.trail.items = omega (arith, c.len.ensures, c.loop-truth-test.true) in
    dropped_one c.args.vars c.args.trail.now.items c.loop-truth.trail.items c.unmark_last.new.trail.items c.loop-truth.truth c.unmark_last.new.truth
    c.args.level (option_to_list c.unmark_last.result) c.loop-truth.invariant within c.unmark_last.ensures.trail c.unmark_last.ensures.last
    c.unmark_last.ensures.less

pub loop-truth-smaller : goal.loop-truth-smaller
loop-truth-smaller c =
    let within : c.args.level < length c.loop-truth.trail.items = omega (arith, c.len.ensures, c.loop-truth-test.true) in
    omega (arith, within, c.unmark_last.ensures.less)

pub returns-clause-rest : goal.returns-clause-rest
returns-clause-rest c =
    let end : length c.loop-truth.trail.items ≤ c.args.level = omega (arith, c.len.ensures, c.loop-truth-test.false) in
    dropped_all c.args.vars c.args.trail.now.items c.loop-truth.trail.items c.loop-truth.truth c.args.level c.loop-truth.invariant end
