use Rattle.std.proofs.Common.{◌≡◌, length, arith}
use Rattle.refute_log.specs.Log.{given}
use Rattle.log_trim.proofs.HintedLemmas.{counted_next, one_given, no_given}
use Rattle.log_trim.proofs.hint_trimming.count_given.Goals.{in-Formula, in_default}
use Rattle.log_trim.proofs.hint_trimming.count_given.Goals as goal

pub loop-i-preserved : goal.loop-i-preserved
loop-i-preserved c =
    let line = c.get.result.now in
    let next = counted_next given c.args.lines.now c.loop-i.i c.loop-i.count line c.get.ensures.value c.loop-i.invariant.count_is in
    let within = c.loop-i.invariant.within in
    elim c.match-get.branch [
      | in-Formula w ↦
          let one : length (given line) ≡ 1 = one_given line w.in-Formula.field-0 w.in-Formula.is in
          let is = w.count-is in
          record { count_is = omega (arith, one, is, next); within = omega (arith, within, is) }
      | in_default w ↦
          let none : length (given line) ≡ 0 = no_given line w.in_default.not-Formula in
          let is = w.count-is in
          record { count_is = omega (arith, none, is, next); within = omega (arith, within, is) }
    ]
