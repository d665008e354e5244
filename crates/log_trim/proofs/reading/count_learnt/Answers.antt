use Rattle.std.proofs.Common.{◌≡◌, length, arith}
use Rattle.refute_log.specs.Log.{learnt}
use Rattle.log_trim.proofs.HintedLemmas.{counted_next}
use Rattle.log_trim.proofs.ReadingLemmas.{one_learnt, no_learnt}
use Rattle.log_trim.proofs.reading.count_learnt.Goals.{in-Learnt, in_default}
use Rattle.log_trim.proofs.reading.count_learnt.Goals as goal

pub loop-i-preserved : goal.loop-i-preserved
loop-i-preserved c =
    let line = c.get.result.now in
    let next = counted_next learnt c.args.lines.now c.loop-i.i c.loop-i.count line c.get.ensures.value c.loop-i.invariant.count_is in
    let within = c.loop-i.invariant.within in
    elim c.match-get.branch [
      | in-Learnt w ↦
          let one : length (learnt line) ≡ 1 = one_learnt line w.in-Learnt.field-0 w.in-Learnt.is in
          let is = w.count-is in
          record { count_is = omega (arith, one, is, next); within = omega (arith, within, is) }
      | in_default w ↦
          let none : length (learnt line) ≡ 0 = no_learnt line w.in_default.not-Learnt in
          let is = w.count-is in
          record { count_is = omega (arith, none, is, next); within = omega (arith, within, is) }
    ]
