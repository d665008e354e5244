use Rattle.std.proofs.Common.{◌≡◌, length, arith}
use Rattle.hint_log.specs.Checked.{clauses_learnt}
use Rattle.run_check.proofs.CountLemmas.{counted_next, one_learnt, no_learnt}
use Rattle.run_check.proofs.writing.count_kept.Goals.{in-Learnt, in_default}
use Rattle.run_check.proofs.writing.count_kept.Goals as goal

pub loop-i-preserved : goal.loop-i-preserved
loop-i-preserved c =
    let line = c.get.result.now in
    let next = counted_next c.args.lines.now c.loop-i.i c.loop-i.count line c.get.ensures c.loop-i.invariant.count_is in
    let within = c.loop-i.invariant.within in
    elim c.match-get.branch [
      | in-Learnt w ↦
          let one : length (clauses_learnt line) ≡ 1 = one_learnt line w.in-Learnt.lits w.in-Learnt.hints w.in-Learnt.is in
          let is = w.count-is in
          record { count_is = omega (arith, one, is, next); within = omega (arith, within, is) }
      | in_default w ↦
          let none : length (clauses_learnt line) ≡ 0 = no_learnt line w.in_default.not-Learnt in
          let is = w.count-is in
          record { count_is = omega (arith, none, is, next); within = omega (arith, within, is) }
    ]
