use Rattle.std.proofs.Common.{◌∙◌, ap}
use Rattle.log_check.proofs.AcceptingLemmas.{bounds_pushed, bounds_kept}
use Rattle.log_trim.proofs.ReadingLemmas.{bounds_next}
use Rattle.log_trim.proofs.reading.bounds_of.Goals.{in-Some+in_ok-push, in_default}
use Rattle.log_trim.proofs.reading.bounds_of.Goals as goal

pub loop-i-preserved : goal.loop-i-preserved
loop-i-preserved c =
    let line = c.get.result.now in
    let old = c.loop-i.bounds.items in
    elim c.match-of.branch [
      | in-Some+in_ok-push w ↦
          bounds_next c.args.lines.now c.loop-i.i line old c.match-of.bounds.items c.get.ensures.value c.loop-i.invariant
          (ap (λ b. b.items) w.bounds-is ∙ bounds_pushed line old w.push.new.self.items w.in-Some.bound w.in-Some.ensures w.in_ok-push.ensures.items)
      | in_default w ↦
          bounds_next c.args.lines.now c.loop-i.i line old c.match-of.bounds.items c.get.ensures.value c.loop-i.invariant
          (ap (λ b. b.items) w.bounds-is ∙ bounds_kept line old c.of.result c.of.ensures w.in_default.not-Some)
    ]
