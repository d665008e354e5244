use Rattle.std.proofs.Common.{append_assoc}
use Rattle.std.proofs.lemmas.Result.{IfOk-equal}
use Rattle.plan_write.proofs.svg.push_picture_begin.Goals as goal

pub returns-clause-ok : goal.returns-clause-ok
returns-clause-ok c = IfOk-equal c.push_text-3.result _ _ _ c.push_text-3.ensures.ok
    (simp (
      c.in_ok-push_number-2.ensures.ok,
      c.extent-2.ensures,
      c.in_ok-push_text-2.ensures.ok,
      c.in_ok-push_number.ensures.ok,
      c.extent.ensures,
      c.in_ok-push_text.ensures.ok,
      append_assoc,
    ))
