use Rattle.std.proofs.Common.{append_assoc}
use Rattle.std.proofs.lemmas.Result.{IfOk-equal}
use Rattle.plan_write.proofs.svg.push_polyline.Goals as goal

pub returns-clause-ok : goal.returns-clause-ok
returns-clause-ok c = IfOk-equal c.push_text-2.result _ _ _ c.push_text-2.ensures.ok
    (simp (c.in_ok-push_points.ensures.ok, c.points.ensures.value, c.in_ok-push_text.ensures.ok, append_assoc))
