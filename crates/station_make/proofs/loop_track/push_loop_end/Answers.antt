use Rattle.std.proofs.Common.{append_assoc}
use Rattle.std.proofs.lemmas.Result.{IfOk-equal}
use Rattle.station_make.specs.StationText.{loop_end}
use Rattle.station_make.proofs.loop_track.push_loop_end.Goals as goal

pub returns : goal.returns
unfolding loop_end
returns c = IfOk-equal c.push_text-2.result _ _ _ c.push_text-2.ensures.ok (simp (
  c.in_ok-push_numbered-3.ensures,
  c.in_ok-push_numbered-2.ensures,
  c.in_ok-push_text.ensures.ok,
  c.in_ok-push_numbered.ensures,
  append_assoc,
))
