use Rattle.std.proofs.Common.{append_assoc}
use Rattle.std.proofs.lemmas.Result.{IfOk-equal}
use Rattle.station_make.specs.StationText.{loop_begin}
use Rattle.station_make.proofs.loop_track.push_loop_begin.Goals as goal

pub returns : goal.returns
unfolding loop_begin
returns c = IfOk-equal c.push_text.result _ _ _ c.push_text.ensures.ok (simp (
  c.in_ok-push_numbered-4.ensures,
  c.in_ok-push_numbered-3.ensures,
  c.in_ok-push_numbered-2.ensures,
  c.in_ok-push_numbered.ensures,
  c.leaving.ensures,
  append_assoc,
))
