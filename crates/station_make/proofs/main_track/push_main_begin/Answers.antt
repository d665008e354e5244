use Rattle.std.proofs.Common.{append_assoc}
use Rattle.std.proofs.lemmas.Result.{IfOk-equal}
use Rattle.station_make.specs.StationText.{main_begin}
use Rattle.station_make.proofs.main_track.push_main_begin.Goals as goal

pub returns : goal.returns
unfolding main_begin
returns c = IfOk-equal c.push_text-4.result _ _ _ c.push_text-4.ensures.ok (simp (
  c.in_ok-push_text-3.ensures.ok,
  c.in_ok-push_numbered.ensures,
  c.main_length.ensures,
  c.in_ok-push_text-2.ensures.ok,
  c.in_ok-push_text.ensures.ok,
  append_assoc,
))
