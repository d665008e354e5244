use Rattle.std.proofs.Common.{append_assoc}
use Rattle.std.proofs.lemmas.Result.{IfOk-equal}
use Rattle.station_make.specs.StationText.{leaving_switch}
use Rattle.station_make.proofs.main_track.push_leaving_switch.Goals as goal

pub returns : goal.returns
unfolding leaving_switch
returns c = IfOk-equal c.push_text-3.result _ _ _ c.push_text-3.ensures.ok (simp (
  c.in_ok-push_text-2.ensures.ok,
  c.eastward_hand.ensures,
  c.in_ok-push_text.ensures.ok,
  c.in_ok-push_numbered-4.ensures,
  c.in_ok-push_numbered-3.ensures,
  c.in_ok-push_numbered-2.ensures,
  c.leaving.ensures,
  c.in_ok-push_numbered.ensures,
  append_assoc,
))
