use Rattle.std.proofs.Common.{append_assoc}
use Rattle.std.proofs.lemmas.Result.{IfOk-equal}
use Rattle.station_make.specs.StationText.{main_end}
use Rattle.station_make.proofs.main_track.push_main_track.Goals as goal

pub returns : goal.returns
unfolding main_end
returns c = IfOk-equal c.push_text.result _ _ _ c.push_text.ensures.ok (simp (c.in_ok-push_all_switches.ensures, c.in_ok-push_main_begin.ensures, append_assoc))
