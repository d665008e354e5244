use Rattle.railml_read.proofs.TrackLemmas.{on_a_track}
use Rattle.railml_read.proofs.laws.signals_stand_on_tracks.Goals as goal

pub returns : goal.returns
returns c = on_a_track
