use Rattle.std.proofs.Common.{refl}
use Rattle.std.specs.Fmt.{digits}
use Rattle.cases_text.proofs.pictures.picture_of_one_track.Goals as goal

pub returns : goal.returns
unfolding digits
returns c = record {
  extent = refl;
  track = refl;
  west_name = refl;
  east_name = refl;
  row_below = refl;
  name = refl;
}
