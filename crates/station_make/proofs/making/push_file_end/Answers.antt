use Rattle.std.proofs.Common.{rules}
use Rattle.station_make.specs.StationText.{file_end}
use Rattle.station_make.proofs.making.push_file_end.Goals as goal

pub returns : goal.returns
unfolding file_end
returns c = search rules
