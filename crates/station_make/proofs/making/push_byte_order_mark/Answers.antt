use Rattle.std.proofs.Common.{rules}
use Rattle.station_make.specs.StationText.{byte_order_mark}
use Rattle.station_make.proofs.making.push_byte_order_mark.Goals as goal

pub returns : goal.returns
unfolding byte_order_mark
returns c = search rules
