use Rattle.std.proofs.Common.{rules, append_assoc}
use Rattle.std.proofs.lemmas.Result.{IfOk-equal}
use Rattle.station_make.specs.StationText.{numbered}
use Rattle.station_make.proofs.numbered.push_numbered.Goals as goal

pub returns : goal.returns
unfolding numbered
returns c = search (rules, IfOk-equal, append_assoc)
