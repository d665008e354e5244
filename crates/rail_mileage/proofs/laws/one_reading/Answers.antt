use Rattle.rail_mileage.proofs.PartsLemmas.{one_reading}
use Rattle.rail_mileage.proofs.laws.one_reading.Goals as goal

pub returns : goal.returns
returns c = one_reading
