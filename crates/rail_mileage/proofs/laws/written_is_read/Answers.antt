use Rattle.rail_mileage.proofs.WrittenLemmas.{written_is_read}
use Rattle.rail_mileage.proofs.laws.written_is_read.Goals as goal

pub returns : goal.returns
returns c = written_is_read
