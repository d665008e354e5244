use Rattle.order_int.proofs.IntLemmas.{reads_once}
use Rattle.order_int.proofs.laws.one_number.Goals as goal

pub returns : goal.returns
returns c = reads_once
