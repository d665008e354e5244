use Rattle.order_int.proofs.IntLemmas.{reads_same}
use Rattle.order_int.proofs.laws.other_variables_are_free.Goals as goal

pub returns : goal.returns
returns c = reads_same
