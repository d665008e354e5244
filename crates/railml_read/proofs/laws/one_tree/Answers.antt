use Rattle.railml_read.proofs.FaultLemmas.{one_tree}
use Rattle.railml_read.proofs.laws.one_tree.Goals as goal

pub returns : goal.returns
returns c = one_tree
