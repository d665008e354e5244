use Rattle.railml_text.proofs.CutLemmas.{one_fault}
use Rattle.railml_text.proofs.laws.one_fault.Goals as goal

pub returns : goal.returns
returns c = one_fault
