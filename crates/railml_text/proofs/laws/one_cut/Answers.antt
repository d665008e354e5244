use Rattle.railml_text.proofs.CutLemmas.{one_cut}
use Rattle.railml_text.proofs.laws.one_cut.Goals as goal

pub returns : goal.returns
returns c = one_cut
