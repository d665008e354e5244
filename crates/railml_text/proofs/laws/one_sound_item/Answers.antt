use Rattle.railml_text.proofs.CutLemmas.{one_sound_item}
use Rattle.railml_text.proofs.laws.one_sound_item.Goals as goal

pub returns : goal.returns
returns c = one_sound_item
