use Rattle.railml_text.proofs.CutLemmas.{fault_no_sound, fault_no_item}
use Rattle.railml_text.proofs.laws.fault_or_item.Goals as goal

pub returns-clause-sound : goal.returns-clause-sound
returns-clause-sound c = fault_no_sound

pub returns-clause-none : goal.returns-clause-none
returns-clause-none c = fault_no_item
