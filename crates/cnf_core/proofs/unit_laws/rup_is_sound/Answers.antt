use Rattle.cnf_core.proofs.PropagationLemmas.{rup_sound}
use Rattle.cnf_core.proofs.unit_laws.rup_is_sound.Goals as goal

pub returns : goal.returns
returns c = rup_sound
