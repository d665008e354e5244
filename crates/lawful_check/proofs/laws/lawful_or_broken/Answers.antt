use Rattle.lawful_check.proofs.LeastLemmas.{lawful_breaks_none}
use Rattle.lawful_check.proofs.laws.lawful_or_broken.Goals as goal

pub returns : goal.returns
returns c = lawful_breaks_none
