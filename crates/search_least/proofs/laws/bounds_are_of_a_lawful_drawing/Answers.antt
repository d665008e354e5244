use Rattle.search_least.proofs.CapLemmas.{capped_each}
use Rattle.search_least.proofs.laws.bounds_are_of_a_lawful_drawing.Goals as goal

pub returns : goal.returns
returns c = capped_each
