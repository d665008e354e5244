use Rattle.search_why.proofs.OutcomeLemmas.{irreducible}
use Rattle.search_why.proofs.laws.without_is_irreducible.Goals as goal

pub returns : goal.returns
returns c = irreducible
