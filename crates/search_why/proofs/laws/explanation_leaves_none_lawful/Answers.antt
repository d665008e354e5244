use Rattle.search_why.proofs.OutcomeLemmas.{none_lawful}
use Rattle.search_why.proofs.laws.explanation_leaves_none_lawful.Goals as goal

pub returns : goal.returns
returns c = none_lawful
