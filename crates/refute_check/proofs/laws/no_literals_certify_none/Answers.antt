use Rattle.refute_check.proofs.JudgeLemmas.{none_is}
use Rattle.refute_check.proofs.laws.no_literals_certify_none.Goals as goal

pub returns : goal.returns
returns c = none_is
