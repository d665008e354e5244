use Rattle.refute_check.proofs.JudgeLemmas.{none_lacking, lacking_once}
use Rattle.refute_check.proofs.laws.one_place_lacks_first.Goals as goal

pub returns : goal.returns
returns c = record { none = none_lacking; once = lacking_once }
