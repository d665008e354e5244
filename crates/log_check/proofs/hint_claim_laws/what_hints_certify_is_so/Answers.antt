use Rattle.log_check.proofs.HintedLemmas.{none_better, none_meets}
use Rattle.log_check.proofs.hint_claim_laws.what_hints_certify_is_so.Goals as goal

pub returns : goal.returns
returns c = record { least = none_better; none = none_meets }
