use Rattle.refute_log.proofs.CertifiedLemmas.{none_better, none_meets, same_twice}
use Rattle.refute_log.proofs.certified_laws.certified_values_are_least.Goals as goal

pub returns : goal.returns
returns c = record { least = none_better; none = none_meets; once = same_twice }
