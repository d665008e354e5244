use Rattle.refute_log.proofs.CertifiedLemmas.{certifies_same}
use Rattle.refute_log.proofs.certified_laws.equal_values_are_certified_alike.Goals as goal

pub returns : goal.returns
returns c = certifies_same
