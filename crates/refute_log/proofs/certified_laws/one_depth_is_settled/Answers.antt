use Rattle.refute_log.proofs.CertifiedLemmas.{settled_once}
use Rattle.refute_log.proofs.certified_laws.one_depth_is_settled.Goals as goal

pub returns : goal.returns
returns c = settled_once
