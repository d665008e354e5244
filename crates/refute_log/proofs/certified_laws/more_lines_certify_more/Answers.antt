use Rattle.refute_log.proofs.CertifiedLemmas.{certifies_more, certifies_none_more}
use Rattle.refute_log.proofs.certified_laws.more_lines_certify_more.Goals as goal

pub returns : goal.returns
returns c = record { values = certifies_more; none = certifies_none_more }
