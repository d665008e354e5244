use Rattle.refute_log.proofs.CertifiedLemmas.{certifies_nothing, certifies_place, least_at, certifies_fewer}
use Rattle.refute_log.proofs.certified_laws.values_are_certified_place_by_place.Goals as goal

pub returns : goal.returns
returns c' = record {
  none = certifies_nothing;
  next = certifies_place;
  last = λ greatest lines order v i h c at. least_at greatest lines order v i c at h;
  fewer = certifies_fewer;
}
