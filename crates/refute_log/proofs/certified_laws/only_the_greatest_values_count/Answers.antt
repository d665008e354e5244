use Rattle.std.proofs.Common.{ℕ, length, min, ap}
use Rattle.refute_log.specs.Expected.{bound_vars}
use Rattle.refute_log.proofs.CertifiedLemmas.{least_under, certifies_under}
use Rattle.refute_log.proofs.certified_laws.only_the_greatest_values_count.Goals as goal

pub returns : goal.returns
returns c = record {
  least = least_under;
  values = certifies_under;
  counts = λ greatest other lines c e. ap (λ (n : ℕ). min (length (bound_vars c lines)) n) e;
}
