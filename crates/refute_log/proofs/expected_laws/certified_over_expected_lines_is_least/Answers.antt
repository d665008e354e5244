use Rattle.plan_core.specs.Values.{values_of}
use Rattle.refute_log.specs.Expected.{caps, expected_lines}
use Rattle.refute_log.proofs.CertifiedLemmas.{none_better, none_meets}
use Rattle.refute_log.proofs.MeetsLemmas.{meets_front, caps_within}
use Rattle.refute_log.proofs.expected_laws.certified_over_expected_lines_is_least.Goals as goal

pub returns : goal.returns
returns c = record {
  least = λ g above grid e greatest lines order log v s certified d lawful b.
      let cap = caps greatest lines in
      let meets = meets_front (expected_lines e order cap) lines (values_of d) log.expected (log.covers cap (caps_within greatest lines) d lawful) in
      none_better greatest lines order v (values_of d) s meets log.derives certified b;
  none = λ g above grid e greatest lines order log none d lawful.
      let cap = caps greatest lines in
      let meets = meets_front (expected_lines e order cap) lines (values_of d) log.expected (log.covers cap (caps_within greatest lines) d lawful) in
      none_meets lines (values_of d) meets log.derives none;
}
