use Rattle.log_check.proofs.VerdictLemmas.{certified_due}
use Rattle.log_check.proofs.laws.certified_exactly.Goals as goal

pub returns : goal.returns
returns c = record {
  due = λ y order claim log v is within k. certified_due y order claim log k.expected k.lines v is.station is.ordered is.sized within k.is_expected k.whole
      k.certified;
  only = λ y order claim log h. record {
    expected = h.expected;
    lines = h.is_verdict.lines;
    is_expected = h.is_expected;
    whole = h.is_verdict.whole;
    certified = h.is_verdict.certified;
  };
}
