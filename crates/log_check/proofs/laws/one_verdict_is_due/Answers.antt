use Rattle.log_check.proofs.CutLemmas.{bounds_once}
use Rattle.log_check.proofs.CauseLemmas.{refused_once}
use Rattle.log_check.proofs.VerdictLemmas.{expected_once, judged_once}
use Rattle.log_check.proofs.laws.one_verdict_is_due.Goals as goal

pub returns : goal.returns
returns c = record {
  bounds = bounds_once;
  expected = expected_once;
  cause = refused_once;
  verdict = λ y order claim log v w is. judged_once y order claim log v w is.station
      is.ordered is.sized;
}
