use Rattle.std.proofs.Common.{[]}
use Rattle.refute_check.proofs.JudgeLemmas.{none_is}
use Rattle.log_check.specs.Hinted.{log_of}
use Rattle.log_check.proofs.HintedLemmas.{kept_as, knows_log, refutes_same}
use Rattle.log_check.proofs.hint_lacking.none_certified.Goals as goal

pub returns : goal.returns
returns c = λ told lines bounds known.
    let log = log_of told lines in
    let both = none_is log (kept_as log) bounds (knows_log told lines c.args.checker.now bounds known) in
    let same = refutes_same told lines c.args.checker.now bounds [] known in
    (λ t. both.0 (same.0 (c.verdict.ensures.0 t)), λ h. c.verdict.ensures.1 (same.1 (both.1 h)))
