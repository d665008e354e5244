use Rattle.refute_check.proofs.JudgeLemmas.{none_is}
use Rattle.refute_check.proofs.lacking.none_certified.Goals as goal

pub returns : goal.returns
returns c = λ lines bounds known.
    let both = none_is lines c.args.checker.now bounds known in
    (λ t. both.0 (c.verdict.ensures.0 t), λ h. c.verdict.ensures.1 (both.1 h))
