use Rattle.std.proofs.Common.{◌∙◌, ap, sym, subst}
use Rattle.cnf_core.specs.Lit.{Literal, negate}
use Rattle.cnf_core.specs.Clause.{IsThere}
use Rattle.watch_arena.specs.Trail.{with_lit, IsUnset}
use Rattle.log_trim.proofs.AssumingLemmas.{assuming_first, unset_turned}
use Rattle.log_trim.proofs.assumptions.assume_first.Goals as goal

pub set-requires-clause-unset : goal.set-requires-clause-unset
set-requires-clause-unset c = unset_turned c.args.trail.now.lits c.args.first c.negated.result c.requires.unset c.negated.ensures

pub returns : goal.returns
returns c = λ a vars others h.
    assuming_first a vars c.args.first others c.args.trail.now c.set.new.self h c.requires.unset
    (c.set.ensures.value ∙ ap (λ (l : Literal). with_lit c.args.trail.now l 0) c.negated.ensures) (c.set.ensures.watched a h.watched)
