use Rattle.std.proofs.Common.{◌∙◌, ap, rules}
use Rattle.cnf_core.specs.Lit.{Literal}
use Rattle.watch_arena.specs.Trail.{with_lit, opened}
use Rattle.log_trim.proofs.AssumingLemmas.{opened_reasons}
use Rattle.log_trim.proofs.assumptions.open.Goals as goal

pub returns-clause-reasons : goal.returns-clause-reasons
returns-clause-reasons c = λ a.
    opened_reasons a c.args.trail.now c.decide.new.self c.set.new.self c.args.vars c.requires.lits
    (c.decide.ensures.value ∙ ap (λ (l : Literal). with_lit (opened c.args.trail.now) l 0) c.new.ensures)
    (c.set.ensures.value ∙ ap (λ (l : Literal). with_lit c.decide.new.self l 0) c.new-2.ensures) (search rules)
