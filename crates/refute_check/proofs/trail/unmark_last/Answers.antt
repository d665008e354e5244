use Rattle.std.proofs.Common.{◌++◌, ◌∷◌, [], List, arith, subst}
use Rattle.cnf_core.specs.Lit.{Literal}
use Rattle.cnf_core.proofs.TrailLemmas.{there_last, word_below}
use Rattle.cnf_core.specs.Trail.{IsTrail}
use Rattle.cnf_core.proofs.MarkLemmas.{trail_less}
use Rattle.refute_check.proofs.trail.unmark_last.Goals as goal
use Rattle.refute_check.proofs.trail.unmark_last.Goals.{After-word}

-- the trail was the rest with the literal behind it
was : (c : After-word) → IsTrail c.args.vars c.args.truth.now (c.pop.new.self.items ++ c.in_ok-l.l ∷ [])
was c = subst (λ (ls : List Literal). IsTrail c.args.vars c.args.truth.now ls) c.in_ok-l.ensures.items c.requires

pub bounds-truth-word : goal.bounds-truth-word
bounds-truth-word c =
    let t = was c in
    omega (arith, c.word.ensures.value, word_below c.args.vars c.in_ok-l.l (there_last c.args.vars c.pop.new.self.items c.in_ok-l.l t.there), t.size)

pub returns-clause-trail : goal.returns-clause-trail
returns-clause-trail c = rw c.word.ensures.value (trail_less c.args.vars c.args.truth.now c.pop.new.self.items c.in_ok-l.l (was c))
