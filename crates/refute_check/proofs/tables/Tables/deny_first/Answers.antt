use Rattle.std.proofs.Common.{◌∙◌, ◌++◌, ◌∷◌, [], sym, ap, subst}
use Rattle.cnf_core.specs.Lit.{Literal, negate}
use Rattle.cnf_core.specs.Clause.{IsThere}
use Rattle.cnf_core.proofs.PropagationLemmas.{negate-negate}
use Rattle.cnf_core.specs.Trail.{marked, Grows}
use Rattle.refute_check.proofs.NoveltyLemmas.{pushed_quiet, denied_new, denied_unproved, denied_front}
use Rattle.refute_check.proofs.tables.Tables.deny_first.Goals as goal

pub mark_and_propagate-requires-clause-quiet : goal.mark_and_propagate-requires-clause-quiet
mark_and_propagate-requires-clause-quiet c = pushed_quiet c.args.formula.now.clauses c.args.self.now.trail.items c.negated.result c.requires.quiet

pub mark_and_propagate-requires-clause-there : goal.mark_and_propagate-requires-clause-there
mark_and_propagate-requires-clause-there c = subst (λ (k : Literal). IsThere c.args.formula.now.vars k) (sym c.negated.ensures) c.requires.there

pub mark_and_propagate-requires-clause-not_true : goal.mark_and_propagate-requires-clause-not_true
mark_and_propagate-requires-clause-not_true c = ap (marked c.args.self.now.truth.items) c.negated.ensures ∙ c.requires.not_false

pub mark_and_propagate-requires-clause-not_false : goal.mark_and_propagate-requires-clause-not_false
mark_and_propagate-requires-clause-not_false c = ap (λ (k : Literal). marked c.args.self.now.truth.items (negate k)) c.negated.ensures
    ∙ ap (marked c.args.self.now.truth.items) (negate-negate c.args.first) ∙ c.requires.not_true

pub returns-then-falsified-clause-front : goal.returns-then-falsified-clause-front
returns-then-falsified-clause-front c = denied_front c.args.formula.now.clauses c.args.self.now.trail.items c.mark_and_propagate.new.self.trail.items
    c.negated.result c.in_ok-falsified.ensures.grows

pub returns-else-falsified-clause-front : goal.returns-else-falsified-clause-front
returns-else-falsified-clause-front c = denied_front c.args.formula.now.clauses c.args.self.now.trail.items c.mark_and_propagate.new.self.trail.items
    c.negated.result c.in_ok-falsified.ensures.grows

pub returns-then-falsified-clause-novelty : goal.returns-then-falsified-clause-novelty
returns-then-falsified-clause-novelty c =
    let old = c.args.self.now.trail.items in
    let new = c.mark_and_propagate.new.self.trail.items in
    let clauses = c.args.formula.now.clauses in
    let table = c.requires.counted.table in
    denied_new clauses c.args.first c.args.others.now old new c.requires.closure (sym (table.marks c.args.first) ∙ c.requires.not_true)
    (subst (λ (k : Literal). Grows clauses (old ++ k ∷ []) new) c.negated.ensures c.in_ok-falsified.ensures.grows)
    (c.in_ok-falsified.ensures.falsified c.if-falsified.true)

pub returns-else-falsified-clause-novelty : goal.returns-else-falsified-clause-novelty
returns-else-falsified-clause-novelty c =
    let old = c.args.self.now.trail.items in
    let new = c.mark_and_propagate.new.self.trail.items in
    let clauses = c.args.formula.now.clauses in
    denied_unproved clauses c.args.first c.args.others.now old new c.requires.closure
    (subst (λ (k : Literal). Grows clauses (old ++ k ∷ []) new) c.negated.ensures c.in_ok-falsified.ensures.grows)
    (c.in_ok-falsified.ensures.quiet c.if-falsified.false)
