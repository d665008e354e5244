use Rattle.std.proofs.Common.{◌∙◌, List, sym, subst}
use Rattle.std.specs.Prelude.{All}
use Rattle.std.proofs.lemmas.List.{take_all}
use Rattle.std.proofs.lemmas.List.Elements.{All-more}
use Rattle.cnf_core.specs.Lit.{Literal}
use Rattle.cnf_core.specs.Clause.{IsThere}
use Rattle.cnf_core.proofs.TrailLemmas.{there_get}
use Rattle.watch_arena.specs.Trail.{IsUnset}
use Rattle.log_trim.proofs.AssumingLemmas.{unset_by}
use Rattle.log_trim.proofs.assumptions.are_unset.Goals as goal

pub value-requires : goal.value-requires
value-requires c = subst (λ (k : Literal). IsThere c.args.trail.now.vars k) (sym c.l-item.is)
    (there_get c.args.trail.now.vars c.args.lits.now c.loop-l.l-index c.l-item.result c.loop-l-test.true c.requires)

pub loop-l-preserved : goal.loop-l-preserved
loop-l-preserved c =
    let front = c.args.trail.now.lits in
    All-more (λ k. IsUnset front k) c.args.lits.now c.loop-l.l-index c.l-item.result c.loop-l-test.true c.loop-l.invariant
    (subst (λ (k : Literal). IsUnset front k) c.l-item.is (unset_by front c.l-item.result c.value.result c.value.ensures
    (sym c.is_some.ensures ∙ c.if-is_some.false)))

pub returns : goal.returns
returns c = λ _. subst (λ (ls : List Literal). All (λ k. IsUnset c.args.trail.now.lits k) ls) (take_all c.loop-l.l-index c.args.lits.now c.loop-l-test.false)
    c.loop-l.invariant
