use Rattle.std.proofs.Common.{List, sym, subst}
use Rattle.std.specs.Prelude.{All}
use Rattle.std.proofs.lemmas.List.{take_all}
use Rattle.std.proofs.lemmas.Bool.{true≢false, false≢true}
use Rattle.cnf_core.specs.Lit.{negate}
use Rattle.cnf_core.proofs.GrowthLemmas.{grows_more}
use Rattle.refute_check.specs.declared.places.Rest.{Rest}
use Rattle.refute_check.specs.Entries.{IsShort}
use Rattle.refute_check.specs.Tables.{IsRestQuiet}
use Rattle.refute_check.proofs.ShortLemmas.{beside_none, beside_one}
use Rattle.refute_check.proofs.looks.look_beside_each.Goals as goal

pub loop-r-init : goal.loop-r-init
loop-r-init c = beside_none c.args.formula.now.vars c.args.formula.now.clauses c.args.l c.args.truth.now c.args.trail.now.items c.requires.trail

pub look_beside-requires-clause-short : goal.look_beside-requires-clause-short
look_beside-requires-clause-short c = subst (λ (r : Rest). IsShort c.args.formula.now.clauses c.args.l r) (sym c.r-item.is)
    (c.requires.shorts c.loop-r.r-index c.r-item.result c.loop-r-test.true)

pub look_beside-requires-clause-false_now : goal.look_beside-requires-clause-false_now
look_beside-requires-clause-false_now c = let g = c.loop-r.invariant.grows in g.keeps (negate c.args.l) c.requires.false_now

pub loop-r-preserved : goal.loop-r-preserved
loop-r-preserved c =
    beside_one c.args.formula.now.vars c.args.formula.now.clauses c.args.l c.args.shorts.now c.args.trail.now.items c.loop-r.truth c.look_beside.new.truth
    c.loop-r.trail.items c.look_beside.new.trail.items c.loop-r.r-index c.r-item.result c.loop-r-test.true c.r-item.is
    c.loop-r.invariant c.in_ok-look_beside.ensures.trail c.in_ok-look_beside.ensures.grows (c.in_ok-look_beside.ensures.quiet c.if-branch.false)

pub returns-then-branch-clause-grows : goal.returns-then-branch-clause-grows
returns-then-branch-clause-grows c =
    grows_more c.args.formula.now.clauses c.args.trail.now.items c.loop-r.trail.items c.look_beside.new.trail.items c.loop-r.invariant.grows
    c.in_ok-look_beside.ensures.grows

pub returns-clause-quiet : goal.returns-clause-quiet
returns-clause-quiet c = λ _. subst (λ (rs : List Rest). All (IsRestQuiet c.args.l c.args.trail.now.items c.loop-r.trail.items) rs)
    (take_all c.loop-r.r-index c.args.shorts.now c.loop-r-test.false) c.loop-r.invariant.quiet

pub look_beside-requires-clause-trail : goal.look_beside-requires-clause-trail
look_beside-requires-clause-trail c = c.loop-r.invariant.table

pub returns-then-branch-clause-trail : goal.returns-then-branch-clause-trail
returns-then-branch-clause-trail c = c.in_ok-look_beside.ensures.trail

pub returns-then-branch-clause-falsified : goal.returns-then-branch-clause-falsified
returns-then-branch-clause-falsified c = λ _. c.in_ok-look_beside.ensures.falsified c.if-branch.true

pub returns-then-branch-clause-quiet : goal.returns-then-branch-clause-quiet
returns-then-branch-clause-quiet c = λ e. absurd (true≢false e)

pub returns-clause-trail : goal.returns-clause-trail
returns-clause-trail c = c.loop-r.invariant.table

pub returns-clause-grows : goal.returns-clause-grows
returns-clause-grows c = c.loop-r.invariant.grows

pub returns-clause-falsified : goal.returns-clause-falsified
returns-clause-falsified c = λ e. absurd (false≢true e)
