use Rattle.std.proofs.Common.{◌<◌, arith, sym, subst, length}
use Rattle.cnf_core.specs.Lit.{Literal, word_of}
use Rattle.cnf_core.specs.Clause.{IsThere}
use Rattle.cnf_core.proofs.TrailLemmas.{there_get, word_below}
use Rattle.refute_check.proofs.AddLemmas.{lists_none, lists_more, lists_all}
use Rattle.refute_check.proofs.adding.list_clause.Goals as goal

pub index_mut-places-requires : goal.index_mut-places-requires
index_mut-places-requires c =
    let h = there_get c.args.vars c.args.lits.now c.loop-l.l-index c.l-item.result c.loop-l-test.true c.requires.there in
    let there = subst (λ (k : Literal). IsThere c.args.vars k) (sym c.l-item.is) h in
    let low = word_below c.args.vars c.l-item.result there in
    let size = c.loop-l.invariant.size in
    omega (arith, low, c.word.ensures.value, size, c.requires.table)

pub loop-l-init : goal.loop-l-init
loop-l-init c = lists_none c.args.number c.args.lits.now c.args.occurrences.now.items

pub loop-l-preserved : goal.loop-l-preserved
loop-l-preserved c =
    let h = there_get c.args.vars c.args.lits.now c.loop-l.l-index c.l-item.result c.loop-l-test.true c.requires.there in
    let there = subst (λ (k : Literal). IsThere c.args.vars k) (sym c.l-item.is) h in
    let low : word_of c.l-item.result < length c.args.occurrences.now.items = omega (arith, word_below c.args.vars c.l-item.result there, c.requires.table) in
    lists_more c.args.lits.now c.loop-l.l-index c.l-item.result c.args.number c.word.result c.args.lits.now c.args.occurrences.now.items
    c.loop-l.occurrences.items c.index_mut-places.result.now c.list_at.new.places c.requires.distinct c.loop-l-test.true c.l-item.is c.word.ensures.value low
    c.loop-l.invariant c.index_mut-places.ensures.value c.in_ok-list_at.ensures

pub returns : goal.returns
returns c = lists_all c.args.lits.now c.loop-l.l-index c.args.number c.args.lits.now c.args.occurrences.now.items c.loop-l.occurrences.items c.loop-l-test.false
    c.loop-l.invariant
