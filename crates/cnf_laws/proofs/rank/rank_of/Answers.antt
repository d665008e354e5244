use Rattle.std.proofs.Common.{arith}
use Rattle.cnf_laws.specs.Rank.{comes_before}
use Rattle.cnf_laws.proofs.RankLemmas.{count_next, count_few, rank_of_count, rank_below}
use Rattle.cnf_laws.proofs.rank.rank_of.Goals as goal

pub overflow_add-count : goal.overflow_add-count
overflow_add-count c =
    let so_far = count_few (λ u. comes_before c.args.g.now u c.args.n) c.loop-u.u in
    omega (arith, c.loop-u.invariant, c.one_before-count.ensures.few)

pub loop-u-preserved : goal.loop-u-preserved
loop-u-preserved c =
    let next = count_next (λ u. comes_before c.args.g.now u c.args.n) c.loop-u.u in
    omega (arith, next, c.loop-u.invariant, c.one_before-count.ensures.value)

pub returns-clause-value : goal.returns-clause-value
returns-clause-value c = rank_of_count c.args.g.now c.args.n c.loop-u.u c.loop-u.count c.nodes-end.result c.loop-u-test.false c.loop-u.auto.u-end
    c.nodes-end.ensures.value c.loop-u.invariant

pub returns-clause-within : goal.returns-clause-within
returns-clause-within c =
    let e = rank_of_count c.args.g.now c.args.n c.loop-u.u c.loop-u.count c.nodes-end.result c.loop-u-test.false c.loop-u.auto.u-end c.nodes-end.ensures.value
    c.loop-u.invariant in
    omega (arith, e, rank_below c.args.g.now c.args.n c.requires)
