use Rattle.std.proofs.Common.{rules, arith, ◌<◌, ◌+◌, length}
use Rattle.cnf_laws.proofs.PairCode.{pairing_more, pairing_done, pairing_refused, pair_within_at}
use Rattle.cnf_laws.proofs.aligned.add_pairs.Goals as goal

pub add_clause-requires-clause-within : goal.add_clause-requires-clause-within
add_clause-requires-clause-within c =
    let vars = c.loop-list.invariant.vars in
    rw vars (pair_within_at c.args.f.now.vars c.args.lists.now c.loop-list.list-index c.list-item.result c.requires.within
    (omega (arith, c.loop-list-test.true)) c.list-item.is).0

pub returns-in_err-add_clause : goal.returns-in_err-add_clause
returns-in_err-add_clause c =
    let lt : c.loop-list.list-index < length c.args.lists.now = omega (arith, c.loop-list-test.true) in
    let short = (pair_within_at c.args.f.now.vars c.args.lists.now c.loop-list.list-index c.list-item.result c.requires.within lt c.list-item.is).1 in
    pairing_refused c.add_clause.result c.from_residual.result c.args.unless.now c.args.f.now c.loop-list.f c.add_clause.new.self c.args.lists.now
    c.loop-list.list-index (length c.args.unless.now + length c.list-item.result) (length c.args.unless.now + 2) c.list-item.result c.from_residual.ensures.0
    (λ k. search (rules, k)) (omega (arith, short)) lt c.list-item.is c.loop-list.invariant c.add_clause.ensures.adds

pub loop-list-preserved : goal.loop-list-preserved
loop-list-preserved c =
    let lt : c.loop-list.list-index < length c.args.lists.now = omega (arith, c.loop-list-test.true) in
    pairing_more _ c.args.unless.now c.args.f.now c.loop-list.f c.add_clause.new.self c.args.lists.now c.loop-list.list-index _ c.list-item.result lt
    c.list-item.is c.loop-list.invariant c.in_ok-add_clause.ensures.adds

pub returns : goal.returns
returns c = pairing_done tt _ _ _ _ _ _ (omega (arith, c.loop-list-test.false)) c.loop-list.invariant
