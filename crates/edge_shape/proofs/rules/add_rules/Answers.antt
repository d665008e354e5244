use Rattle.std.proofs.Common.{rules, arith, ◌<◌, length}
use Rattle.edge_shape.proofs.RuleCode.{listing_more, listing_done, listing_refused, within_at}
use Rattle.edge_shape.proofs.rules.add_rules.Goals as goal

pub add_rule-requires-clause-premises : goal.add_rule-requires-clause-premises
add_rule-requires-clause-premises c =
    let vars = c.loop-r.invariant.vars in
    rw vars (within_at c.args.f.now.vars c.args.rules.now c.loop-r.r-index c.r-item.result c.requires.within (omega (arith, c.loop-r-test.true))
    c.r-item.is).premises

pub add_rule-requires-clause-conclusions : goal.add_rule-requires-clause-conclusions
add_rule-requires-clause-conclusions c =
    let vars = c.loop-r.invariant.vars in
    rw vars (within_at c.args.f.now.vars c.args.rules.now c.loop-r.r-index c.r-item.result c.requires.within (omega (arith, c.loop-r-test.true))
    c.r-item.is).conclusions

pub returns-in_err-add_rule : goal.returns-in_err-add_rule
returns-in_err-add_rule c =
    let lt : c.loop-r.r-index < length c.args.rules.now = omega (arith, c.loop-r-test.true) in
    let short = (within_at c.args.f.now.vars c.args.rules.now c.loop-r.r-index c.r-item.result c.requires.within lt c.r-item.is).few in
    listing_refused c.add_rule.result c.from_residual.result c.args.f.now c.loop-r.f c.add_rule.new.self c.args.rules.now c.loop-r.r-index
    _ 5 c.r-item.result c.from_residual.ensures.0 (λ k. search (rules, k)) (omega (arith, short)) lt c.r-item.is
    c.loop-r.invariant c.add_rule.ensures.adds

pub loop-r-preserved : goal.loop-r-preserved
loop-r-preserved c =
    let lt : c.loop-r.r-index < length c.args.rules.now = omega (arith, c.loop-r-test.true) in
    listing_more _ c.args.f.now c.loop-r.f c.add_rule.new.self c.args.rules.now c.loop-r.r-index _ c.r-item.result lt c.r-item.is
    c.loop-r.invariant c.in_ok-add_rule.ensures.adds

pub returns : goal.returns
returns c = listing_done tt _ _ _ _ _ (omega (arith, c.loop-r-test.false)) c.loop-r.invariant
