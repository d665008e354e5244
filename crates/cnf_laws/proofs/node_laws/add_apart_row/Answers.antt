use Rattle.std.proofs.Common.{rules}
use Rattle.cnf_laws.proofs.LawCode.{lawing_more, lawing_done, lawing_refused}
use Rattle.cnf_laws.proofs.node_laws.add_apart_row.Goals as goal

pub returns-in_err-add_apart_pair : goal.returns-in_err-add_apart_pair
returns-in_err-add_apart_pair c =
    lawing_refused c.add_apart_pair.result c.from_residual.result _ _ _ _ _ _ _ _ _ _ _ c.from_residual.ensures.0 (λ k. search (rules, k)) c.loop-v-test.true
    c.loop-v.invariant c.add_apart_pair.ensures.adds

pub loop-v-preserved : goal.loop-v-preserved
loop-v-preserved c = lawing_more _ _ _ _ _ _ _ _ _ _ _ _ c.loop-v-test.true c.loop-v.invariant c.in_ok-add_apart_pair.ensures.adds

pub returns : goal.returns
returns c = lawing_done tt _ _ _ _ _ _ _ _ _ _ c.loop-v-test.false c.loop-v.invariant
