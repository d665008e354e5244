use Rattle.std.proofs.Common.{rules, ◌+◌, [], ◌∷◌}
use Rattle.cnf_core.proofs.StepLemmas.{adds_refused, adds_after}
use Rattle.cnf_core.specs.LitOrTruth.{yes, flip, clause_of}
use Rattle.order_int.specs.OrderInt.{int_at_least}
use Rattle.drawing_cnf.proofs.one_node.add_unlike.Goals as goal

pub returns-in_err-add_from : goal.returns-in_err-add_from
returns-in_err-add_from c = adds_refused c.add_from.result c.from_residual.result _ _ (clause_of [] (int_at_least c.args.i.now c.args.k ∷ yes c.args.m ∷ []))
    (clause_of [] (flip (int_at_least c.args.i.now (c.args.k + 1)) ∷ yes c.args.m ∷ [])) 2 c.from_residual.ensures.0 (λ k. search (rules, k)) c.add_from.ensures

pub returns : goal.returns
returns c = adds_after _ c.add_past.result _ _ _ (clause_of [] (int_at_least c.args.i.now c.args.k ∷ yes c.args.m ∷ []))
    (clause_of [] (flip (int_at_least c.args.i.now (c.args.k + 1)) ∷ yes c.args.m ∷ [])) 2 c.in_ok-add_from.ensures c.add_past.ensures
