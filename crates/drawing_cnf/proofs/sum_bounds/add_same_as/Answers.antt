use Rattle.std.proofs.Common.{rules, [], ◌∷◌}
use Rattle.cnf_core.proofs.StepLemmas.{adds_refused, adds_after}
use Rattle.cnf_core.specs.LitOrTruth.{yes, flip, clause_of}
use Rattle.drawing_cnf.proofs.sum_bounds.add_same_as.Goals as goal

pub returns-in_err-add_given : goal.returns-in_err-add_given
returns-in_err-add_given c =
    let b = c.args.b in
    let t = c.args.t.now in
    adds_refused c.add_given.result c.from_residual.result _ _ (clause_of [] (flip (yes b) ∷ t ∷ [])) (clause_of [] (flip t ∷ yes b ∷ [])) 2
    c.from_residual.ensures.0 (λ k. search (rules, k)) (c.add_given.ensures)

pub returns : goal.returns
returns c =
    let b = c.args.b in
    let t = c.args.t.now in
    adds_after _ c.add_giving.result _ _ _ (clause_of [] (flip (yes b) ∷ t ∷ [])) (clause_of [] (flip t ∷ yes b ∷ [])) 2 (c.in_ok-add_given.ensures)
    (c.add_giving.ensures)
