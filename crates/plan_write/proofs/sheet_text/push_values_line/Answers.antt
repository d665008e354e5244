use Rattle.std.specs.Prelude.{◌≡◌, [], ◌∷◌, ◌++◌, codes}
use Rattle.std.specs.Fmt.{decimal}
use Rattle.std.proofs.lemmas.Result.{on_ok_weaker}
use Rattle.plan_write.proofs.LineLemmas.{line_in_two}
use Rattle.plan_write.proofs.sheet_text.push_values_line.Goals as goal

pub returns-clause-ok : goal.returns-clause-ok
returns-clause-ok c =
    let v = c.args.v in
    on_ok_weaker c.push_text-2.result
    (λ (last : c.push_text-2.new.into.items ≡ c.push_pair-2.new.into.items ++ codes "\n").
    line_in_two (codes "values") (decimal v.height ∷ decimal v.bends ∷ []) (decimal v.diagonal ∷ decimal v.width ∷ [])
    c.args.into.now.items c.push_text.new.into.items c.push_pair.new.into.items c.push_pair-2.new.into.items c.push_text-2.new.into.items
    c.in_ok-push_text.ensures.ok c.in_ok-push_pair.ensures.ok c.in_ok-push_pair-2.ensures.ok last)
    c.push_text-2.ensures.ok
