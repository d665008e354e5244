use Rattle.std.proofs.Common.{◌≡◌, ◌∷◌, ◌++◌, subst}
use Rattle.std.specs.Prelude.{codes}
use Rattle.std.specs.Fmt.{decimal}
use Rattle.std.proofs.lemmas.Result.{on_ok_weaker}
use Rattle.plan_core.specs.declared.criterion.Values.{Values}
use Rattle.plan_core.specs.Values.{values_of}
use Rattle.run_draw_front.proofs.FieldLemmas.{four_spaced}
use Rattle.run_draw_front.proofs.trialling.push_measures.Goals as goal

pub returns : goal.returns
returns c =
    let into = c.args.into.now.items in
    let one = c.push_field.new.into.items in
    let two = c.push_number_field.new.into.items in
    let three = c.push_field-2.new.into.items in
    let four = c.push_number_field-2.new.into.items in
    let v = values_of c.args.best.now in
    on_ok_weaker c.push_number_field-2.result (λ last. four_spaced into (codes "height") (decimal v.height) (codes "width") (decimal v.width) one two three four
    c.in_ok-push_field.ensures.ok
    (subst (λ (m : Values). two ≡ one ++ 32 ∷ decimal m.height) c.values-least.ensures c.in_ok-push_number_field.ensures.ok)
    c.in_ok-push_field-2.ensures.ok
    (subst (λ (m : Values). four ≡ three ++ 32 ∷ decimal m.width) c.values-least.ensures last))
    c.push_number_field-2.ensures.ok
