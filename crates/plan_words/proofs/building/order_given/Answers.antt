use Rattle.std.proofs.Common.{sym, subst, List, ℕ}
use Rattle.plan_words.specs.OptionValues.{IsOrderText}
use Rattle.plan_words.specs.declared.option_values.OptionWord.TheVariants.{Criteria}
use Rattle.plan_words.proofs.PartLemmas.{taken_one}
use Rattle.plan_words.proofs.building.order_given.Goals as goal

pub unreachable-requires : goal.unreachable-requires
unreachable-requires c =
    let taken = taken_one c.args.arguments.now Criteria c.in-Some.text.now c.requires (sym c.in-Some.ensures) in
    let P : List ℕ → Type 0 = λ text. IsOrderText text taken.0 in
    c.in-None-order_in.ensures taken.0 (subst P (sym c.as_str.ensures) taken.1)
