use Rattle.std.proofs.Common.{sym, subst, List, ℕ}
use Rattle.plan_words.specs.OptionValues.{IsSeed}
use Rattle.plan_words.specs.Arguments.{argument_names}
use Rattle.plan_words.proofs.PartLemmas.{one_name, seed_most, seed_taken}
use Rattle.plan_words.proofs.building.seed_of.Goals as goal

pub unreachable-requires : goal.unreachable-requires
unreachable-requires c =
    let names = one_name (argument_names c.args.arguments.now) c.name_at.result.now (seed_most c.args.arguments.now c.requires.sound) c.name_at.ensures in
    let taken = seed_taken c.args.arguments.now c.name_at.result.now c.requires.sound names in
    let P : List ℕ → Type 0 = λ text. IsSeed text taken.0 in
    c.in-None.ensures taken.0 (subst P (sym c.as_str.ensures) taken.1)

pub returns : goal.returns
returns c =
    let P : List ℕ → Type 0 = λ text. IsSeed text c.in-Some.number in (
      c.name_at.result.now,
      one_name (argument_names c.args.arguments.now) c.name_at.result.now (seed_most c.args.arguments.now c.requires.sound)
          c.name_at.ensures,
      subst P c.as_str.ensures c.in-Some.ensures,
    )
