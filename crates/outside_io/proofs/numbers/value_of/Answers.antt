use Rattle.std.proofs.Common.{refl}
use Rattle.plan_core.proofs.OptionFacts.{none_at}
use Rattle.outside_io.proofs.NumberLemmas.{stops, is_whole}
use Rattle.outside_io.proofs.numbers.value_of.Goals as goal

pub returns-in_err-number : goal.returns-in_err-number
returns-in_err-number c =
    none_at c.from_residual.result _ _ c.from_residual.ensures (stops c.args.field.now c.loop-digit.digit-index c.loop-digit.number _
    c.loop-digit-test.true refl c.loop-digit.invariant c.in_err-number.ensures)

pub returns : goal.returns
returns c = is_whole c.args.field.now c.loop-digit.digit-index c.loop-digit.number c.loop-digit-test.false c.requires c.loop-digit.invariant
