use Rattle.std.proofs.Common.{arith}
use Rattle.std.proofs.lemmas.List.{take_all}
use Rattle.rail_mileage.proofs.Digits.{one_more, digits_below}
use Rattle.rail_mileage.proofs.reading.number_of.Goals as goal

pub overflow_mul-number : goal.overflow_mul-number
overflow_mul-number c =
    let more = one_more c.args.digits.now c.loop-digit.number c.loop-digit.digit-index c.requires.are_digits c.requires.few c.loop-digit-test.true
    c.loop-digit.invariant in
    omega (arith, more.below)

pub overflow_add-number : goal.overflow_add-number
overflow_add-number c =
    let more = one_more c.args.digits.now c.loop-digit.number c.loop-digit.digit-index c.requires.are_digits c.requires.few c.loop-digit-test.true
    c.loop-digit.invariant in
    omega (arith, more.below, more.first, more.last)

pub loop-digit-preserved : goal.loop-digit-preserved
loop-digit-preserved c = (one_more c.args.digits.now c.loop-digit.number c.loop-digit.digit-index c.requires.are_digits c.requires.few c.loop-digit-test.true
    c.loop-digit.invariant).value

pub returns-clause-short : goal.returns-clause-short
returns-clause-short c = rw (c.loop-digit.invariant, take_all c.loop-digit.digit-index c.args.digits.now c.loop-digit-test.false)
    (digits_below c.args.digits.now _ c.requires.are_digits (omega arith))
