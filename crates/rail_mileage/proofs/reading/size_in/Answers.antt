use Rattle.std.proofs.Common.{◌<◌, ◌+◌, ◌*◌, ◌^◌, arith}
use Rattle.rail_mileage.proofs.Digits.{size_below}
use Rattle.rail_mileage.proofs.reading.size_in.Goals as goal

pub returns-clause-short : goal.returns-clause-short
returns-clause-short c = rw (c.number_of.ensures.value, c.number_of-2.ensures.value, c.pow-unit.ensures)
    (size_below c.args.whole.now c.args.fraction.now c.requires.whole_digits c.requires.fraction_digits c.requires.whole_limit c.requires.fraction_limit)

pub overflow_add-result : goal.overflow_add-result
overflow_add-result c =
    let small : c.number_of.result * 1000000 + c.number_of-2.result * c.pow-unit.result < 10 ^ 15 = rw
    (c.number_of.ensures.value, c.number_of-2.ensures.value, c.pow-unit.ensures) (size_below c.args.whole.now c.args.fraction.now c.requires.whole_digits
    c.requires.fraction_digits c.requires.whole_limit c.requires.fraction_limit) in
    omega (arith, small)
