use Rattle.std.proofs.Common.{◌≡◌, ◌<◌, ◌^◌, arith}
use Rattle.std.proofs.lemmas.Bool.{false≢true}
use Rattle.outside_io.proofs.NumberLemmas.{field_begins, one_number}
use Rattle.outside_io.proofs.numbers.read_long_number.Goals as goal
use Rattle.outside_io.proofs.numbers.read_long_number.Goals.{else-least-number-via-then-least-number+else-number-greatest}
use Rattle.outside_io.proofs.numbers.read_long_number.Goals.{else-least-number-via-else-least-number}

pub returns-then-not-begins_canonical : goal.returns-then-not-begins_canonical
returns-then-not-begins_canonical c n h =
    let to = h.to in
    let small : n < 2 ^ 64 = omega (arith, to, c.ranges.greatest.fits) in
    false≢true (c.if-not-begins_canonical.ensures.1 (field_begins c.args.field.now n small h.written))

pub returns-else-least-number : goal.returns-else-least-number
returns-else-least-number c n h =
    let from = h.from in
    let to = h.to in
    let small : n < 2 ^ 64 = omega (arith, to, c.ranges.greatest.fits) in
    let read : c.in_ok-number.number < 2 ^ 64 = omega (arith, c.in_ok-number.ensures.0) in
    let same : c.in_ok-number.number ≡ n = one_number c.args.field.now c.in_ok-number.number n read small c.in_ok-number.ensures.1 h.written in
    elim c.else-least-number.branch [
      | else-least-number-via-then-least-number+else-number-greatest w ↦ omega arith
      | else-least-number-via-else-least-number w ↦ omega arith
    ]
