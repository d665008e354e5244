use Rattle.std.proofs.Common.{arith, sym}
use Rattle.std.proofs.lemmas.Int.Digits.{digits_value_more}
use Rattle.railml_text.proofs.ReferenceLemmas.{number_room}
use Rattle.railml_text.proofs.references.number_of.Goals as goal

pub overflow_mul-number : goal.overflow_mul-number
overflow_mul-number c =
    rw c.loop-d.invariant (omega (
      arith,
      number_room c.args.base c.args.digits.now c.loop-d.d-index c.requires.base c.requires.few c.requires.each
          c.loop-d-test.true,
    ))

pub overflow_add-number : goal.overflow_add-number
overflow_add-number c =
    rw (c.loop-d.invariant, c.digit_of.ensures) (omega (
      arith,
      number_room c.args.base c.args.digits.now c.loop-d.d-index c.requires.base c.requires.few
          c.requires.each c.loop-d-test.true,
    ))

pub loop-d-preserved : goal.loop-d-preserved
loop-d-preserved c = rw (c.loop-d.invariant, c.digit_of.ensures) (sym (digits_value_more c.args.base c.args.digits.now c.loop-d.d-index c.loop-d-test.true))
