use Rattle.std.proofs.Common.{refl, subst, sym}
use Rattle.std.proofs.lemmas.Bool.{false≢true}
use Rattle.refute_log.proofs.ReadingLemmas.{no_form_at_field, no_form_at_end, read_more, read_wrong, all_right}
use Rattle.refute_log.specs.LineForm.{IsNumber}
use Rattle.refute_log.proofs.LawLemmas.{literal_is_number}
use Rattle.refute_log.proofs.literals.read_literals.Goals as goal

pub returns-then-not-is_number-clause-fault : goal.returns-then-not-is_number-clause-fault
returns-then-not-is_number-clause-fault c = (
  refl,
  no_form_at_field c.args.text.now c.loop-field.rest.now c.in-Some.field.now c.in-Some.after.now c.loop-field.right c.loop-field.literals.items
      c.loop-field.invariant c.in-Some.ensures (λ n. false≢true (c.if-not-is_number.ensures.1 n)),
)

pub loop-field-preserved-else-not-is_number : goal.loop-field-preserved-else-not-is_number
loop-field-preserved-else-not-is_number c =
    let wrong = rw c.if-not-branch.true at c.in_ok-add_literal.ensures in
    read_wrong c.args.text.now c.loop-field.rest.now c.in-Some.field.now c.in-Some.after.now c.loop-field.right c.loop-field.literals.items
    c.add_literal.new.literals.items c.loop-field.invariant c.in-Some.ensures (c.if-not-is_number.ensures.0 refl) wrong

pub loop-field-preserved : goal.loop-field-preserved
loop-field-preserved c =
    let right = rw c.if-not-branch.false at c.in_ok-add_literal.ensures in
    let number = subst IsNumber (sym right.spelled) (literal_is_number right.literal right.there.1) in
    read_more c.args.text.now c.loop-field.rest.now c.in-Some.field.now c.in-Some.after.now c.loop-field.right c.loop-field.literals.items
    c.add_literal.new.literals.items c.loop-field.invariant c.in-Some.ensures number right

pub returns-then-not-is_end-clause-fault : goal.returns-then-not-is_end-clause-fault
returns-then-not-is_end-clause-fault c = (
  refl,
  no_form_at_end c.args.text.now c.loop-field.rest.now c.loop-field.right c.loop-field.literals.items c.loop-field.invariant c.in_default.ensures
      (λ e. false≢true (c.if-not-is_end.ensures.1 e)),
)

pub returns-clause-literals : goal.returns-clause-literals
returns-clause-literals c =
    all_right c.args.text.now c.loop-field.rest.now c.loop-field.right c.loop-field.literals.items c.loop-field.invariant (c.if-not-is_end.ensures.0 refl)
    c.if-not-right.false
