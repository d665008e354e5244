use Rattle.std.proofs.Common.{◌∙◌, ap, ◌++◌, ◌∷◌, arith, List, ℕ}
use Rattle.plan_write.proofs.OrderWords.{one_word_more}
use Rattle.plan_write.proofs.PictureLineLemmas.{begins_more}
use Rattle.plan_write.proofs.sheet_text.push_criteria.Goals as goal

pub loop-i-preserved : goal.loop-i-preserved
loop-i-preserved c = record {
  begins = begins_more c.args.into.now.items c.loop-i.into.items c.push_field.new.into.items c.loop-i.invariant.begins c.push_field.ensures.begins;
  left =
      one_word_more c.args.order.now c.loop-i.i c.get.result c.loop-i.into.items c.push_field.new.into.items _ (omega arith) c.get.ensures
      (c.in_ok-push_field.ensures.ok ∙ ap (λ (xs : List ℕ). c.loop-i.into.items ++ (32 ∷ xs))
      (c.as_bytes.ensures.value ∙ c.criterion_word.ensures)) c.loop-i.invariant.left;
}

pub returns-in_err-push_field-clause-begins : goal.returns-in_err-push_field-clause-begins
returns-in_err-push_field-clause-begins c = begins_more c.args.into.now.items c.loop-i.into.items c.push_field.new.into.items c.loop-i.invariant.begins
    c.push_field.ensures.begins
