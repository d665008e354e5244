use Rattle.plan_write.proofs.PictureLineLemmas.{begins_more}
use Rattle.plan_write.proofs.graph_text.push_two.Goals as goal

pub returns-clause-begins : goal.returns-clause-begins
returns-clause-begins c = begins_more _ _ _ (begins_more _ _ _ c.push_number_field.ensures.begins c.push_number_field-2.ensures.begins)
    c.push_text.ensures.begins
