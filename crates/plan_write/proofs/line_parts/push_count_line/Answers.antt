use Rattle.plan_write.proofs.PictureLineLemmas.{begins_more}
use Rattle.plan_write.proofs.line_parts.push_count_line.Goals as goal

pub returns-clause-begins : goal.returns-clause-begins
returns-clause-begins c = begins_more _ _ _ (begins_more _ _ _ c.push_text.ensures.begins c.push_number_field.ensures.begins) c.push_text-2.ensures.begins
