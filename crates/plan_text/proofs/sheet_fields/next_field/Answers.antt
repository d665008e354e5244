use Rattle.plan_text.proofs.FormLemmas.{field_at}
use Rattle.plan_text.proofs.sheet_fields.next_field.Goals as goal

pub returns : goal.returns
returns c = field_at c.args.text.now c.in_ok-rest.rest.now c.front_field.result.0.now c.front_field.result.1.now c.in_ok-rest.ensures c.front_field.ensures
