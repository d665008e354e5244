use Rattle.plan_text.proofs.MileageLemmas.{minus_iff, plain_iff}
use Rattle.plan_text.proofs.mileage_text.is_mileage.Goals as goal

pub returns-in-Some : goal.returns-in-Some
returns-in-Some c = minus_iff c.args.field.now c.in-Some.size.now c.is_size.result c.in-Some.ensures c.is_size.ensures

pub returns-in-None : goal.returns-in-None
returns-in-None c = plain_iff c.args.field.now c.is_size-in-None.result c.in-None.ensures c.is_size-in-None.ensures
