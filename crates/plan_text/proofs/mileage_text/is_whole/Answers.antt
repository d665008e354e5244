use Rattle.plan_text.proofs.MileageLemmas.{whole_iff}
use Rattle.plan_text.proofs.mileage_text.is_whole.Goals as goal

pub returns : goal.returns
returns c = whole_iff c.args.text.now c.read_long_number.result c.is_some.result c.read_long_number.ensures c.is_some.ensures
