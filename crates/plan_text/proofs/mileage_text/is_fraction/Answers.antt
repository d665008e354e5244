use Rattle.plan_text.proofs.MileageLemmas.{fraction_iff}
use Rattle.plan_text.proofs.mileage_text.is_fraction.Goals as goal

pub returns-then-text-eq6 : goal.returns-then-text-eq6
returns-then-text-eq6 c = fraction_iff c.args.text.now c.are_digits.result c.if-text-eq6.true c.are_digits.ensures
