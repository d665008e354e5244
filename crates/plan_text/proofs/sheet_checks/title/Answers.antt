use Rattle.std.proofs.Common.{refl}
use Rattle.plan_text.proofs.CheckLemmas.{no_title}
use Rattle.plan_text.proofs.sheet_checks.title.Goals as goal

pub returns-in-None : goal.returns-in-None
returns-in-None c = λ g before needs_drawing. (refl, no_title c.args.text.now c.in_default.ensures c.in-None.ensures needs_drawing)
