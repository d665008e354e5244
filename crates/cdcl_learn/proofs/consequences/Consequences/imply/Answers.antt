use Rattle.std.proofs.Common.{◌∙◌, List, Bool, true, set, ap}
use Rattle.cdcl_learn.proofs.ShorterLemmas.{implied_set}
use Rattle.cdcl_learn.proofs.consequences.Consequences.imply.Goals as goal

pub returns : goal.returns
returns c = implied_set c.self.inside.round c.self.inside.implied.items c.args.v.0 ∙ ap (λ (bs : List Bool). set bs c.args.v.0 true) c.self.view_is
