use Rattle.std.proofs.Common.{rules}
use Rattle.std.proofs.lemmas.Iterator.{YieldsList-from_chars}
use Rattle.std.proofs.lemmas.Iterator.Search.{all_from_yields_List}
use Rattle.plan_core.specs.Topology.{is_id_character}
use Rattle.plan_core.proofs.ids.has_id_characters.Goals as goal

pub returns : goal.returns
returns c = all_from_yields_List is_id_character _ _ _ c.all.ensures.ran (YieldsList-from_chars c.args.text.now c.utf8.text c.chars.ensures.rest)
    (λ x b q k. search rules)
