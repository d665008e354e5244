use Rattle.std.proofs.Common.{rules, append_assoc}
use Rattle.std.proofs.lemmas.Grind.{flat_map-append}
use Rattle.plan_write.proofs.sheet_text.push_node_line.Goals as goal

pub returns-clause-ok : goal.returns-clause-ok
returns-clause-ok c = search (rules, append_assoc, flat_map-append)
