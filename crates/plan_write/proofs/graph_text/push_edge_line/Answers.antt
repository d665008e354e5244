use Rattle.std.proofs.Common.{rules, append_assoc}
use Rattle.plan_write.proofs.graph_text.push_edge_line.Goals as goal

pub returns-clause-ok : goal.returns-clause-ok
returns-clause-ok c = search (rules, append_assoc)
