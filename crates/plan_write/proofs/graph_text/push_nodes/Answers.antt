use Rattle.plan_write.proofs.PictureLineLemmas.{begins_more}
use Rattle.plan_write.proofs.graph_text.push_nodes.Goals as goal

pub returns-clause-begins : goal.returns-clause-begins
returns-clause-begins c = begins_more _ _ _ c.push_count_line.ensures.begins c.push_node_lines.ensures.begins
