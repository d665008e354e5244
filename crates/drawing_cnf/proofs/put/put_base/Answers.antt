use Rattle.std.proofs.Common.{◌∙◌, arith}
use Rattle.drawing_cnf.proofs.put.put_base.Goals as goal

pub returns-clause-later : goal.returns-clause-later
returns-clause-later c = λ y high. c.put_edges.ensures.later y high ∙ c.put_nodes.ensures.later y (omega arith)
