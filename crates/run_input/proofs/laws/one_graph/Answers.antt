use Rattle.run_input.proofs.InputLemmas.{one_graph}
use Rattle.run_input.proofs.laws.one_graph.Goals as goal

pub returns : goal.returns
returns c = one_graph
