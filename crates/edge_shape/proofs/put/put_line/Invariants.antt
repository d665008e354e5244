use Rattle.cnf_core.specs.Truths.{assignment}
use Rattle.edge_shape.specs.ReadsLine.{line_bits}
use Rattle.edge_shape.specs.Setting.{set_edge}
use Rattle.edge_shape.proofs.PutLemmas.{IsPutting}
use Rattle.edge_shape.proofs.put.put_line.Given as goal

abbrev pub invariant-loop-x : goal.invariant-loop-x
invariant-loop-x l = IsPutting l.x (set_edge (line_bits l.line) l.e.first l.e.high l.e.width (assignment l.initial.m)) l.initial.m l.m
