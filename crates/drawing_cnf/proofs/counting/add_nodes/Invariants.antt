use Rattle.std.proofs.Common.{◌≡◌, ◌+◌}
use Rattle.cnf_core.proofs.StepLemmas.{IsAdding}
use Rattle.drawing_cnf.specs.Moved.{matched_before}
use Rattle.drawing_cnf.specs.MovedClauses.{clauses_at, nodes_clauses}
use Rattle.drawing_cnf.specs.Nodes.{node_at}
use Rattle.drawing_cnf.proofs.counting.add_nodes.Given as goal

abbrev pub invariant-loop-k : goal.invariant-loop-k
invariant-loop-k l = record {
  adding : IsAdding (clauses_at (node_at l.nodes) l.former l.first) l.fn.f l.f (nodes_clauses (node_at l.nodes) l.former l.first) l.k l.end;
  next : l.m ≡ l.first + matched_before l.former l.k;
  vars : l.f.vars ≡ l.fn.f.vars;
}
