use Rattle.cnf_core.proofs.StepLemmas.{IsAdding}
use Rattle.edge_shape.specs.EdgeVars.{lits_of}
use Rattle.cnf_laws.specs.LawClauses.{higher, higher_column, higher_clauses}
use Rattle.cnf_laws.proofs.over.add_over.Given as goal

abbrev pub invariant-loop-c : goal.invariant-loop-c
invariant-loop-c l =
    let h = higher (lits_of l.e.edge.now) l.e.west.now l.e.east.now l.e.shares_west l.e.shares_east in
    IsAdding (higher_column h (lits_of l.g) l.guard l.unless) l.fn.f l.f (higher_clauses h (lits_of l.g) l.width l.guard l.unless) l.c l.end
