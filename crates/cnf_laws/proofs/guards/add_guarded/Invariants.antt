use Rattle.cnf_core.proofs.StepLemmas.{IsAdding}
use Rattle.cnf_laws.specs.Guards.{guards, guarded_clause, guarded_order}
use Rattle.cnf_laws.proofs.guards.add_guarded.Given as goal

abbrev pub invariant-loop-k : goal.invariant-loop-k
invariant-loop-k l =
    let g = guards l.g.first l.g.second l.g.third l.g.fourth l.g.fifth in
    IsAdding (guarded_clause l.a l.b l.plus g l.unless) l.fn.f l.f (guarded_order l.a l.b l.plus g l.unless) l.k l.end
