use Rattle.cnf_core.proofs.StepLemmas.{IsAdding}
use Rattle.order_int.specs.OrderInt.{le_clause, le_clauses}
use Rattle.order_int.proofs.orders.add_order.Given as goal

abbrev pub invariant-loop-k : goal.invariant-loop-k
invariant-loop-k l = IsAdding (le_clause l.a l.b l.plus l.unless) l.fn.f l.f (le_clauses l.a l.b l.plus l.unless) l.k l.end
