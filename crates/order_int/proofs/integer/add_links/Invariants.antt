use Rattle.cnf_core.specs.Formula.{each}
use Rattle.cnf_core.proofs.StepLemmas.{IsAdding}
use Rattle.order_int.specs.OrderInt.{link}
use Rattle.order_int.proofs.integer.add_links.Given as goal

abbrev pub invariant-loop-x : goal.invariant-loop-x
invariant-loop-x l = IsAdding link l.fn.f l.f (each link l.first l.n) l.x l.end
