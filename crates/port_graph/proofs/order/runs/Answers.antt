use Rattle.std.proofs.Common.{List, subst}
use Rattle.std.specs.List.Sorted.{IsPermutation}
use Rattle.port_graph.specs.declared.runs.Join.{Join}
use Rattle.port_graph.proofs.RunOrder.{runs_in_order}
use Rattle.port_graph.proofs.order.runs.Goals as goal

pub returns : goal.returns
returns c =
    rw (c.in_ok-push_joins.ensures, c.in_ok-runs.ensures)
    (runs_in_order c.args.t.now c.order_joins.new.joins.items c.requires.resolved
    (subst (λ (js : List Join). IsPermutation js c.order_joins.new.joins.items) c.requires.joins c.order_joins.ensures.same)
    c.order_joins.ensures.rise)
