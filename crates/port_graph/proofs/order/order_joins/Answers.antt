use Rattle.std.proofs.Common.{rules}
use Rattle.std.proofs.lemmas.List.Sorted.{IsNonDecreasingBy-from_sort_by_key}
use Rattle.port_graph.specs.declared.runs.Join.{Join}
use Rattle.port_graph.proofs.order.order_joins.Goals as goal

pub returns-clause-rise : goal.returns-clause-rise
returns-clause-rise c = IsNonDecreasingBy-from_sort_by_key (λ (j : Join). j.at) _ c.sort_unstable_by_key.ensures.sorted (λ a r q k. search rules)
