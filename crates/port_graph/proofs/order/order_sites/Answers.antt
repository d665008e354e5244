use Rattle.std.proofs.Common.{rules}
use Rattle.std.proofs.lemmas.List.Sorted.{IsNonDecreasingBy-from_sort_by_key}
use Rattle.port_graph.specs.declared.sites.Site.{Site}
use Rattle.port_graph.proofs.order.order_sites.Goals as goal

pub returns-clause-rise : goal.returns-clause-rise
returns-clause-rise c = IsNonDecreasingBy-from_sort_by_key (λ (s : Site). s.spot.at) _ c.sort_unstable_by_key.ensures.sorted (λ a r q k. search rules)
