use Rattle.std.proofs.Common.{◌≡◌, ℕ, ◌++◌, map, drop}
use Rattle.std.specs.List.{enumerate_from}
use Rattle.plan_core.specs.declared.topology.Inner.{Inner}
use Rattle.port_graph.specs.Sites.{inner_site, inner_sites}
use Rattle.port_graph.proofs.listing.push_inner_sites.Given as goal

abbrev pub invariant-loop-place : goal.invariant-loop-place
invariant-loop-place l = l.sites.items ++ map (λ (ix : ℕ × Inner). inner_site l.t l.number ix.0 ix.1) (enumerate_from l.place (drop l.place l.inner-items))
    ≡ l.fn.sites.items ++ inner_sites l.t l.number l.track
