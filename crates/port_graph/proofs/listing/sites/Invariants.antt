use Rattle.std.proofs.Common.{◌≡◌, ℕ, ◌++◌, drop}
use Rattle.std.specs.List.{enumerate_from, flat_map}
use Rattle.plan_core.specs.declared.topology.Track.{Track}
use Rattle.port_graph.specs.Sites.{track_sites, sites}
use Rattle.port_graph.proofs.listing.sites.Given as goal

abbrev pub invariant-loop-number : goal.invariant-loop-number
invariant-loop-number l = l.sites.items ++ flat_map (λ (kt : ℕ × Track). track_sites l.t kt.0 kt.1) (enumerate_from l.number (drop l.number l.track-items))
    ≡ sites l.t
