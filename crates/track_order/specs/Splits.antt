-- What is reached from the two edges of each fork, as rows. Only private contracts cite this.
use Rattle.std.specs.Prelude.{ℕ, ◌<◌, List, length, take, flat_map, Contains}
use Rattle.plan_core.specs.Graph.{Graph, Node}
use Rattle.track_order.specs.declared.splitting.Split.{Split}
use Rattle.track_order.specs.Above.{Fork, forks}
use Rattle.track_order.specs.Tables.{IsMarked}
use Rattle.track_order.specs.Filling.{IsReachRow}

-- the rows of what is reached from the upper and from the lower edge of the fork
pub record IsSplit (g : Graph) (k : Fork) (s : Split) : Type 0 where
  pub upper : IsReachRow g k.way k.upper s.upper
  pub lower : IsReachRow g k.way k.lower s.lower

-- a split for each fork, and no others
pub record AreSplits (g : Graph) (of : List Fork) (splits : List Split) : Type 0 where
  pub each : (k : Fork) → Contains of k → (s : Split) × Contains splits s × IsSplit g k s
  pub no_other : (s : Split) → Contains splits s → (k : Fork) × Contains of k × IsSplit g k s

-- the forks of the first n nodes
abbrev pub forks_before : Graph → ℕ → List Fork
forks_before g n = flat_map (λ (x : Node). forks x.ports) (take n g.nodes)

-- the split has entries for e and f
pub record IsFitting (s : Split) (e f : ℕ) : Type 0 where
  pub e_upper : e < length s.upper
  pub e_lower : e < length s.lower
  pub f_upper : f < length s.upper
  pub f_lower : f < length s.lower

-- e is reached from the upper edge alone, and f from the lower one alone
pub record IsSplitBy (s : Split) (e f : ℕ) : Type 0 where
  pub e_upper : IsMarked s.upper e
  pub e_lower : IsMarked s.lower e → ⊥
  pub f_lower : IsMarked s.lower f
  pub f_upper : IsMarked s.upper f → ⊥
