-- Which edge is above which.
--
-- Where two edges leave a node on one side, the upper one and all that is reached from it alone lie above
-- the lower one and all that is reached from it alone, as far as they overlap.
use Rattle.std.specs.Prelude.{ℕ, ◌<◌, List, [], ◌∷◌, length, Contains}
use Rattle.plan_core.specs.declared.sides.Compass.{Compass}
use Rattle.plan_core.specs.declared.sides.Compass.TheVariants.{East, West}
use Rattle.plan_core.specs.declared.sides.Side.{Side}
use Rattle.plan_core.specs.declared.sides.Side.TheVariants.{Upper, Lower}
use Rattle.plan_core.specs.Graph.{Graph, Ports, End, Joint, Switch, Crossing, node, Overlap}
use Rattle.track_order.specs.Reach.{Reaches}

-- two edges on one side of a node
pub record Fork : Type 0 where
  pub way : Compass
  pub upper : ℕ
  pub lower : ℕ

abbrev pub fork : Compass → ℕ → ℕ → Fork
fork way upper lower = record { way = way; upper = upper; lower = lower }

-- the legs of a switch: the diverging one lies on the branch's side of the straight one
abbrev pub leg_fork : Compass → Side → (straight diverging : ℕ) → Fork
leg_fork legs Upper straight diverging = fork legs diverging straight
leg_fork legs Lower straight diverging = fork legs straight diverging

-- the two legs of a switch, and the two edges on each side of a crossing
abbrev pub forks : Ports → List Fork
forks (End e side) = []
forks (Joint west east) = []
forks (Switch legs branch trunk straight diverging) = leg_fork legs branch straight diverging ∷ []
forks (Crossing west_upper west_lower east_upper east_lower) =
    fork West west_upper west_lower ∷ fork East east_upper east_lower ∷ []

-- e is reached from the one and not from the other
pub record IsReachedAlone (g : Graph) (way : Compass) (one other e : ℕ) : Type 0 where
  pub reached : Reaches g way one e
  pub alone : Reaches g way other e → ⊥

-- the fork parts e from f, and they overlap
pub record ForkParts (g : Graph) (k : Fork) (e f : ℕ) : Type 0 where
  pub first : IsReachedAlone g k.way k.upper k.lower e
  pub second : IsReachedAlone g k.way k.lower k.upper f
  pub overlap : Overlap g e f

-- a fork of some node has e on its upper and f on its lower side. No edge is above itself, proved by
-- no_edge_is_above_itself; seen from the other end, what was above is below, proved by order_turns_round
pub record Above (g : Graph) (e f : ℕ) : Type 0 where
  pub at : ℕ
  pub there : at < length g.nodes
  pub fork : Fork
  pub among : Contains (forks (node g at).ports) fork
  pub parts : ForkParts g fork e f

-- each is above the other, so no drawing can be lawful
pub record Contradicts (g : Graph) (e f : ℕ) : Type 0 where
  pub over : Above g e f
  pub under : Above g f e
