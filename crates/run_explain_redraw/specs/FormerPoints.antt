-- Where the nodes of a graph stood in a former drawing, which is one of a former graph: a node stood where the node of
-- its name stands there.
use Rattle.std.specs.Prelude.{◌≡◌, ◌≢◌, ℕ, ◌<◌, List, None, Some, length}
use Rattle.std.specs.declared.option.Option.{Option}
use Rattle.plan_core.specs.declared.point.Point.{Point}
use Rattle.plan_core.specs.Graph.{Graph, node}
use Rattle.plan_core.specs.Drawing.{Drawing, place}
use Rattle.drawing_cnf.specs.Moved.{Former, former_at}

-- it is the point of the former graph's node of this name, where there is one
abbrev pub IsPointOf : (old : Graph) → Drawing → (name : List ℕ) → Option Point → Type 0
IsPointOf old d name (Some p) =
    (m : ℕ) × (m < length old.nodes) × ((node old m).name ≡ name) × (p ≡ place d m)
IsPointOf old d name None = (m : ℕ) → m < length old.nodes → (node old m).name ≢ name

-- there is an entry for each node of the graph, by number: its former point, where it has one
pub record AreFormer (g old : Graph) (d : Drawing) (former : Former) : Type 0 where
  pub same : length former ≡ length g.nodes
  pub each : (n : ℕ) → n < length g.nodes → IsPointOf old d (node g n).name (former_at former n)
