-- What every drawing is, whatever its graph.
use Rattle.std.specs.Prelude.{◌≡◌, ◌≤◌, true, length, All}
use Rattle.plan_core.specs.declared.limits.TheConstants.{MAX_NODES, MAX_EDGES}
use Rattle.plan_core.specs.Line.{is_line}
use Rattle.plan_core.specs.Drawing.{Drawing}

-- lines for at most 160 edges, between points for at most 128 nodes
pub record IsWithinLimits (d : Drawing) : Type 0 where
  pub nodes : length d.places ≤ MAX_NODES
  pub edges : length d.lines ≤ MAX_EDGES
  pub are_lines : All (λ l. is_line l ≡ true) d.lines
