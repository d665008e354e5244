-- The text of a track graph and of the order of its edges.
use Rattle.std.specs.Prelude.{ℕ, Bool, List, [], ◌∷◌, ◌++◌, if◌then◌else◌, codes, length, flat_map}
use Rattle.std.specs.List.{range_with_len}
use Rattle.std.specs.Fmt.{decimal}
use Rattle.plan_core.specs.declared.sides.Compass.{Compass}
use Rattle.plan_core.specs.declared.sides.Compass.TheVariants.{East, West}
use Rattle.plan_core.specs.declared.sides.Side.{Side}
use Rattle.plan_core.specs.declared.sides.Side.TheVariants.{Upper, Lower}
use Rattle.plan_core.specs.Graph.{Graph, Ports, End, Joint, Switch, Crossing, node, edge}
use Rattle.rail_mileage.specs.MetresText.{metres_text}
use Rattle.outside_io.specs.Fields.{line_text}

abbrev pub compass_word : Compass → List ℕ
compass_word East = codes "east"
compass_word West = codes "west"

abbrev pub side_word : Side → List ℕ
side_word Upper = codes "upper"
side_word Lower = codes "lower"

-- what a node is; of a switch also where its legs lie, and the side of its diverging leg
abbrev pub kind_fields : Ports → List (List ℕ)
kind_fields (End edge side) = codes "end" ∷ []
kind_fields (Joint west east) = codes "joint" ∷ []
kind_fields (Switch legs branch trunk straight diverging) = codes "switch" ∷ compass_word legs ∷ side_word branch ∷ []
kind_fields (Crossing west_upper west_lower east_upper east_lower) = codes "crossing" ∷ []

-- number, name, kind and mileage
abbrev pub node_line : Graph → ℕ → List ℕ
node_line g n = line_text (codes "node") (decimal n ∷ (node g n).name
    ∷ (kind_fields (node g n).ports ++ metres_text (node g n).mileage ∷ []))

-- number, track name, west and east node
abbrev pub edge_line : Graph → ℕ → List ℕ
edge_line g e = line_text (codes "edge") (decimal e ∷ (edge g e).track ∷ decimal (edge g e).west
    ∷ decimal (edge g e).east ∷ [])

-- a line where e is above f, and none otherwise
abbrev pub above_line : (ℕ → ℕ → Bool) → ℕ → ℕ → List ℕ
above_line above e f = if above e f then line_text (codes "above") (decimal e ∷ decimal f ∷ []) else []

-- a line for each edge that e is above, by number
abbrev pub above_lines : (ℕ → ℕ → Bool) → ℕ → ℕ → List ℕ
above_lines above edges e = flat_map (above_line above e) (range_with_len 0 edges)

-- how many nodes there are, and each; how many edges, and each
abbrev pub nodes_text : Graph → List ℕ
nodes_text g = line_text (codes "nodes") (decimal (length g.nodes) ∷ [])
    ++ flat_map (node_line g) (range_with_len 0 (length g.nodes))

abbrev pub edges_text : Graph → List ℕ
edges_text g = line_text (codes "edges") (decimal (length g.edges) ∷ [])
    ++ flat_map (edge_line g) (range_with_len 0 (length g.edges))

-- each two edges of which the first is above the second
abbrev pub order_text : (ℕ → ℕ → Bool) → ℕ → List ℕ
order_text above edges = flat_map (above_lines above edges) (range_with_len 0 edges)

-- the first line; how many nodes there are, and each by number; how many edges, and each by number; and a
-- line for each two edges of which the first is above the second
abbrev pub graph_text : Graph → (ℕ → ℕ → Bool) → List ℕ
graph_text g above = codes "railgraph 1\n" ++ (nodes_text g ++ (edges_text g ++ order_text above (length g.edges)))
