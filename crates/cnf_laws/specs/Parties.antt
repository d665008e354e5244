-- What the code's ends of edges, and its edges beside another, stand for.
use Rattle.edge_shape.specs.EdgeVars.{lits_of}
use Rattle.cnf_laws.specs.declared.aligned.EndOf.{EndOf}
use Rattle.cnf_laws.specs.declared.over.SharingEdge.{SharingEdge as EdgeBeside}
use Rattle.cnf_laws.specs.Stands.{SlopeVars, end_slope}
use Rattle.cnf_laws.specs.LawClauses.{SharingEdge, higher}

-- the slope's variables at an end of an edge
abbrev pub slope_of : EndOf → SlopeVars
slope_of a = end_slope a.west (lits_of a.edge.now)

-- an edge's variables, its nodes' columns, and which of its nodes the other edge has
abbrev pub sharing_of : EdgeBeside → SharingEdge
sharing_of e = higher (lits_of e.edge.now) e.west.now e.east.now e.shares_west e.shares_east
