-- Where an element stands on the path to the elements that are selected.
use Rattle.std.specs.Prelude.{ℕ, if◌then◌else◌, codes, List, bytes_eq}
use Rattle.railml_read.specs.declared.rows.ElemKind.{ElemKind}
use Rattle.railml_read.specs.declared.rows.ElemKind.TheVariants.{Track, Topology, Begin, End, Switch, Crossing}
use Rattle.railml_read.specs.declared.rows.ElemKind.TheVariants.{Connection, OpenEnd, BufferStop, MacroNode}
use Rattle.railml_read.specs.declared.contexts.Context.{Context}
use Rattle.railml_read.specs.declared.contexts.Context.TheVariants.{Outside, Railml, Infrastructure, Tracks}
use Rattle.railml_read.specs.declared.contexts.Context.TheVariants.{Connections, OcsElements, Signals, Signal}
use Rattle.railml_read.specs.declared.contexts.Context.TheVariants.{Selected, Skipped}

-- where a child of this name stands below a track's begin or end
abbrev pub below_end : List ℕ → Context
below_end name =
    if bytes_eq name (codes "connection") then Selected Connection
    else if bytes_eq name (codes "openEnd") then Selected OpenEnd
    else if bytes_eq name (codes "bufferStop") then Selected BufferStop
    else if bytes_eq name (codes "macroscopicNode") then Selected MacroNode
    else Skipped

-- where a child of this name stands below a selected element
abbrev pub below_selected : ElemKind → List ℕ → Context
below_selected Track name =
    if bytes_eq name (codes "trackTopology") then Selected Topology
    else if bytes_eq name (codes "ocsElements") then OcsElements
    else Skipped
below_selected Topology name =
    if bytes_eq name (codes "trackBegin") then Selected Begin
    else if bytes_eq name (codes "trackEnd") then Selected End
    else if bytes_eq name (codes "connections") then Connections
    else Skipped
below_selected Begin name = below_end name
below_selected End name = below_end name
below_selected Switch name = if bytes_eq name (codes "connection") then Selected Connection else Skipped
below_selected Crossing name = if bytes_eq name (codes "connection") then Selected Connection else Skipped
below_selected kind name = Skipped

-- where an element of this name stands whose parent stands here; the root's parent stands outside. Names
-- with a prefix are other names, and off the path everything is skipped whole
abbrev pub below : Context → List ℕ → Context
below Outside name =
    if bytes_eq name (codes "railml") then Railml
    else if bytes_eq name (codes "infrastructure") then Infrastructure
    else Skipped
below Railml name = if bytes_eq name (codes "infrastructure") then Infrastructure else Skipped
below Infrastructure name = if bytes_eq name (codes "tracks") then Tracks else Skipped
below Tracks name = if bytes_eq name (codes "track") then Selected Track else Skipped
below Connections name =
    if bytes_eq name (codes "switch") then Selected Switch
    else if bytes_eq name (codes "crossing") then Selected Crossing
    else Skipped
below OcsElements name = if bytes_eq name (codes "signals") then Signals else Skipped
below Signals name = if bytes_eq name (codes "signal") then Signal else Skipped
below Signal name = Skipped
below (Selected kind) name = below_selected kind name
below Skipped name = Skipped
