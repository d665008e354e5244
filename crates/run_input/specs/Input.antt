-- What the bytes of a railML file are to a run: a station, which is its track graph and the order of its
-- edges, or the first of the faults that are looked for. These are, in this order, that the file is too
-- long, its text's, its topology's, its graph's, and that of the order.
use Rattle.std.specs.Prelude.{◌≡◌, ◌<◌, ◌≤◌, ℕ, List, length}
use Rattle.std.specs.declared.option.Option.{Option}
use Rattle.outside_io.specs.Contents.{Told, IsFileWhereTold}
use Rattle.plan_core.specs.declared.limits.TheConstants.{MAX_FILE_BYTES}
use Rattle.plan_core.specs.declared.topology.Topology.{Topology as Tracks}
use Rattle.plan_core.specs.Graph.{Graph as TrackGraph}
use Rattle.port_graph.specs.TopologyGraph.{IsStationGraphOf, IsGraphFault}
use Rattle.track_order.specs.Order.{EdgeOrder, IsOrderOf}
use Rattle.track_order.specs.Causes.{IsOrderFault}
use Rattle.railml_read.specs.declared.rows.Elem.{Elem}
use Rattle.railml_read.specs.Document.{GivesRows, IsTextFault}
use Rattle.railml_faults.specs.Faults.{IsFirstTopologyFault}
use Rattle.railml_topology.specs.Answers.{ResolvesTo}
use Rattle.run_input.specs.declared.fault.RunFault.{RunFault}
use Rattle.run_input.specs.declared.fault.RunFault.TheVariants.{Words, Long, Text, Topology, Graph, Order, Signal}
use Rattle.run_input.specs.declared.fault.RunFault.TheVariants.{Sheet, Log, ReadFailed}
use Rattle.run_input.specs.declared.input.InputRefusal.{InputRefusal}
use Rattle.run_input.specs.declared.input.InputRefusal.TheVariants as refusals

-- an input has more bytes than the limit of its kind, which for a railML file and a sheet is
-- MAX_FILE_BYTES, and for a log and hinted lines MAX_LOG_BYTES
abbrev pub IsLong : (limit : ℕ) → List ℕ → Type 0
IsLong limit bytes = limit < length bytes

-- an input hasn't more bytes than the limit of its kind
abbrev pub IsShort : (limit : ℕ) → List ℕ → Type 0
IsShort limit bytes = length bytes ≤ limit

-- the file isn't too long, its text has no fault, and these are the rows of the tree that it spells
pub record HasRows (bytes : List ℕ) (rows : List Elem) : Type 0 where
  pub few : IsShort MAX_FILE_BYTES bytes
  pub gives : GivesRows bytes rows

-- the rows have no fault either, and this is their topology
pub record HasTopology (bytes : List ℕ) (t : Tracks) : Type 0 where
  pub rows : List Elem
  pub has_rows : HasRows bytes rows
  pub resolves : ResolvesTo rows t

-- the topology has no fault as a graph either: this is its track graph, and within the limits
pub record HasGraph (bytes : List ℕ) (g : TrackGraph) : Type 0 where
  pub topology : Tracks
  pub has_topology : HasTopology bytes topology
  pub built : IsStationGraphOf topology g

-- nor do two edges lie above each other: this is the graph, and the order of its edges
pub record HasStation (bytes : List ℕ) (g : TrackGraph) (o : EdgeOrder) : Type 0 where
  pub has_graph : HasGraph bytes g
  pub order : IsOrderOf g o

-- the bytes have this fault, and none that is looked for before it; the signals of a file are no part of its station,
-- and their faults none of the file's (`specs/Signals`)
abbrev pub HasFileFault : List ℕ → RunFault → Type 0
HasFileFault bytes (Long input) = (input ≡ 1) × IsLong MAX_FILE_BYTES bytes
HasFileFault bytes (Text what at) = IsShort MAX_FILE_BYTES bytes × IsTextFault bytes what at
HasFileFault bytes (Topology what at first second) = (rows : List Elem) × HasRows bytes rows
    × IsFirstTopologyFault rows what at first second
HasFileFault bytes (Graph fault) = (t : Tracks) × HasTopology bytes t × IsGraphFault t fault
HasFileFault bytes (Order fault) = (g : TrackGraph) × HasGraph bytes g × IsOrderFault g fault
HasFileFault bytes (Words what position) = ⊥
HasFileFault bytes (Signal what at first) = ⊥
HasFileFault bytes (Sheet what line) = ⊥
HasFileFault bytes (Log what line) = ⊥
HasFileFault bytes (ReadFailed input) = ⊥

-- the bytes have some station
abbrev pub HasSomeStation : List ℕ → Type 0
HasSomeStation bytes = (g : TrackGraph) × (o : EdgeOrder) × HasStation bytes g o

-- what an answer without a station says of the bytes
abbrev pub IsRefusal : List ℕ → InputRefusal → Type 0
IsRefusal bytes (refusals.Fault fault) = HasFileFault bytes fault
IsRefusal bytes refusals.Memory = Unit {0}

-- ---- the file of a name

-- the file of this name has this property, or contents aren't told and some bytes have it
abbrev pub IsOfFile : (List ℕ → Type 0) → List ℕ → Option Told → Type 0
IsOfFile P name contents = (bytes : List ℕ) × IsFileWhereTold contents name bytes × P bytes

-- so it has this station
abbrev pub IsStationOf : List ℕ → Option Told → TrackGraph → EdgeOrder → Type 0
IsStationOf name contents g o = IsOfFile (λ bytes. HasStation bytes g o) name contents
