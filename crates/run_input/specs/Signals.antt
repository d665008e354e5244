-- What the signals of a file are to a run: their places along its track graph, or the first of their faults. They are
-- looked at where the file has a station; so each fault of the file comes before theirs.
use Rattle.std.specs.Prelude.{◌≡◌, ◌⊎◌, ℕ, List}
use Rattle.std.specs.declared.option.Option.{Option}
use Rattle.outside_io.specs.Contents.{Told}
use Rattle.plan_core.specs.declared.topology.Topology.{Topology as Tracks}
use Rattle.plan_core.specs.Graph.{Graph as TrackGraph}
use Rattle.railml_read.specs.declared.rows.Elem.{Elem}
use Rattle.railml_read.specs.declared.rows.SignalElem.{SignalElem}
use Rattle.railml_read.specs.Signals.{GivesSignals}
use Rattle.railml_topology.specs.Answers.{ResolvesTo}
use Rattle.port_graph.specs.TopologyGraph.{IsStationGraphOf}
use Rattle.track_order.specs.Order.{EdgeOrder}
use Rattle.plan_objects.specs.declared.fault.SignalWhat.{SignalWhat}
use Rattle.plan_objects.specs.declared.places.SignalPlace.{SignalPlace}
use Rattle.plan_objects.specs.Rows.{Station, station}
use Rattle.plan_objects.specs.Faults.{IsFirstSignalFault}
use Rattle.plan_objects.specs.Answers.{ArePlaced}
use Rattle.run_input.specs.declared.fault.RunFault.{RunFault}
use Rattle.run_input.specs.declared.fault.RunFault.TheVariants.{Signal, ReadFailed}
use Rattle.run_input.specs.declared.input.InputRefusal.{InputRefusal}
use Rattle.run_input.specs.declared.input.InputRefusal.TheVariants as refusals
use Rattle.run_input.specs.Input.{HasRows, HasStation, HasFileFault, IsOfFile}
use Rattle.run_input.specs.Met.{Met, HasRead, ReadFails}

-- the rows of the bytes, their topology and its track graph, and the signals that the same bytes give
pub record AreSignalsBeside (bytes : List ℕ) (s : Station) (signals : List SignalElem) : Type 0 where
  pub has_rows : HasRows bytes s.rows
  pub resolves : ResolvesTo s.rows s.topology
  pub built : IsStationGraphOf s.topology s.graph
  pub gives : GivesSignals bytes signals

-- nothing is wrong with the signals of the bytes, and these are their places along this graph
pub record HasSignals (bytes : List ℕ) (g : TrackGraph) (signals : List SignalElem) (places : List SignalPlace) : Type 0
  where
    pub rows : List Elem
    pub topology : Tracks
    pub beside : AreSignalsBeside bytes (station rows topology g) signals
    pub placed : ArePlaced (station rows topology g) signals places

-- the signals of the bytes have this fault along this graph, and none that is looked for before it
pub record HasFaultySignals (bytes : List ℕ) (g : TrackGraph) (what : SignalWhat) (at : ℕ) (first : List ℕ) : Type 0
  where
    pub rows : List Elem
    pub topology : Tracks
    pub signals : List SignalElem
    pub beside : AreSignalsBeside bytes (station rows topology g) signals
    pub fault : IsFirstSignalFault (station rows topology g) signals what at first

-- the bytes have a station, and their signals have this fault
abbrev pub HasFaultOfSignal : List ℕ → RunFault → Type 0
HasFaultOfSignal bytes (Signal what at first) = (g : TrackGraph) × (o : EdgeOrder) × HasStation bytes g o
    × HasFaultySignals bytes g what at first
HasFaultOfSignal bytes fault = ⊥

-- the bytes have this fault, or their signals have it
abbrev pub HasFault : List ℕ → RunFault → Type 0
HasFault bytes fault = HasFileFault bytes fault ⊎ HasFaultOfSignal bytes fault

-- the bytes have this station, and these signals with these places
pub record HasSignalStation (bytes : List ℕ) (g : TrackGraph) (o : EdgeOrder) (signals : List SignalElem)
    (places : List SignalPlace) : Type 0 where
  pub has_station : HasStation bytes g o
  pub has_signals : HasSignals bytes g signals places

-- what an answer without such a station says of the bytes
abbrev pub IsSignalRefusal : List ℕ → InputRefusal → Type 0
IsSignalRefusal bytes (refusals.Fault fault) = HasFault bytes fault
IsSignalRefusal bytes refusals.Memory = Unit {0}

-- ---- the file of a name

-- the file of this name has this station and these signals, or contents aren't told and some bytes have them
abbrev pub IsSignalStationOf : List ℕ → Option Told → TrackGraph → EdgeOrder → List SignalElem → List SignalPlace →
    Type 0
IsSignalStationOf name contents g o signals places =
    IsOfFile (λ bytes. HasSignalStation bytes g o signals places) name contents

-- the file was read and it or its signals have this fault, or it couldn't be read
abbrev pub IsSignalRefusalOf : List ℕ → Met → InputRefusal → Type 0
IsSignalRefusalOf name met (refusals.Fault fault) =
    (IsOfFile (λ bytes. HasFault bytes fault) name met.before.contents × HasRead met 1)
    ⊎ (ReadFails met 0 × (fault ≡ ReadFailed 1))
IsSignalRefusalOf name met refusals.Memory = Unit {0}
