-- What is refused of a file with signals.
use Rattle.std.proofs.Common.{◌≡◌, ◌⊎◌, ℕ, List, refl, sym, ◌∙◌, ap, subst, inl, inr}
use Rattle.plan_core.specs.Graph.{Graph as TrackGraph}
use Rattle.plan_core.specs.declared.topology.Topology.{Topology as Tracks}
use Rattle.plan_core.specs.declared.limits.TheConstants.{MAX_FILE_BYTES}
use Rattle.railml_read.specs.declared.rows.Elem.{Elem}
use Rattle.railml_read.specs.declared.rows.SignalElem.{SignalElem}
use Rattle.railml_read.specs.Signals.{signals_of}
use Rattle.railml_read.proofs.FaultLemmas.{one_tree}
use Rattle.track_order.specs.Order.{EdgeOrder}
use Rattle.plan_objects.specs.declared.fault.SignalWhat.{SignalWhat}
use Rattle.plan_objects.specs.declared.places.SignalPlace.{SignalPlace}
use Rattle.plan_objects.specs.Rows.{station}
use Rattle.plan_objects.specs.Faults.{IsSignalFault}
use Rattle.run_input.specs.declared.fault.RunFault.{RunFault}
use Rattle.run_input.specs.declared.fault.RunFault.TheVariants.{Words, Long, Text, Topology, Graph, Order, Signal, Sheet, Log, ReadFailed}
use Rattle.run_input.specs.declared.input.InputRefusal.TheVariants as refusals
use Rattle.run_input.specs.declared.status.Status.TheVariants.{Refused}
use Rattle.run_input.specs.Fault.{fault_status}
use Rattle.run_input.specs.Input.{IsLong, IsShort}
use Rattle.run_input.specs.Signals.{AreSignalsBeside, HasSignals, HasFaultySignals, HasFaultOfSignal, HasFault, HasSignalStation}
use Rattle.run_input.proofs.InputLemmas.{file_fault_status, short_or_long, one_rows, one_topology, one_graph, station_or_fault}

signal_fault_status : (bytes : List ℕ) (fault : RunFault) → HasFaultOfSignal bytes fault → fault_status fault ≡ Refused
signal_fault_status bytes (Signal what at first) has = refl
signal_fault_status bytes (Words what position) has = absurd has
signal_fault_status bytes (Long input) has = absurd has
signal_fault_status bytes (Text what at) has = absurd has
signal_fault_status bytes (Topology what at first second) has = absurd has
signal_fault_status bytes (Graph fault) has = absurd has
signal_fault_status bytes (Order fault) has = absurd has
signal_fault_status bytes (Sheet what line) has = absurd has
signal_fault_status bytes (Log what line) has = absurd has
signal_fault_status bytes (ReadFailed input) has = absurd has

-- a fault of a file, or of its signals, refuses it
pub fault_refuses : (bytes : List ℕ) (fault : RunFault) → HasFault bytes fault → fault_status fault ≡ Refused
fault_refuses bytes fault (inl has) = file_fault_status bytes fault has
fault_refuses bytes fault (inr has) = signal_fault_status bytes fault has

-- ---- how long the file is

signal_fault_short : (bytes : List ℕ) (fault : RunFault) → HasFaultOfSignal bytes fault → IsShort MAX_FILE_BYTES bytes
signal_fault_short bytes (Signal what at first) has = has.2.has_graph.has_topology.has_rows.few
signal_fault_short bytes (Words what position) has = absurd has
signal_fault_short bytes (Long input) has = absurd has
signal_fault_short bytes (Text what at) has = absurd has
signal_fault_short bytes (Topology what at first second) has = absurd has
signal_fault_short bytes (Graph fault) has = absurd has
signal_fault_short bytes (Order fault) has = absurd has
signal_fault_short bytes (Sheet what line) has = absurd has
signal_fault_short bytes (Log what line) has = absurd has
signal_fault_short bytes (ReadFailed input) has = absurd has

-- a file with a fault of its own or of its signals is too long, which is then the fault, or it isn't
pub fault_short_or_long : (bytes : List ℕ) (fault : RunFault) → HasFault bytes fault →
    (IsLong MAX_FILE_BYTES bytes × (fault ≡ Long 1)) ⊎ IsShort MAX_FILE_BYTES bytes
fault_short_or_long bytes fault (inl has) = short_or_long bytes fault has
fault_short_or_long bytes fault (inr has) = inr (signal_fault_short bytes fault has)

-- ---- a file whose signals have places has no fault

-- the rows, the topology and the signals of the bytes are one
one_beside : (bytes : List ℕ) (g : TrackGraph) (rows others : List Elem) (t u : Tracks) (signals also : List SignalElem) →
    AreSignalsBeside bytes (station rows t g) signals → AreSignalsBeside bytes (station others u g) also →
    (rows ≡ others) × (t ≡ u) × (signals ≡ also)
one_beside bytes g rows others t u signals also a b = (
  one_rows bytes rows others a.has_rows b.has_rows,
  one_topology bytes t u (record {
    rows = rows;
    has_rows = a.has_rows;
    resolves = a.resolves;
  }) (record { rows = others; has_rows = b.has_rows; resolves = b.resolves }),
  (let one = a.gives.are_signals in
      let other = b.gives.are_signals in
      one.found ∙ ap signals_of (one_tree bytes one.tree other.tree one.spells other.spells) ∙ sym other.found),
)

signals_or_faulty : (bytes : List ℕ) (g : TrackGraph) (signals : List SignalElem) (places : List SignalPlace) (what : SignalWhat) (at : ℕ) (first : List ℕ) →
    HasSignals bytes g signals places → HasFaultySignals bytes g what at first → ⊥
signals_or_faulty bytes g signals places what at first has faulty =
    let same = one_beside bytes g faulty.rows has.rows faulty.topology has.topology faulty.signals signals faulty.beside has.beside in
    has.placed.faultless what at first
    (subst (λ (xs : List SignalElem). IsSignalFault (station has.rows has.topology g) xs what at first) same.2
    (subst (λ (t : Tracks). IsSignalFault (station has.rows t g) faulty.signals what at first) same.1
    (subst (λ (rows : List Elem). IsSignalFault (station rows faulty.topology g) faulty.signals what at first) same.0 faulty.fault.holds)))

signals_or_their_fault : (bytes : List ℕ) (g : TrackGraph) (o : EdgeOrder) (signals : List SignalElem) (places : List SignalPlace) (fault : RunFault) →
    HasSignalStation bytes g o signals places → HasFaultOfSignal bytes fault → ⊥
signals_or_their_fault bytes g o signals places (Signal what at first) has h =
    let same : h.0 ≡ g = one_graph bytes h.0 g h.2.has_graph has.has_station.has_graph in
    signals_or_faulty bytes g signals places what at first has.has_signals (subst (λ (x : TrackGraph). HasFaultySignals bytes x what at first) same h.3)
signals_or_their_fault bytes g o signals places (Words what position) has h = absurd h
signals_or_their_fault bytes g o signals places (Long input) has h = absurd h
signals_or_their_fault bytes g o signals places (Text what at) has h = absurd h
signals_or_their_fault bytes g o signals places (Topology what at first second) has h = absurd h
signals_or_their_fault bytes g o signals places (Graph fault) has h = absurd h
signals_or_their_fault bytes g o signals places (Order fault) has h = absurd h
signals_or_their_fault bytes g o signals places (Sheet what line) has h = absurd h
signals_or_their_fault bytes g o signals places (Log what line) has h = absurd h
signals_or_their_fault bytes g o signals places (ReadFailed input) has h = absurd h

pub signals_or_fault : (bytes : List ℕ) (g : TrackGraph) (o : EdgeOrder) (signals : List SignalElem) (places : List SignalPlace) (fault : RunFault) →
    HasSignalStation bytes g o signals places → HasFault bytes fault → ⊥
signals_or_fault bytes g o signals places fault has (inl h) = station_or_fault bytes g o fault has.has_station h
signals_or_fault bytes g o signals places fault has (inr h) = signals_or_their_fault bytes g o signals places fault has h
