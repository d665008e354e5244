-- A file that has a station has none of the faults; it has one track graph and one fault at most.
use Rattle.std.proofs.Common.{◌≡◌, ◌⊎◌, ℕ, List, refl, sym, ◌∙◌, ap, subst, inl, inr, arith}
use Rattle.plan_core.specs.declared.topology.Topology.{Topology as Tracks}
use Rattle.plan_core.specs.Topology.{IsResolved}
use Rattle.plan_core.specs.declared.limits.TheConstants.{MAX_FILE_BYTES}
use Rattle.plan_core.specs.Graph.{Graph as TrackGraph}
use Rattle.railml_text.specs.declared.fault.TextWhat.{TextWhat}
use Rattle.railml_read.specs.declared.rows.Elem.{Elem}
use Rattle.railml_read.specs.Tree.{XmlTree}
use Rattle.railml_read.specs.Rows.{rows_of}
use Rattle.railml_read.specs.Document.{IsTextFault}
use Rattle.railml_read.proofs.FaultLemmas.{one_tree, one_fault as one_text_fault}
use Rattle.railml_faults.specs.declared.fault.TopologyWhat.{TopologyWhat}
use Rattle.railml_faults.specs.Faults.{IsFirstTopologyFault, HasNoFault}
use Rattle.railml_topology.specs.Resolved.{IsTopologyOf}
use Rattle.railml_faults.proofs.LawLemmas.{one_first_fault}
use Rattle.railml_topology.proofs.OneTopologyLemmas.{one_topology as one_resolved}
use Rattle.railml_topology.proofs.SoundLemmas.{sound as all_sound}
use Rattle.railml_topology.proofs.ResolvedLemmas.{resolved as made_resolved}
use Rattle.port_graph.specs.declared.fault.GraphFault.{GraphFault}
use Rattle.port_graph.specs.TopologyGraph.{IsGraphOf, IsGraphFault}
use Rattle.port_graph.proofs.OneGraph.{one_graph as one_built, graph_or_fault, one_fault as one_of_graph}
use Rattle.track_order.specs.declared.fault.OrderFault.{OrderFault}
use Rattle.track_order.specs.Order.{EdgeOrder}
use Rattle.track_order.specs.Causes.{IsOrderFault}
use Rattle.track_order.proofs.OneOrder.{one_fault as one_of_order, never_both as order_or_fault}
use Rattle.run_input.specs.declared.fault.RunFault.{RunFault}
use Rattle.run_input.specs.declared.fault.RunFault.TheVariants.{Words, Long, Text, Topology, Graph, Order, Signal, Sheet, Log, ReadFailed}
use Rattle.run_input.specs.declared.status.Status.TheVariants.{Refused}
use Rattle.run_input.specs.Fault.{fault_status}
use Rattle.run_input.specs.Input.{IsLong, IsShort, HasRows, HasTopology, HasGraph, HasStation, HasFileFault}
use Rattle.run_input.proofs.FormedRows.{rows_formed}

pub one_rows : (bytes : List ℕ) (a b : List Elem) → HasRows bytes a → HasRows bytes b → a ≡ b
one_rows bytes a b p q =
    let one = p.gives.are_rows in
    let other = q.gives.are_rows in
    one.found ∙ ap (λ (t : XmlTree). rows_of t) (one_tree bytes one.tree other.tree one.spells other.spells) ∙ sym other.found

pub one_topology : (bytes : List ℕ) (t u : Tracks) → HasTopology bytes t → HasTopology bytes u → t ≡ u
one_topology bytes t u a b =
    let P : List Elem → Type 0 = λ rows. IsTopologyOf rows u in
    let same = one_rows bytes b.rows a.rows b.has_rows a.has_rows in
    one_resolved a.rows t u (rows_formed bytes a.rows a.has_rows) a.resolves.faultless a.resolves.is_topology (subst P same b.resolves.is_topology)

is_resolved : (bytes : List ℕ) (t : Tracks) → HasTopology bytes t → IsResolved t
is_resolved bytes t has = made_resolved has.rows t (all_sound has.rows (rows_formed bytes has.rows has.has_rows) has.resolves.faultless)
    has.resolves.is_topology

pub one_graph : (bytes : List ℕ) (g h : TrackGraph) → HasGraph bytes g → HasGraph bytes h → g ≡ h
one_graph bytes g h a b =
    let same = one_topology bytes b.topology a.topology b.has_topology a.has_topology in
    one_built a.topology g h (is_resolved bytes a.topology a.has_topology) a.built.graph (subst (λ (t : Tracks). IsGraphOf t h) same b.built.graph)

-- ---- why a file has no station, as one of five causes

data Cause : Type 0 where
  TooLong : Cause
  OfText : TextWhat → ℕ → Cause
  OfTopology : TopologyWhat → ℕ → List ℕ → List ℕ → Cause
  OfGraph : GraphFault → Cause
  OfOrder : OrderFault → Cause

abbrev HasCause : List ℕ → Cause → Type 0
HasCause bytes TooLong = IsLong MAX_FILE_BYTES bytes
HasCause bytes (OfText what at) = IsShort MAX_FILE_BYTES bytes × IsTextFault bytes what at
HasCause bytes (OfTopology what at first second) = (rows : List Elem) × HasRows bytes rows × IsFirstTopologyFault rows what at first second
HasCause bytes (OfGraph fault) = (t : Tracks) × HasTopology bytes t × IsGraphFault t fault
HasCause bytes (OfOrder fault) = (g : TrackGraph) × HasGraph bytes g × IsOrderFault g fault

-- the fault of a cause
abbrev told : Cause → RunFault
told TooLong = Long 1
told (OfText what at) = Text what at
told (OfTopology what at first second) = Topology what at first second
told (OfGraph fault) = Graph fault
told (OfOrder fault) = Order fault

record Caused (bytes : List ℕ) (fault : RunFault) : Type 0 where
  cause : Cause
  has : HasCause bytes cause
  is : told cause ≡ fault

caused : (bytes : List ℕ) (fault : RunFault) → HasFileFault bytes fault → Caused bytes fault
caused bytes (Long input) h = record { cause = TooLong; has = h.1; is = ap (λ n. Long n) (sym h.0) }
caused bytes (Text what at) h = record { cause = OfText what at; has = h; is = refl }
caused bytes (Topology what at first second) h = record { cause = OfTopology what at first second; has = h; is = refl }
caused bytes (Graph fault) h = record { cause = OfGraph fault; has = h; is = refl }
caused bytes (Order fault) h = record { cause = OfOrder fault; has = h; is = refl }
caused bytes (Words what position) h = absurd h
caused bytes (Signal what at first) h = absurd h
caused bytes (Sheet what line) h = absurd h
caused bytes (Log what line) h = absurd h
caused bytes (ReadFailed input) h = absurd h

-- a file with a cause is too long, which is then the cause, or it isn't
few_or_too_many : (bytes : List ℕ) (cause : Cause) → HasCause bytes cause → (IsLong MAX_FILE_BYTES bytes × (told cause ≡ Long 1)) ⊎ IsShort MAX_FILE_BYTES bytes
few_or_too_many bytes TooLong h = inl (h, refl)
few_or_too_many bytes (OfText what at) h = inr h.0
few_or_too_many bytes (OfTopology what at first second) h = inr h.1.few
few_or_too_many bytes (OfGraph fault) h = inr h.1.has_rows.few
few_or_too_many bytes (OfOrder fault) h = inr h.1.has_topology.has_rows.few

pub short_or_long : (bytes : List ℕ) (fault : RunFault) → HasFileFault bytes fault →
    (IsLong MAX_FILE_BYTES bytes × (fault ≡ Long 1)) ⊎ IsShort MAX_FILE_BYTES bytes
short_or_long bytes fault h =
    let c = caused bytes fault h in
    subst (λ (f : RunFault). (IsLong MAX_FILE_BYTES bytes × (f ≡ Long 1)) ⊎ IsShort MAX_FILE_BYTES bytes) c.is (few_or_too_many bytes c.cause c.has)

-- ---- no cause comes with what stands behind it

too_long : (bytes : List ℕ) → IsLong MAX_FILE_BYTES bytes → IsShort MAX_FILE_BYTES bytes → ⊥
too_long bytes long few = omega arith

-- a file that has these rows isn't too long and has no fault of its text
no_text_cause : (bytes : List ℕ) (rows : List Elem) (what : TextWhat) (at : ℕ) → HasRows bytes rows → IsShort MAX_FILE_BYTES bytes × IsTextFault bytes what at →
    ⊥
no_text_cause bytes rows what at has h = has.gives.sound what at h.1

no_topology_cause : (bytes : List ℕ) (t : Tracks) (what : TopologyWhat) (at : ℕ) (first second : List ℕ) → HasTopology bytes t →
    (rows : List Elem) × HasRows bytes rows × IsFirstTopologyFault rows what at first second → ⊥
no_topology_cause bytes t what at first second has h =
    subst HasNoFault (one_rows bytes has.rows h.0 has.has_rows h.1) has.resolves.faultless what at first second h.2.holds

no_graph_cause : (bytes : List ℕ) (g : TrackGraph) (fault : GraphFault) → HasGraph bytes g → (t : Tracks) × HasTopology bytes t × IsGraphFault t fault → ⊥
no_graph_cause bytes g fault a b =
    let same = one_topology bytes b.0 a.topology b.1 a.has_topology in
    graph_or_fault a.topology g fault (is_resolved bytes a.topology a.has_topology) a.built (subst (λ (t : Tracks). IsGraphFault t fault) same b.2)

no_cause : (bytes : List ℕ) (g : TrackGraph) (o : EdgeOrder) (cause : Cause) → HasStation bytes g o → HasCause bytes cause → ⊥
no_cause bytes g o TooLong has h = too_long bytes h has.has_graph.has_topology.has_rows.few
no_cause bytes g o (OfText what at) has h = no_text_cause bytes has.has_graph.has_topology.rows what at has.has_graph.has_topology.has_rows h
no_cause bytes g o (OfTopology what at a b) has h = no_topology_cause bytes has.has_graph.topology what at a b has.has_graph.has_topology h
no_cause bytes g o (OfGraph fault) has h = no_graph_cause bytes g fault has.has_graph h
no_cause bytes g o (OfOrder fault) has h =
    order_or_fault g o fault has.order (subst (λ (g : TrackGraph). IsOrderFault g fault) (one_graph bytes h.0 g h.1 has.has_graph) h.2)

pub station_or_fault : (bytes : List ℕ) (g : TrackGraph) (o : EdgeOrder) (fault : RunFault) → HasStation bytes g o → HasFileFault bytes fault → ⊥
station_or_fault bytes g o fault has h = let c = caused bytes fault h in no_cause bytes g o c.cause has c.has

-- ---- one cause

one_text_cause : (bytes : List ℕ) (what other : TextWhat) (at place : ℕ) → (what ≡ other) × (at ≡ place) → OfText what at ≡ OfText other place
one_text_cause bytes what other at place (kind, here) = cc

one_topology_cause : (bytes : List ℕ) (rows others : List Elem) (what other : TopologyWhat) (at place : ℕ) (a b c d : List ℕ) → HasRows bytes rows →
    HasRows bytes others → IsFirstTopologyFault rows what at a b → IsFirstTopologyFault others other place c d →
    OfTopology what at a b ≡ OfTopology other place c d
one_topology_cause bytes rows others what other at place a b c d has also h k =
    let P : List Elem → Type 0 = λ xs. IsFirstTopologyFault xs other place c d in
    let here = subst P (one_rows bytes others rows also has) k in
    let same = one_first_fault rows what other at place a b c d (rows_formed bytes rows has) h here in
    let kind = same.0 in
    let place = same.1 in
    let first = same.2 in
    let second = same.3 in
    cc

one_graph_cause : (bytes : List ℕ) (e f : GraphFault) → HasCause bytes (OfGraph e) → HasCause bytes (OfGraph f) → e ≡ f
one_graph_cause bytes e f a b =
    let same = one_topology bytes b.0 a.0 b.1 a.1 in
    one_of_graph a.0 e f (is_resolved bytes a.0 a.1) a.2 (subst (λ (t : Tracks). IsGraphFault t f) same b.2)

one_order_cause : (bytes : List ℕ) (e f : OrderFault) → HasCause bytes (OfOrder e) → HasCause bytes (OfOrder f) → e ≡ f
one_order_cause bytes e f a b = one_of_order a.0 e f a.2 (subst (λ (g : TrackGraph). IsOrderFault g f) (one_graph bytes b.0 a.0 b.1 a.1) b.2)

one_cause : (bytes : List ℕ) (c d : Cause) → HasCause bytes c → HasCause bytes d → c ≡ d
one_cause bytes TooLong TooLong h k = refl
one_cause bytes TooLong (OfText what at) h k = absurd (too_long bytes h k.0)
one_cause bytes TooLong (OfTopology what at a b) h k = absurd (too_long bytes h k.1.few)
one_cause bytes TooLong (OfGraph fault) h k = absurd (too_long bytes h k.1.has_rows.few)
one_cause bytes TooLong (OfOrder fault) h k = absurd (too_long bytes h k.1.has_topology.has_rows.few)
one_cause bytes (OfText what at) TooLong h k = absurd (too_long bytes k h.0)
one_cause bytes (OfText what at) (OfText other place) h k = one_text_cause bytes what other at place (one_text_fault bytes what other at place h.1 k.1)
one_cause bytes (OfText what at) (OfTopology other place a b) h k = absurd (no_text_cause bytes k.0 what at k.1 h)
one_cause bytes (OfText what at) (OfGraph fault) h k = absurd (no_text_cause bytes k.1.rows what at k.1.has_rows h)
one_cause bytes (OfText what at) (OfOrder another) h k = absurd (no_text_cause bytes k.1.has_topology.rows what at k.1.has_topology.has_rows h)
one_cause bytes (OfTopology what at a b) TooLong h k = absurd (too_long bytes k h.1.few)
one_cause bytes (OfTopology what at a b) (OfText other place) h k = absurd (no_text_cause bytes h.0 other place h.1 k)
one_cause bytes (OfTopology what at a b) (OfTopology other place c d) h k = one_topology_cause bytes h.0 k.0 what other at place a b c d h.1 k.1 h.2 k.2
one_cause bytes (OfTopology what at a b) (OfGraph fault) h k = absurd (no_topology_cause bytes k.0 what at a b k.1 h)
one_cause bytes (OfTopology what at a b) (OfOrder another) h k = absurd (no_topology_cause bytes k.1.topology what at a b k.1.has_topology h)
one_cause bytes (OfGraph fault) TooLong h k = absurd (too_long bytes k h.1.has_rows.few)
one_cause bytes (OfGraph fault) (OfText other place) h k = absurd (no_text_cause bytes h.1.rows other place h.1.has_rows k)
one_cause bytes (OfGraph fault) (OfTopology other place a b) h k = absurd (no_topology_cause bytes h.0 other place a b h.1 k)
one_cause bytes (OfGraph fault) (OfGraph another) h k = ap (λ (x : GraphFault). OfGraph x) (one_graph_cause bytes fault another h k)
one_cause bytes (OfGraph fault) (OfOrder another) h k = absurd (no_graph_cause bytes k.0 fault k.1 h)
one_cause bytes (OfOrder fault) TooLong h k = absurd (too_long bytes k h.1.has_topology.has_rows.few)
one_cause bytes (OfOrder fault) (OfText other place) h k = absurd (no_text_cause bytes h.1.has_topology.rows other place h.1.has_topology.has_rows k)
one_cause bytes (OfOrder fault) (OfTopology other place a b) h k = absurd (no_topology_cause bytes h.1.topology other place a b h.1.has_topology k)
one_cause bytes (OfOrder fault) (OfGraph another) h k = absurd (no_graph_cause bytes h.0 another h.1 k)
one_cause bytes (OfOrder fault) (OfOrder another) h k = ap (λ (x : OrderFault). OfOrder x) (one_order_cause bytes fault another h k)

pub one_fault : (bytes : List ℕ) (a b : RunFault) → HasFileFault bytes a → HasFileFault bytes b → a ≡ b
one_fault bytes a b h k =
    let c = caused bytes a h in
    let d = caused bytes b k in
    sym c.is ∙ ap told (one_cause bytes c.cause d.cause c.has d.has) ∙ d.is

-- a file's fault refuses it
pub file_fault_status : (bytes : List ℕ) (fault : RunFault) → HasFileFault bytes fault → fault_status fault ≡ Refused
file_fault_status bytes (Long input) has = refl
file_fault_status bytes (Text what at) has = refl
file_fault_status bytes (Topology what at first second) has = refl
file_fault_status bytes (Graph fault) has = refl
file_fault_status bytes (Order fault) has = refl
file_fault_status bytes (Words what position) has = absurd has
file_fault_status bytes (Signal what at first) has = absurd has
file_fault_status bytes (Sheet what line) has = absurd has
file_fault_status bytes (Log what line) has = absurd has
file_fault_status bytes (ReadFailed input) has = absurd has
