-- Why a run ends with one fault line: the line, and the status. Each fault's number and word are those of its
-- own crate.
use Rattle.std.specs.Prelude.{◌≡◌, ℕ, List, [], ◌∷◌, ◌++◌, codes}
use Rattle.std.specs.Fmt.{decimal}
use Rattle.outside_io.specs.Fields.{line_text}
use Rattle.plan_words.specs.WordFaults as word_faults
use Rattle.rail_mileage.specs.MetresText.{metres_text}
use Rattle.railml_text.specs.Faults as text_faults
use Rattle.railml_faults.specs.declared.fault.TopologyWhat.{TopologyWhat}
use Rattle.railml_faults.specs.declared.fault.TopologyWhat.TheVariants as topologies
use Rattle.railml_faults.specs.Faults as topology_faults
use Rattle.port_graph.specs.declared.fault.GraphFault.{GraphFault}
use Rattle.port_graph.specs.declared.fault.GraphFault.TheVariants as graphs
use Rattle.port_graph.specs.TopologyGraph as graph_faults
use Rattle.track_order.specs.declared.fault.OrderFault.{OrderFault}
use Rattle.track_order.specs.declared.fault.OrderFault.TheVariants as orders
use Rattle.track_order.specs.Causes as order_faults
use Rattle.plan_objects.specs.declared.fault.SignalWhat.{SignalWhat}
use Rattle.plan_objects.specs.declared.fault.SignalWhat.TheVariants as signals
use Rattle.plan_objects.specs.Faults as signal_faults
use Rattle.plan_text.specs.SheetWhats as sheet_faults
use Rattle.refute_log.specs.Faults as log_faults
use Rattle.run_input.specs.declared.status.Status.{Status}
use Rattle.run_input.specs.declared.status.Status.TheVariants.{Refused, WordsRefused, Unread}
use Rattle.run_input.specs.declared.fault.RunFault.{RunFault}
use Rattle.run_input.specs.declared.fault.RunFault.TheVariants.{Words, Long, Text, Topology, Graph, Order, Signal}
use Rattle.run_input.specs.declared.fault.RunFault.TheVariants.{Sheet, Log, ReadFailed}

-- ---- what a fault tells

-- the place where it was found
abbrev pub at_place : ℕ → List (List ℕ)
at_place at = codes "at" ∷ decimal at ∷ []

-- of a topology's fault the texts that its kind tells, of the two that it may have
abbrev pub texts_told : TopologyWhat → List ℕ → List ℕ → List (List ℕ)
texts_told topologies.NoTracks first second = []
texts_told topologies.TooMany first second = []
texts_told topologies.Missing first second = first ∷ []
texts_told topologies.Id first second = []
texts_told topologies.RepeatedId first second = first ∷ []
texts_told topologies.Number first second = first ∷ second ∷ []
texts_told topologies.UnknownRef first second = first ∷ []
texts_told topologies.NotMutual first second = first ∷ second ∷ []
texts_told topologies.SelfRef first second = first ∷ []
texts_told topologies.EndKind first second = first ∷ []
texts_told topologies.Course first second = first ∷ []
texts_told topologies.Orientation first second = first ∷ []
texts_told topologies.OutsideTrack first second = first ∷ []

-- of a graph's fault a count, or a track and the mileage, or a node's name; want of memory is never told
abbrev pub graph_told : GraphFault → List (List ℕ)
graph_told (graphs.TooManyNodes count) = decimal count ∷ []
graph_told (graphs.TooManyEdges count) = decimal count ∷ []
graph_told (graphs.NotForward edge track mileage) = track ∷ metres_text mileage.0 ∷ []
graph_told (graphs.SideMismatch node name) = name ∷ []
graph_told graphs.Memory = []

-- of the order's fault both edges
abbrev pub edges_told : OrderFault → List (List ℕ)
edges_told (orders.Contradicts e f) = decimal e.0 ∷ decimal f.0 ∷ []
edges_told orders.Memory = []

-- of a signal's fault the text that its kind tells: an attribute's name, or the signal's id
abbrev pub signal_told : SignalWhat → List ℕ → List (List ℕ)
signal_told signals.TooMany first = []
signal_told signals.Missing first = first ∷ []
signal_told signals.Id first = []
signal_told signals.RepeatedId first = first ∷ []
signal_told signals.Number first = first ∷ []
signal_told signals.OutsideTrack first = first ∷ []
signal_told signals.Crowded first = first ∷ []

-- ---- the line

-- a fault's table, its number there, its word, and what it tells
abbrev pub told_line : List ℕ → ℕ → List ℕ → List (List ℕ) → List ℕ
told_line table number word told = line_text table (decimal number ∷ word ∷ told)

-- the line of each fault of a run: the number and the word that it has in its own crate, and what it tells;
-- that of an input that is too long or couldn't be read has the input's number alone
abbrev pub fault_line : RunFault → List ℕ
fault_line (Words what position) = told_line (codes "words") (word_faults.number_of what) (word_faults.word_of what)
    (decimal position ∷ [])
fault_line (Long input) = line_text (codes "long") (decimal input ∷ [])
fault_line (Text what at) = told_line (codes "text") (text_faults.number_of what) (text_faults.word_of what)
    (at_place at)
fault_line (Topology what at first second) =
    told_line (codes "topology") (topology_faults.number_of what) (topology_faults.word_of what)
    (at_place at ++ texts_told what first second)
fault_line (Graph fault) = told_line (codes "graph") (graph_faults.number_of fault) (graph_faults.word_of fault)
    (graph_told fault)
fault_line (Order fault) = told_line (codes "order") (order_faults.number_of fault) (order_faults.word_of fault)
    (edges_told fault)
fault_line (Signal what at first) =
    told_line (codes "signal") (signal_faults.number_of what) (signal_faults.word_of what)
    (at_place at ++ signal_told what first)
fault_line (Sheet what line) = told_line (codes "sheet") (sheet_faults.number_of what) (sheet_faults.word_of what)
    (codes "line" ∷ decimal line ∷ [])
fault_line (Log what line) = told_line (codes "log") (log_faults.number_of what) (log_faults.word_of what)
    (codes "line" ∷ decimal line ∷ [])
fault_line (ReadFailed input) = line_text (codes "read failed") (decimal input ∷ [])

-- ---- the status

-- the status of each fault of a run
abbrev pub fault_status : RunFault → Status
fault_status (Words what position) = WordsRefused
fault_status (Long input) = Refused
fault_status (Text what at) = Refused
fault_status (Topology what at first second) = Refused
fault_status (Graph fault) = Refused
fault_status (Order fault) = Refused
fault_status (Signal what at first) = Refused
fault_status (Sheet what line) = Refused
fault_status (Log what line) = Refused
fault_status (ReadFailed input) = Unread

-- the fault's status and its line
pub record IsFaultLine (fault : RunFault) (status : Status) (text : List ℕ) : Type 0 where
  pub status_is : status ≡ fault_status fault
  pub line_is : text ≡ fault_line fault
