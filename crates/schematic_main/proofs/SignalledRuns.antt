-- How a whole run of signals ends. The signals of a file have one list of places.
use Rattle.std.proofs.Common.{◌≡◌, ◌≢◌, ℕ, List, None, sym, ◌∙◌, ap, subst, inl, inr, lit<}
use Rattle.std.specs.Prelude.{⊤}
use Rattle.std.specs.declared.option.Option.{Option}
use Rattle.plan_core.specs.declared.criterion.Criterion.{Criterion}
use Rattle.plan_core.specs.Grid.{GridSize}
use Rattle.plan_core.specs.Graph.{Graph}
use Rattle.track_order.specs.Order.{EdgeOrder}
use Rattle.plan_core.specs.declared.topology.Topology.{Topology as Tracks}
use Rattle.railml_read.specs.declared.rows.Elem.{Elem}
use Rattle.railml_read.specs.declared.rows.SignalElem.{SignalElem}
use Rattle.railml_read.specs.Signals.{signals_of}
use Rattle.railml_read.proofs.FaultLemmas.{one_tree}
use Rattle.plan_objects.specs.declared.places.SignalPlace.{SignalPlace}
use Rattle.plan_objects.specs.Rows.{station, ArePlacesOf}
use Rattle.plan_objects.proofs.PlaceLemmas.{one_list}
use Rattle.plan_words.specs.declared.command.Command.TheVariants.{Signals}
use Rattle.refute_log.specs.Told.{Lines}
use Rattle.run_input.specs.declared.status.Status.{Status}
use Rattle.run_input.specs.Signals.{HasSignalStation, IsSignalStationOf}
use Rattle.run_input.specs.Met.{Met}
use Rattle.run_input.specs.Answer.{text_input, IsAnswerAfter}
use Rattle.run_input.proofs.FormedRows.{rows_formed}
use Rattle.run_input.proofs.InputLemmas.{one_rows, one_topology, one_graph}
use Rattle.run_input.proofs.SignalLemmas.{signals_or_fault}
use Rattle.run_check.proofs.RecheckedLemmas.{of_station}
use Rattle.run_draw_front.specs.Drawn.{Job, job}
use Rattle.run_draw_front.specs.Signalled.{job_for, IsSignalFileJudged}
use Rattle.schematic_main.specs.Commands.{Owes}
use Rattle.schematic_main.specs.Run.{FailsIn}
use Rattle.schematic_main.specs.So.{grid_for}
use Rattle.schematic_main.specs.SearchedRuns.{EndsExactly}
use Rattle.schematic_main.proofs.CertifiedRuns.{bytes_answered}
use Rattle.schematic_main.proofs.SearchEnds.{best_ends}

-- the places of a file's signals are one list
pub one_places : (bytes : List ℕ) (g h : Graph) (o p : EdgeOrder) (signals others : List SignalElem) (places also : List SignalPlace) →
    HasSignalStation bytes g o signals places → HasSignalStation bytes h p others also → also ≡ places
one_places bytes g h o p signals others places also a b =
    let x = a.has_signals in
    let y = b.has_signals in
    let graph : h ≡ g = one_graph bytes h g b.has_station.has_graph a.has_station.has_graph in
    let rows : y.rows ≡ x.rows = one_rows bytes y.rows x.rows y.beside.has_rows x.beside.has_rows in
    let tracks : y.topology ≡ x.topology = one_topology bytes y.topology x.topology
    (record { rows = y.rows; has_rows = y.beside.has_rows; resolves = y.beside.resolves })
    (record { rows = x.rows; has_rows = x.beside.has_rows; resolves = x.beside.resolves }) in
    let one = y.beside.gives.are_signals in
    let other = x.beside.gives.are_signals in
    let list : others ≡ signals = one.found ∙ ap signals_of (one_tree bytes one.tree other.tree one.spells other.spells) ∙ sym other.found in
    let by_graph : ArePlacesOf (station y.rows y.topology g) others also =
    subst (λ (z : Graph). ArePlacesOf (station y.rows y.topology z) others also) graph y.placed.are in
    let by_rows : ArePlacesOf (station x.rows y.topology g) others also =
    subst (λ (z : List Elem). ArePlacesOf (station z y.topology g) others also) rows by_graph in
    let by_tracks : ArePlacesOf (station x.rows x.topology g) others also =
    subst (λ (z : Tracks). ArePlacesOf (station x.rows z g) others also) tracks by_rows in
    let placed : ArePlacesOf (station x.rows x.topology g) signals also =
    subst (λ (z : List SignalElem). ArePlacesOf (station x.rows x.topology g) z also) list by_tracks in
    one_list (station x.rows x.topology g) (rows_formed bytes x.rows x.beside.has_rows) signals also places placed x.placed.are

signals_end : (asked : Job) (met : Met) (traced : Lines → Type 0) (bytes : List ℕ) (g : Graph) (o : EdgeOrder) (signals : List SignalElem)
    (places : List SignalPlace) (status : Status) (text : List ℕ) → HasSignalStation bytes g o signals places →
    IsSignalFileJudged asked met traced bytes status text → EndsExactly g o (grid_for places asked.grid) status
signals_end asked met traced bytes g o signals places status text has (inl a) =
    let drawn = a.signalled.answer.drawn in
    let ends : EndsExactly a.graph a.order (grid_for a.places asked.grid) status =
    best_ends a.graph a.order (job_for a.places asked) drawn.outcome drawn.searched.lines status drawn.searched.ended drawn.status_is in
    of_station (λ h p. EndsExactly h p (grid_for places asked.grid) status) bytes g a.graph o a.order has.has_station a.has.has_station
    (subst (λ (ps : List SignalPlace). EndsExactly a.graph a.order (grid_for ps asked.grid) status)
    (one_places bytes g a.graph o a.order signals a.signals places a.places has a.has) ends)
signals_end asked met traced bytes g o signals places status text has (inr refused) = absurd
    (signals_or_fault bytes g o signals places refused.fault has refused.has)

pub signalled_run : (input : List ℕ) (grid : GridSize) (order : List Criterion) (budget : ℕ) (log : Option (List ℕ)) (met : Met) (g : Graph) (o : EdgeOrder)
    (signals : List SignalElem) (places : List SignalPlace) (status : Status) (text : List ℕ) → met.before.contents ≢ None →
    IsSignalStationOf input met.before.contents g o signals places → (FailsIn (Signals input grid order budget log) met → ⊥) →
    Owes (Signals input grid order budget log) met (λ lines. ⊤) status text → EndsExactly g o (grid_for places grid) status
signalled_run input grid order budget log met g o signals places status text told (bytes, is, has) read owes =
    let traced : Lines → Type 0 = λ lines. ⊤ in
    let asked = job grid order budget None log in
    let few = has.has_station.has_graph.has_topology.has_rows.few in
    let first = bytes_answered (text_input 1 input) 0 met bytes (IsAnswerAfter 1 met (IsSignalFileJudged asked met traced)) status text told is few
    (λ fails. read (0, lit< tt, fails)) owes in
    signals_end asked met traced bytes g o signals places status text has first.1
