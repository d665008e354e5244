-- What signals answers, from what the steps of draw give.
use Rattle.std.proofs.Common.{◌≡◌, ◌≢◌, ◌⊎◌, ℕ, ◌<◌, ◌≤◌, List, [], ◌∷◌, ◌++◌, None, Some, length, refl, sym, ◌∙◌, ap, subst, inl, inr, arith}
use Rattle.std.specs.Prelude.{false, All, IfSome}
use Rattle.std.specs.declared.option.Option.{Option}
use Rattle.outside_io.specs.Contents.{Told, FilesAt, WhereTold, SameFiles}
use Rattle.plan_core.specs.declared.limits.TheConstants.{MAX_FILE_BYTES}
use Rattle.plan_core.specs.Grid.{GridSize, grid_with}
use Rattle.plan_core.specs.Graph.{Graph}
use Rattle.plan_core.specs.Drawing.{Drawing}
use Rattle.plan_core.specs.Lawful.{Lawful}
use Rattle.railml_read.specs.declared.rows.SignalElem.{SignalElem}
use Rattle.track_order.specs.Order.{EdgeOrder, is_above}
use Rattle.plan_text.specs.SheetText.{sheet_text}
use Rattle.plan_text.specs.SheetFaults.{IsSheetText}
use Rattle.plan_objects.specs.declared.places.SignalPlace.{SignalPlace}
use Rattle.plan_objects.specs.Places.{no_place, need_of}
use Rattle.plan_objects.specs.Spread.{HasRoomFor}
use Rattle.plan_objects.specs.SignalsText.{line_under}
use Rattle.plan_objects.specs.Rows.{station}
use Rattle.plan_objects.proofs.RoomLemmas.{room_in_lawful}
use Rattle.plan_objects.proofs.SpreadLemmas.{spread_at}
use Rattle.plan_objects.proofs.PlaceLemmas.{as_many}
use Rattle.refute_log.specs.Told.{Lines}
use Rattle.search_least.specs.declared.outcome.Outcome.{Outcome}
use Rattle.search_least.specs.declared.outcome.Outcome.TheVariants as outcomes
use Rattle.search_least.specs.Outcome.{IsOutcome}
use Rattle.run_input.specs.declared.status.Status.{Status}
use Rattle.run_input.specs.Input.{IsShort}
use Rattle.run_input.specs.declared.fault.RunFault.{RunFault}
use Rattle.run_input.specs.declared.fault.RunFault.TheVariants.{ReadFailed}
use Rattle.run_input.specs.declared.input.InputRefusal.{InputRefusal}
use Rattle.run_input.specs.declared.input.InputRefusal.TheVariants as refusals
use Rattle.run_input.specs.Fault.{IsFaultLine}
use Rattle.run_input.specs.Met.{Met, between, HasRead, IsUnwritten, LeftSo}
use Rattle.run_input.specs.Answer.{text_input, IsAnswerAfter, IsAnswerOn}
use Rattle.run_input.specs.Signals.{HasFault, IsSignalStationOf, IsSignalRefusalOf}
use Rattle.run_input.proofs.FormedRows.{rows_formed}
use Rattle.run_input.proofs.SignalLemmas.{fault_short_or_long}
use Rattle.refute_log.specs.FileLog.{BeginsLog}
use Rattle.run_input.specs.Written.{file_named}
use Rattle.run_input.specs.SearchLog.{TellsIfNew, IsRunLog}
use Rattle.run_input.proofs.DerivesLemmas.{tells_weaker}
use Rattle.run_draw_front.specs.Pictured.{IsPictured}
use Rattle.run_draw_front.specs.Drawn.{Job, job, search_of, sheet_of, found_by, status_of, HasSearched, IsDrawAnswer, IsLeftOfDraw}
use Rattle.run_draw_front.specs.Signalled.{job_for, signals_behind, StandApart, IsSignalled, IsSignalAnswer, IsSignalFileJudged, HasReadSignals}
use Rattle.run_draw_front.specs.Signalled.{IsLeftBySignals, SignalsMayTell}
use Rattle.run_input.proofs.LeavesLemmas.{leaves_weaker, leaves_later, NamedMay}
use Rattle.run_draw_front.proofs.AfterReadLemmas.{searched_later}

-- ---- room for the signals

-- what is asked has the least length that the signals need
pub least_is_need : (places : List SignalPlace) (asked : Job) → job_for places asked ≡ asked → need_of places ≤ asked.grid.least
least_is_need places asked same = let is : need_of places ≡ asked.grid.least = ap (λ (j : Job). j.grid.least) same in omega (arith, is)

room_on : (g : Graph) (o : EdgeOrder) (asked : Job) (places : List SignalPlace) (d : Drawing) → Lawful g (is_above o) asked.grid d →
    need_of places ≤ asked.grid.least → All (λ (p : SignalPlace). p.edge.0 < length g.edges) places →
    (i : ℕ) → i < length places → HasRoomFor places d i
room_on g o asked places d lawful enough drawn i there = room_in_lawful places g (is_above o) asked.grid d i lawful enough (drawn i no_place there)

-- the drawing that was found has room for each of them
pub found_has_room : (g : Graph) (o : EdgeOrder) (asked : Job) (places : List SignalPlace) (outcome : Outcome) (lines : Lines) →
    IsOutcome (search_of g o asked) asked.order outcome lines → need_of places ≤ asked.grid.least →
    All (λ (p : SignalPlace). p.edge.0 < length g.edges) places → IfSome (found_by outcome) (λ d. (i : ℕ) → i < length places → HasRoomFor places d i)
found_has_room g o asked places (outcomes.Best d) lines ended enough drawn = room_on g o asked places d ended.lawful enough drawn
found_has_room g o asked places outcomes.NoDrawing lines ended enough drawn = tt
found_has_room g o asked places (outcomes.Spent None settled) lines ended enough drawn = tt
found_has_room g o asked places (outcomes.Spent (Some d) settled) lines ended enough drawn = room_on g o asked places d ended.lawful enough drawn
found_has_room g o asked places (outcomes.Room None settled) lines ended enough drawn = tt
found_has_room g o asked places (outcomes.Room (Some d) settled) lines ended enough drawn = room_on g o asked places d ended.lawful enough drawn

-- there are as many places as signals
pub as_many_places : (name : List ℕ) (contents : Option Told) (g : Graph) (o : EdgeOrder) (signals : List SignalElem) (places : List SignalPlace) →
    IsSignalStationOf name contents g o signals places → length signals ≡ length places
as_many_places name contents g o signals places (bytes, is, has) =
    let found = has.has_signals in
    as_many (station found.rows found.topology g) signals places (rows_formed bytes found.rows found.beside.has_rows) found.placed.are

-- what is asked of the search, where its grid is the one for the signals
pub longer_is : (places : List SignalPlace) (inside asked : Job) (grid : GridSize) → inside ≡ asked →
    grid ≡ grid_with inside.grid.width inside.grid.height (need_of places) →
    job grid inside.order inside.budget inside.svg inside.log ≡ job_for places asked
longer_is places inside asked grid same is = ap (λ (g : GridSize). job g inside.order inside.budget inside.svg inside.log) is
    ∙ ap (λ (j : Job). job_for places j) same

-- ---- the answer

-- the parts of an answer to what is asked
abbrev HasSignalled : (met : Met) → (traced : Lines → Type 0) → Graph → EdgeOrder → List SignalElem → List SignalPlace → Status → List ℕ → Job → Type 0
HasSignalled met traced g o signals places status text asked =
    (sheet : List ℕ) × (answer : IsDrawAnswer asked met traced g o status sheet) ×
    (text ≡ sheet ++ signals_behind signals places (found_by answer.drawn.outcome))

-- the sheet of a search's outcome, and what the signals give behind it
pub signalled : (asked : Job) (met : Met) (traced : Lines → Type 0) (g : Graph) (o : EdgeOrder) (signals : List SignalElem) (places : List SignalPlace)
    (outcome : Outcome) (status : Status) (sheet text : List ℕ) →
    job_for places asked ≡ asked → asked.svg ≡ None → HasSearched g o asked (IsRunLog asked.log met traced) outcome →
    IsSheetText g false (sheet_text g (sheet_of asked outcome)) (sheet_of asked outcome) →
    IsShort MAX_FILE_BYTES (sheet_text g (sheet_of asked outcome)) → status ≡ status_of outcome → sheet ≡ sheet_text g (sheet_of asked outcome) →
    text ≡ sheet ++ signals_behind signals places (found_by outcome) →
    IsSignalled asked met traced g o signals places status text
signalled asked met traced g o signals places outcome status sheet text least unpictured searched read short status_is spelled behind =
    let pictured : IsPictured asked.svg met g (found_by outcome) = subst (λ (svg : Option (List ℕ)). IsPictured svg met g (found_by outcome)) (sym unpictured)
    tt in
    let answer : IsDrawAnswer asked met traced g o status sheet = record {
      drawn = record { outcome = outcome; searched = searched; read = read; short = short; status_is = status_is; spelled = spelled };
      pictured = pictured;
    } in
    let parts : HasSignalled met traced g o signals places status text asked = (sheet, answer, behind) in
    let all = subst (λ (j : Job). HasSignalled met traced g o signals places status text j) (sym least) parts in
    record { sheet = all.0; answer = all.1; spelled = all.2 }

-- an answer to what is asked of the search is one to what was asked
pub signalled_for : (asked longer : Job) (met : Met) (traced : Lines → Type 0) (g : Graph) (o : EdgeOrder) (signals : List SignalElem)
    (places : List SignalPlace) (status : Status) (text : List ℕ) → longer ≡ job_for places asked →
    IsSignalled longer met traced g o signals places status text → IsSignalled asked met traced g o signals places status text
signalled_for asked longer met traced g o signals places status text same answer =
    let s = subst (λ (j : Job). IsSignalled j met traced g o signals places status text) same answer in
    record { sheet = s.sheet; answer = s.answer; spelled = s.spelled }

-- ---- after a read

signalled_later : (asked : Job) (old mid new : FilesAt) (traced : Lines → Type 0) (g : Graph) (o : EdgeOrder) (signals : List SignalElem)
    (places : List SignalPlace) (status : Status) (text : List ℕ) →
    WhereTold old.contents mid.contents SameFiles → asked.svg ≡ None → IsSignalled asked (between mid new) traced g o signals places status text →
    IsSignalled asked (between old new) traced g o signals places status text
signalled_later asked old mid new traced g o signals places status text same unpictured s =
    let drawn = s.answer.drawn in
    let found = found_by drawn.outcome in
    let pictured : IsPictured asked.svg (between old new) g found = subst (λ (svg : Option (List ℕ)). IsPictured svg (between old new) g found) (sym unpictured)
    tt in
    record {
      sheet = s.sheet;
      answer = record {
        drawn = record {
          outcome = drawn.outcome;
          searched = searched_later (job_for places asked) old mid new traced g o drawn.outcome same drawn.searched;
          read = drawn.read;
          short = drawn.short;
          status_is = drawn.status_is;
          spelled = drawn.spelled;
        };
        pictured = pictured;
      };
      spelled = s.spelled;
    }

-- the file was read, had this station and these signals, and that was answered so
pub signalled_on : (asked : Job) (name : List ℕ) (old mid new : FilesAt) (traced : Lines → Type 0) (g : Graph) (o : EdgeOrder) (signals : List SignalElem)
    (places : List SignalPlace) (status : Status) (text : List ℕ) →
    IsSignalStationOf name old.contents g o signals places → WhereTold old.contents mid.contents SameFiles → HasRead (between old new) 1 → asked.svg ≡ None →
    IsSignalled asked (between mid new) traced g o signals places status text →
    IsAnswerOn (text_input 1 name) 0 (between old new) (IsAnswerAfter 1 (between old new) (IsSignalFileJudged asked (between old new) traced)) status text
signalled_on asked name old mid new traced g o signals places status text (bytes, is, has) same read unpictured answer =
    let here : IsSignalAnswer asked (between old new) traced bytes status text = record {
      graph = g;
      order = o;
      signals = signals;
      places = places;
      has = has;
      signalled = signalled_later asked old mid new traced g o signals places status text same unpictured answer;
    } in
    inl (bytes, is, inr (has.has_station.has_graph.has_topology.has_rows.few, (read, inl here)))

-- a file with a fault of its own or of its signals, or one that couldn't be read, is answered with that
pub signals_refused_on : (asked : Job) (traced : Lines → Type 0) (name : List ℕ) (met : Met) (r : InputRefusal) (fault : RunFault) (status : Status)
    (text : List ℕ) → IsSignalRefusalOf name met r → r ≡ refusals.Fault fault →
    IsFaultLine fault status text → IsAnswerOn (text_input 1 name) 0 met (IsAnswerAfter 1 met (IsSignalFileJudged asked met traced)) status text
signals_refused_on asked traced name met (refusals.Fault other) fault status text (inl ((bytes, is, has), read)) same told =
    let here : HasFault bytes fault = subst (λ (f : RunFault). HasFault bytes f) (cc) has in
    elim (fault_short_or_long bytes fault here) [
      | inl (long, named) ↦ inl (bytes, is, inl (long, read, subst (λ (f : RunFault). IsFaultLine f status text) named told))
      | inr short ↦ inl (bytes, is, inr (short, (read, inr (record { fault = fault; has = here; answers = told }))))
    ]
signals_refused_on asked traced name met (refusals.Fault other) fault status text (inr (failed, named)) same told =
    let here : fault ≡ ReadFailed 1 = cc in
    inr (failed, subst (λ (f : RunFault). IsFaultLine f status text) here told)
signals_refused_on asked traced name met refusals.Memory fault status text refused same told = absurd (cc)

-- so is what it leaves
pub signals_leave : (asked : Job) (name : List ℕ) (old mid new : FilesAt) (g : Graph) (o : EdgeOrder) (signals : List SignalElem) (places : List SignalPlace)
    (Refused : Type 0) →
    IsSignalStationOf name old.contents g o signals places → HasRead (between old new) 1 → WhereTold old.contents mid.contents SameFiles → (Refused → ⊥) →
    WhereTold mid.contents new.contents (LeftSo (NamedMay asked.log BeginsLog)) →
    WhereTold old.contents new.contents (LeftSo (λ file bytes. (Refused → ⊥) × IsLeftBySignals name asked (between old new) file bytes))
signals_leave asked name old mid new g o signals places Refused has read same answered leaves =
    let May : (file bytes : List ℕ) → Type 0 = λ file bytes. (Refused → ⊥) × IsLeftBySignals name asked (between old new) file bytes in
    let found : HasReadSignals name (between old new) = record { graph = g; order = o; signals = signals; places = places; read = read; has = has } in
    leaves_later May old.contents mid.contents new.contents same
    (leaves_weaker (NamedMay asked.log BeginsLog) May mid.contents new.contents (λ file bytes may. (answered, (found, may.0, may.1))) leaves)

-- ---- nothing is written, nor told, where there was nothing to search

pub signals_unwritten : (log : Option (List ℕ)) (name : List ℕ) (old mid new : FilesAt) (Refused : Type 0) → HasReadSignals name (between old new) →
    (Refused → ⊥) → IsUnwritten (between old mid) →
    (log ≡ None → IsUnwritten (between mid new)) → Refused ⊎ ((file_named log ≢ []) × HasReadSignals name (between old new) → ⊥) → IsUnwritten (between old new)
signals_unwritten log name old mid new Refused found answered before after (inl refused) = absurd (answered refused)
signals_unwritten None name old mid new Refused found answered before after (inr none) = after refl ∙ before
signals_unwritten (Some file) name old mid new Refused found answered before after (inr none) = absurd
    (none ((λ e. let no : file ∷ [] ≡ [] = e in absurd (cc)), found))

pub signals_untold : {T : Type 0} (log : Option (List ℕ)) (name : List ℕ) (old new : FilesAt) (Refused : Type 0) (before after : T) →
    HasReadSignals name (between old new) → (Refused → ⊥) → (log ≢ None → after ≡ before) →
    Refused ⊎ ((log ≡ None) × HasReadSignals name (between old new) → ⊥) → after ≡ before
signals_untold log name old new Refused before after found answered same (inl refused) = absurd (answered refused)
signals_untold None name old new Refused before after found answered same (inr none) = absurd (none (refl, found))
signals_untold (Some file) name old new Refused before after found answered same (inr none) = same (λ e. let no : Some file ≡ None = e in absurd (cc))

-- where each signal has room, the signals of each edge are spread over its line
pub apart : (places : List SignalPlace) (found : Option Drawing) → IfSome found (λ d. (i : ℕ) → i < length places → HasRoomFor places d i) →
    StandApart places found
apart places None room = tt
apart places (Some d) room = λ i there. let r = room i there in spread_at places (line_under places d i) i there r.long

-- lines of the search for what is asked with the greater length are such of signals
pub signals_tell : (asked longer : Job) (input : List ℕ) (met : Met) (found : HasReadSignals input met) (old new : Lines → Type 0) →
    longer ≡ job_for found.places asked → TellsIfNew (IsLeftOfDraw longer found.graph found.order) old new → TellsIfNew (SignalsMayTell asked input met) old new
signals_tell asked longer input met found old new same =
    tells_weaker (IsLeftOfDraw longer found.graph found.order) (SignalsMayTell asked input met) old new
    (λ lines left. inr (found, subst (λ (j : Job). IsLeftOfDraw j found.graph found.order lines) same left))
