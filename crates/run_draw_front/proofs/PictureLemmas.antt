-- How a picture comes to stand in a file, and what draw answers once it does.
use Rattle.std.proofs.Common.{◌≡◌, ◌⊎◌, ℕ, List, [], ◌++◌, take, drop, append-nil, None, Some, refl, ◌∙◌, subst, inl, inr}
use Rattle.std.specs.Prelude.{false, ⊤, Result, Ok, Err, OnOk, OnErr}
use Rattle.std.specs.declared.option.Option.{Option}
use Rattle.std.proofs.lemmas.List.{take-append-drop}
use Rattle.outside_io.specs.Contents.{FilesAt, Told, WhereTold, SameFiles, Sets, MaySet}
use Rattle.plan_core.specs.declared.limits.TheConstants.{MAX_FILE_BYTES}
use Rattle.plan_core.specs.Graph.{Graph}
use Rattle.plan_core.specs.Drawing.{Drawing}
use Rattle.track_order.specs.Order.{EdgeOrder}
use Rattle.plan_text.specs.SvgText.{svg_text}
use Rattle.plan_text.specs.SheetText.{sheet_text}
use Rattle.plan_text.specs.SheetFaults.{IsSheetText}
use Rattle.refute_log.specs.Told.{Lines}
use Rattle.refute_log.specs.FileLog.{BeginsLog}
use Rattle.search_least.specs.declared.outcome.Outcome.{Outcome}
use Rattle.run_input.specs.declared.status.Status.{Status}
use Rattle.run_input.specs.Met.{between, LeftSo}
use Rattle.run_input.specs.Input.{IsShort}
use Rattle.run_draw_front.specs.Pictured.{BeginsPicture, IsPictured}
use Rattle.run_input.specs.SearchLog.{IsLogFile, IsRunLog}
use Rattle.run_draw_front.specs.Drawn.{Job, sheet_of, found_by, status_of, HasSearched, IsDrawAnswer, HasBegunPicture, DrawMayLeave}
use Rattle.run_input.specs.Written.{file_named, AreFilesApart}
use Rattle.run_input.proofs.LeavesLemmas.{told_then, told_so, leaves_weaker, leaves_both, NamedMay, left_alone_but, other_stands, names_apart}

-- ---- the picture's file

begins_all : (g : Graph) (found : Option Drawing) (d : Drawing) → found ≡ Some d → BeginsPicture g found (svg_text g d)
begins_all g found d is = record { drawing = d; is_found = is; more = []; spelled = append-nil (svg_text g d) }

begins_some : (g : Graph) (found : Option Drawing) (d : Drawing) (n : ℕ) → found ≡ Some d → BeginsPicture g found (take n (svg_text g d))
begins_some g found d n is = record { drawing = d; is_found = is; more = drop n (svg_text g d); spelled = take-append-drop n (svg_text g d) }

-- the file begins the picture of the drawing that was found, whether all was written or not
pub leaves_either : {T E : Type 0} (r : Result T E) (old new : Option Told) (name : List ℕ) (g : Graph) (found : Option Drawing) (d : Drawing) →
    found ≡ Some d → OnOk r (WhereTold old new (Sets name (svg_text g d))) →
    OnErr r (WhereTold old new (MaySet name (svg_text g d))) → WhereTold old new (LeftSo (NamedMay (Some name) (BeginsPicture g found)))
leaves_either (Ok x) old new name g found d is all part =
    told_so (Sets name (svg_text g d)) (LeftSo (NamedMay (Some name) (BeginsPicture g found))) old new
    (λ a b set. left_alone_but (BeginsPicture g found) name a b set.others (inr (svg_text g d, set.there, begins_all g found d is))) all
leaves_either (Err e) old new name g found d is all part =
    told_so (MaySet name (svg_text g d)) (LeftSo (NamedMay (Some name) (BeginsPicture g found))) old new
    (λ a b set. left_alone_but (BeginsPicture g found) name a b set.others
    (elim set.either [ inl stands ↦ inl stands | inr (n, there) ↦ inr (take n (svg_text g d), there, begins_some g found d n is) ])) part

-- ---- the picture after other steps

-- where a file is named, it stands as it stood
abbrev pub StandsWhereNamed : Option (List ℕ) → Told → Told → Type 0
StandsWhereNamed None a b = ⊤
StandsWhereNamed (Some name) a b = b name ≡ a name

pub named_same : (named : Option (List ℕ)) (a b : Told) → SameFiles a b → StandsWhereNamed named a b
named_same None a b same = tt
named_same (Some name) a b same = same name

picture_stands : (log svg : Option (List ℕ)) (a b : Told) → AreFilesApart (file_named log ++ file_named svg) → LeftSo (NamedMay log BeginsLog) a b →
    StandsWhereNamed svg a b
picture_stands log None a b apart first = tt
picture_stands log (Some name) a b apart first = other_stands BeginsLog log name a b (λ is. names_apart log (Some name) name apart is refl) first

pub pictured_later : (named : Option (List ℕ)) (old mid new : FilesAt) (g : Graph) (found : Option Drawing) →
    WhereTold old.contents mid.contents (StandsWhereNamed named) → IsPictured named (between mid new) g found → IsPictured named (between old new) g found
pictured_later None old mid new g found stands pictured = tt
pictured_later (Some name) old mid new g None stands pictured =
    told_then (λ a b. b name ≡ a name) (λ a b. b name ≡ a name) (λ a b. b name ≡ a name) old.contents mid.contents new.contents
    (λ a b c first second. second ∙ first) stands pictured
pictured_later (Some name) old mid new g (Some d) stands pictured =
    told_then (λ a b. b name ≡ a name) (λ _ b. b name ≡ Some (svg_text g d)) (λ _ b. b name ≡ Some (svg_text g d)) old.contents mid.contents new.contents
    (λ a b c first second. second) stands pictured

-- ---- the log before the picture

-- it stays whole
log_stays : (log svg : Option (List ℕ)) (g : Graph) (found : Option Drawing) (old mid new : FilesAt) (traced : Lines → Type 0) (lines : Lines) →
    AreFilesApart (file_named log ++ file_named svg) →
    WhereTold mid.contents new.contents (LeftSo (NamedMay svg (BeginsPicture g found))) → IsRunLog log (between old mid) traced lines →
    IsRunLog log (between old new) traced lines
log_stays None svg g found old mid new traced lines apart leaves told = told
log_stays (Some name) svg g found old mid new traced lines apart leaves told =
    told_then (λ _ b. IsLogFile name lines b) (LeftSo (NamedMay svg (BeginsPicture g found))) (λ _ b. IsLogFile name lines b) old.contents mid.contents
    new.contents
    (λ a b c file second. record {
      text = other_stands (BeginsPicture g found) svg name b c (λ is. names_apart (Some name) svg name apart refl is) second ∙ file.text;
      formed = file.formed;
    })
    told leaves

-- so the search told its lines where the words say, also once the picture is written
abbrev searched_still : (g : Graph) (o : EdgeOrder) (asked : Job) (old mid new : FilesAt) (traced : Lines → Type 0) (outcome : Outcome) →
    AreFilesApart (file_named asked.log ++ file_named asked.svg) →
    HasSearched g o asked (IsRunLog asked.log (between old mid) traced) outcome →
    WhereTold mid.contents new.contents (LeftSo (NamedMay asked.svg (BeginsPicture g (found_by outcome)))) →
    HasSearched g o asked (IsRunLog asked.log (between old new) traced) outcome
searched_still g o asked old mid new traced outcome apart searched second = record {
  lines = searched.lines;
  told = log_stays asked.log asked.svg g (found_by outcome) old mid new traced searched.lines apart second searched.told;
  ended = searched.ended;
}

-- ---- what draw answers, and what it leaves

-- where the search ended, the log is left whole, and the picture begun or as it stood
pub leaves_pictured : (g : Graph) (o : EdgeOrder) (asked : Job) (old mid new : FilesAt) (traced : Lines → Type 0) (outcome : Outcome) (named : Option (List ℕ))
    → named ≡ asked.svg →
    AreFilesApart (file_named asked.log ++ file_named asked.svg) → HasSearched g o asked (IsRunLog asked.log (between old mid) traced) outcome →
    WhereTold old.contents mid.contents (LeftSo (NamedMay asked.log BeginsLog)) →
    WhereTold mid.contents new.contents (LeftSo (NamedMay named (BeginsPicture g (found_by outcome)))) →
    WhereTold old.contents new.contents (LeftSo (DrawMayLeave asked (HasBegunPicture g o asked (IsRunLog asked.log (between old new) traced))))
leaves_pictured g o asked old mid new traced outcome named is apart searched first begun =
    let Picture = NamedMay asked.svg (BeginsPicture g (found_by outcome)) in
    let second : WhereTold mid.contents new.contents (LeftSo Picture) =
    subst (λ (name : Option (List ℕ)). WhereTold mid.contents new.contents (LeftSo (NamedMay name (BeginsPicture g (found_by outcome))))) is begun in
    let still = searched_still g o asked old mid new traced outcome apart searched second in
    let IsPicture = HasBegunPicture g o asked (IsRunLog asked.log (between old new) traced) in
    leaves_weaker (λ name bytes. NamedMay asked.log BeginsLog name bytes ⊎ Picture name bytes) (DrawMayLeave asked IsPicture) old.contents new.contents
    (λ name bytes may. elim may [ inl log ↦ inl log | inr (svg, begins) ↦ inr (svg, record { outcome = outcome; searched = still; begins = begins }) ])
    (leaves_both (NamedMay asked.log BeginsLog) Picture old.contents mid.contents new.contents first second)

pub drawn_answer : (g : Graph) (o : EdgeOrder) (asked : Job) (old mid new : FilesAt) (traced : Lines → Type 0) (outcome : Outcome) (status : Status)
    (text : List ℕ) → AreFilesApart (file_named asked.log ++ file_named asked.svg) →
    HasSearched g o asked (IsRunLog asked.log (between old mid) traced) outcome → WhereTold old.contents mid.contents (LeftSo (NamedMay asked.log BeginsLog)) →
    WhereTold mid.contents new.contents (LeftSo (NamedMay asked.svg (BeginsPicture g (found_by outcome)))) →
    IsPictured asked.svg (between mid new) g (found_by outcome) →
    IsSheetText g false (sheet_text g (sheet_of asked outcome)) (sheet_of asked outcome) → IsShort MAX_FILE_BYTES (sheet_text g (sheet_of asked outcome)) →
    status ≡ status_of outcome → text ≡ sheet_text g (sheet_of asked outcome) → IsDrawAnswer asked (between old new) traced g o status text
drawn_answer g o asked old mid new traced outcome status text apart searched first second pictured is_text short status_is spelled = record {
  drawn = record {
    outcome = outcome;
    searched = searched_still g o asked old mid new traced outcome apart searched second;
    read = is_text;
    short = short;
    status_is = status_is;
    spelled = spelled;
  };
  pictured =
      pictured_later asked.svg old mid new g (found_by outcome)
      (told_so (LeftSo (NamedMay asked.log BeginsLog)) (StandsWhereNamed asked.svg) old.contents mid.contents
      (λ a b. picture_stands asked.log asked.svg a b apart) first) pictured;
}
