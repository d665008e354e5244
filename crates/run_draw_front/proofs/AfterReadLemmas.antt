-- What draw answers to a file that was read, and what it leaves then.
use Rattle.std.proofs.Common.{◌≡◌, ◌≢◌, ◌⊎◌, ℕ, List, [], ◌∷◌, None, Some, refl, ◌∙◌, inl, inr}
use Rattle.std.specs.declared.option.Option.{Option}
use Rattle.outside_io.specs.Contents.{FilesAt, WhereTold, SameFiles}
use Rattle.refute_log.specs.Told.{Lines}
use Rattle.search_least.specs.declared.outcome.Outcome.{Outcome}
use Rattle.track_order.specs.Order.{EdgeOrder}
use Rattle.plan_core.specs.Graph.{Graph}
use Rattle.run_input.specs.declared.status.Status.{Status}
use Rattle.run_input.specs.Met.{between, HasRead, IsUnwritten, LeftSo}
use Rattle.run_input.specs.Input.{IsStationOf}
use Rattle.run_input.specs.Answer.{text_input, IsFileJudged, IsAnswerAfter, IsAnswerOn, HasReadStation}
use Rattle.run_input.specs.SearchLog.{IsRunLog}
use Rattle.run_input.proofs.FiledLemmas.{log_later}
use Rattle.run_input.proofs.LeavesLemmas.{told_so, leaves_weaker, leaves_later}
use Rattle.run_draw_front.specs.Drawn.{Job, found_by, HasSearched, IsDrawAnswer, HasBegunPicture, DrawMayLeave, files_asked, IsLeftByDraw}
use Rattle.run_draw_front.proofs.PictureLemmas.{StandsWhereNamed, named_same, pictured_later}

-- ---- the same, seen from before the read

pub searched_later : (asked : Job) (old mid new : FilesAt) (traced : Lines → Type 0) (g : Graph) (o : EdgeOrder) (outcome : Outcome) →
    WhereTold old.contents mid.contents SameFiles →
    HasSearched g o asked (IsRunLog asked.log (between mid new) traced) outcome → HasSearched g o asked (IsRunLog asked.log (between old new) traced) outcome
searched_later asked old mid new traced g o outcome same searched =
    record { lines = searched.lines; told = log_later asked.log old mid new traced searched.lines same searched.told; ended = searched.ended }

-- so is what draw answers
pub draw_later : (asked : Job) (old mid new : FilesAt) (traced : Lines → Type 0) (g : Graph) (o : EdgeOrder) (status : Status) (text : List ℕ) →
    WhereTold old.contents mid.contents SameFiles →
    IsDrawAnswer asked (between mid new) traced g o status text → IsDrawAnswer asked (between old new) traced g o status text
draw_later asked old mid new traced g o status text same answer =
    let drawn = answer.drawn in
    let stands = told_so SameFiles (StandsWhereNamed asked.svg) old.contents mid.contents (λ a b all. named_same asked.svg a b all) same in
    record {
      drawn = record {
        outcome = drawn.outcome;
        searched = searched_later asked old mid new traced g o drawn.outcome same drawn.searched;
        read = drawn.read;
        short = drawn.short;
        status_is = drawn.status_is;
        spelled = drawn.spelled;
      };
      pictured = pictured_later asked.svg old mid new g (found_by drawn.outcome) stands answer.pictured;
    }

-- the file was read, had this station, and that was answered so
pub drawn_on : (asked : Job) (name : List ℕ) (old mid new : FilesAt) (traced : Lines → Type 0) (g : Graph) (o : EdgeOrder) (status : Status) (text : List ℕ) →
    IsStationOf name old.contents g o → WhereTold old.contents mid.contents SameFiles → HasRead (between old new) 1 →
    IsDrawAnswer asked (between mid new) traced g o status text →
    IsAnswerOn (text_input 1 name) 0 (between old new) (IsAnswerAfter 1 (between old new) (IsFileJudged (IsDrawAnswer asked (between old new) traced))) status
    text
drawn_on asked name old mid new traced g o status text (bytes, is, has) same read answer =
    inl (bytes, is, inr (has.has_graph.has_topology.has_rows.few, (read, inl (g, o, has, draw_later asked old mid new traced g o status text same answer))))

-- so is what it leaves
pub leaves_on : (asked : Job) (name : List ℕ) (old mid new : FilesAt) (traced : Lines → Type 0) (g : Graph) (o : EdgeOrder) (Refused : Type 0) →
    IsStationOf name old.contents g o → HasRead (between old new) 1 →
    WhereTold old.contents mid.contents SameFiles → (Refused → ⊥) →
    WhereTold mid.contents new.contents (LeftSo (DrawMayLeave asked (HasBegunPicture g o asked (IsRunLog asked.log (between mid new) traced)))) →
    WhereTold old.contents new.contents (LeftSo (λ file bytes. (Refused → ⊥) × IsLeftByDraw name asked (between old new) traced file bytes))
leaves_on asked name old mid new traced g o Refused has read same answered leaves =
    let Begun = HasBegunPicture g o asked (IsRunLog asked.log (between mid new) traced) in
    let Later = HasBegunPicture g o asked (IsRunLog asked.log (between old new) traced) in
    let May : (file bytes : List ℕ) → Type 0 = λ file bytes. (Refused → ⊥) × IsLeftByDraw name asked (between old new) traced file bytes in
    leaves_later May old.contents mid.contents new.contents same
    (leaves_weaker (DrawMayLeave asked Begun) May mid.contents new.contents
    (λ file bytes may. (
      answered,
      (
        g,
        o,
        (read, has),
        elim may as (λ _. DrawMayLeave asked Later file bytes) [
          | inl log ↦ inl log
          | inr (svg, begun) ↦ inr (
            svg,
            record {
              outcome = begun.outcome;
              searched = searched_later asked old mid new traced g o begun.outcome same begun.searched;
              begins = begun.begins;
            },
          )
        ],
      ),
    )) leaves)

-- ---- nothing is written, nor told, where there was nothing to search

empty_or : (xs : List (List ℕ)) → (xs ≡ []) ⊎ (xs ≢ [])
empty_or [] = inl refl
empty_or (x ∷ xs) = inr (λ e. let no : x ∷ xs ≡ [] = e in absurd (cc))

none_or : (named : Option (List ℕ)) → (named ≡ None) ⊎ (named ≢ None)
none_or None = inl refl
none_or (Some name) = inr (λ e. let no : Some name ≡ None = e in absurd (cc))

pub unwritten_on : (asked : Job) (name : List ℕ) (old mid new : FilesAt) (g : Graph) (o : EdgeOrder) (Refused : Type 0) → IsStationOf name old.contents g o →
    HasRead (between old new) 1 → (Refused → ⊥) →
    IsUnwritten (between old mid) → (files_asked asked ≡ [] → IsUnwritten (between mid new)) →
    Refused ⊎ ((files_asked asked ≢ []) × HasReadStation name (between old new) → ⊥) → IsUnwritten (between old new)
unwritten_on asked name old mid new g o Refused has read answered before after (inl refused) = absurd (answered refused)
unwritten_on asked name old mid new g o Refused has read answered before after (inr none) = by (empty_or (files_asked asked))
  where
    by : (files_asked asked ≡ []) ⊎ (files_asked asked ≢ []) → IsUnwritten (between old new)
    by (inl empty) = after empty ∙ before
    by (inr some) = absurd (none (some, (g, o, (read, has))))

pub untold_on : {T : Type 0} (asked : Job) (name : List ℕ) (old new : FilesAt) (g : Graph) (o : EdgeOrder) (Refused : Type 0) (before after : T) →
    IsStationOf name old.contents g o → HasRead (between old new) 1 →
    (Refused → ⊥) → (asked.log ≢ None → after ≡ before) → Refused ⊎ ((asked.log ≡ None) × HasReadStation name (between old new) → ⊥) → after ≡ before
untold_on asked name old new g o Refused before after has read answered same (inl refused) = absurd (answered refused)
untold_on {T} asked name old new g o Refused before after has read answered same (inr none) = by (none_or asked.log)
  where
    by : (asked.log ≡ None) ⊎ (asked.log ≢ None) → after ≡ before
    by (inl unnamed) = absurd (none (unnamed, (g, o, (read, has))))
    by (inr named) = same named
