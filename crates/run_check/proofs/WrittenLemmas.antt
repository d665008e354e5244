-- How trim leaves the files.
use Rattle.std.proofs.Common.{◌≡◌, ◌≢◌, ◌⊎◌, ℕ, List, [], true, false, None, Some, take, drop, append-nil, refl, sym, ◌∙◌, subst, inl, inr}
use Rattle.std.specs.Prelude.{Result, Ok, Err, OnOk, OnErr, IfOk, IsOkAnd, bytes_eq}
use Rattle.std.specs.declared.option.Option.{Option}
use Rattle.std.proofs.lemmas.Bool.{false≢true}
use Rattle.std.proofs.lemmas.List.{take-append-drop}
use Rattle.std.proofs.lemmas.Slice.Eq.{bytes_eq-Decides}
use Rattle.outside_io.specs.Contents.{FilesAt, Told, WhereTold, SameFiles, SameElsewhere, Sets, MaySet}
use Rattle.log_trim.specs.declared.trimming.TrimmedLog.{TrimmedLog}
use Rattle.run_input.specs.declared.reply.Reply.{Reply}
use Rattle.run_input.specs.declared.status.Status.{Status}
use Rattle.run_input.specs.declared.status.Status.TheVariants.{Done}
use Rattle.run_input.specs.Met.{Met, between, IsUnwritten, LeftSo}
use Rattle.run_check.specs.Texts.{left_text}
use Rattle.run_check.specs.Trimmed.{TellsLeft, HasReadLeft, HasReadCertified, BeginsLeft, IsLeftByTrim}

-- ---- one file

-- the bytes with which the file may be left that is named for the hinted lines
abbrev pub HintsMay : (hints : List ℕ) → TrimmedLog → (name bytes : List ℕ) → Type 0
HintsMay hints r name bytes = (hints ≡ name) × BeginsLeft r bytes

left_but : (hints : List ℕ) (r : TrimmedLog) (a b : Told) → SameElsewhere hints a b →
    (b hints ≡ a hints) ⊎ ((bytes : List ℕ) × (b hints ≡ Some bytes) × BeginsLeft r bytes) → LeftSo (HintsMay hints r) a b
left_but hints r a b others begun other = elim (bytes_eq other hints) as (λ t. bytes_eq other hints ≡ t → (b other ≡ a other) ⊎
    ((bytes : List ℕ) × (b other ≡ Some bytes) × HintsMay hints r other bytes)) [
      | true ↦ λ is.
          let same : other ≡ hints = (bytes_eq-Decides other hints).0 is in
          subst (λ (n : List ℕ). (b n ≡ a n) ⊎ ((bytes : List ℕ) × (b n ≡ Some bytes) × HintsMay hints r n bytes)) (sym same)
          (elim begun [ inl stands ↦ inl stands | inr (bytes, there, begins) ↦ inr (bytes, there, (refl, begins)) ])
      | false ↦ λ differs. inl (others other (λ same. false≢true (sym differs ∙ (bytes_eq-Decides other hints).1 same)))
    ] refl

begins_all : (r : TrimmedLog) → BeginsLeft r (left_text r)
begins_all r = record { more = []; spelled = append-nil (left_text r) }

begins_some : (r : TrimmedLog) (n : ℕ) → BeginsLeft r (take n (left_text r))
begins_some r n = record { more = drop n (left_text r); spelled = take-append-drop n (left_text r) }

-- whether all was written or not
all_set : (hints : List ℕ) (r : TrimmedLog) (old new : Option Told) → WhereTold old new (Sets hints (left_text r)) →
    WhereTold old new (LeftSo (HintsMay hints r))
all_set hints r None new h = tt
all_set hints r (Some a) None h = absurd h
all_set hints r (Some a) (Some b) h = left_but hints r a b h.others (inr (left_text r, h.there, begins_all r))

some_set : (hints : List ℕ) (r : TrimmedLog) (old new : Option Told) → WhereTold old new (MaySet hints (left_text r)) →
    WhereTold old new (LeftSo (HintsMay hints r))
some_set hints r None new h = tt
some_set hints r (Some a) None h = absurd h
some_set hints r (Some a) (Some b) h = left_but hints r a b h.others (elim h.either
    [ inl stands ↦ inl stands | inr (n, there) ↦ inr (take n (left_text r), there, begins_some r n) ])

pub written_leaves : {T E : Type 0} (x : Result T E) (old new : Option Told) (hints text : List ℕ) (r : TrimmedLog) → text ≡ left_text r →
    OnOk x (WhereTold old new (Sets hints text)) → OnErr x (WhereTold old new (MaySet hints text)) →
    WhereTold old new (LeftSo (HintsMay hints r))
written_leaves (Ok y) old new hints text r is all part = all_set hints r old new (subst (λ (t : List ℕ). WhereTold old new (Sets hints t)) is all)
written_leaves (Err e) old new hints text r is all part = some_set hints r old new (subst (λ (t : List ℕ). WhereTold old new (MaySet hints t)) is part)

same_then : (P : Told → Type 0) (old mid new : Option Told) → WhereTold old mid SameFiles → WhereTold mid new (λ _ after. P after) →
    WhereTold old new (λ _ after. P after)
same_then P None mid new same h = tt
same_then P (Some a) None new same h = absurd same
same_then P (Some a) (Some b) None same h = absurd h
same_then P (Some a) (Some b) (Some c) same h = h

pub tells_later : (r : TrimmedLog) (hints : List ℕ) (old mid new : FilesAt) (status : Status) (text : List ℕ) → WhereTold old.contents mid.contents SameFiles →
    TellsLeft r hints (between mid new) status text → TellsLeft r hints (between old new) status text
tells_later r hints old mid new status text same told = record {
  status_is = told.status_is;
  line_is = told.line_is;
  written = same_then (λ after. after hints ≡ Some (left_text r)) old.contents mid.contents new.contents same told.written;
}

left_then : (May More : (name bytes : List ℕ) → Type 0) (old mid new : Option Told) → ((name bytes : List ℕ) → May name bytes → More name bytes) →
    WhereTold old mid SameFiles → WhereTold mid new (LeftSo May) → WhereTold old new (LeftSo More)
left_then May More None mid new more same h = tt
left_then May More (Some a) None new more same h = absurd same
left_then May More (Some a) (Some b) None more same h = absurd h
left_then May More (Some a) (Some b) (Some c) more same h = λ name. elim (h name)
    [ inl stands ↦ inl (stands ∙ same name) | inr (bytes, there, may) ↦ inr (bytes, there, more name bytes may) ]

pub trim_leaves : (input sheet log hints : List ℕ) (r : TrimmedLog) (old mid new : FilesAt) (Refused : Type 0) →
    HasReadLeft input sheet log (between old new) r → WhereTold old.contents mid.contents SameFiles → (Refused → ⊥) →
    WhereTold mid.contents new.contents (LeftSo (HintsMay hints r)) →
    WhereTold old.contents new.contents (LeftSo (λ name bytes. (Refused → ⊥) × IsLeftByTrim input sheet log hints (between old new) name bytes))
trim_leaves input sheet log hints r old mid new Refused found same answered leaves =
    left_then (HintsMay hints r) (λ name bytes. (Refused → ⊥) × IsLeftByTrim input sheet log hints (between old new) name bytes) old.contents mid.contents
    new.contents
    (λ name bytes may. (answered, (may.0, (r, found, may.1)))) same leaves

-- an answer that counts the lines has the status 0
pub never_other : {E : Type 0} (x : Result Reply E) (r : TrimmedLog) (hints : List ℕ) (met : Met) → IfOk x (λ a. TellsLeft r hints met a.status a.text.items) →
    IsOkAnd x (λ a. a.status ≢ Done) → ⊥
never_other (Ok a) r hints met told other = other told.status_is
never_other (Err e) r hints met told other = other

-- something was trimmed
pub never_unwritten : (input sheet log : List ℕ) (r : TrimmedLog) (old new : FilesAt) (Other : Type 0) → HasReadLeft input sheet log (between old new) r →
    (Other → ⊥) → Other ⊎ (HasReadCertified input sheet log (between old new) → ⊥) →
    IsUnwritten (between old new)
never_unwritten input sheet log r old new Other found none (inl other) = absurd (none other)
never_unwritten input sheet log r old new Other found none (inr nothing) = absurd (nothing (r, found))
