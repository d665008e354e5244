-- How the lines of a search come to stand in a file, and what becomes of the files on the way.
use Rattle.std.proofs.Common.{◌≡◌, ◌≢◌, ◌⊎◌, ℕ, List, [], take, drop, None, Some, ◌≤◌, refl, sym, ◌∙◌, ap, subst, inl, inr, arith}
use Rattle.std.specs.Prelude.{Result, Ok, Err, IfOk, IsErrOf}
use Rattle.std.specs.declared.option.Option.{Option}
use Rattle.std.proofs.lemmas.List.{take-append-drop}
use Rattle.outside_io.specs.Contents.{FilesAt, WhereTold, SameFiles, SameElsewhere, Sets, MaySet, Told}
use Rattle.outside_io.specs.Counts.{Rose}
use Rattle.refute_log.specs.declared.file_log.Gathered.{Gathered}
use Rattle.refute_log.specs.declared.sink.LogSinkFault.{LogSinkFault}
use Rattle.refute_log.specs.declared.sink.LogSinkFault.TheVariants as faults
use Rattle.refute_log.specs.Lines.{header}
use Rattle.refute_log.specs.Told.{Lines, AddsAll}
use Rattle.refute_log.specs.FileLog.{IsTold, TellsLines, KeepsLog, StillKeeps, FileBeginsLog, HasText, name_of}
use Rattle.refute_log.proofs.FrontLemmas.{kept_begins}
use Rattle.run_input.specs.declared.reply.Cut.{Cut}
use Rattle.run_input.specs.declared.reply.Cut.TheVariants as cuts
use Rattle.run_input.specs.Met.{Met, between}
use Rattle.run_input.specs.Reply.{cut_of}
use Rattle.run_input.specs.SearchLog.{HasToldEnd, HoldsLog, IsRunLog}

-- ---- a log in a file

-- a fact of the files as a call left them is one of them at the end
pub at_end : {X : Type 0} (P : X → Type 0) (a b : X) → P a → a ≡ b → P b
at_end P a b holds same = subst P same holds

-- the file holds the text of the lines that were told, once the rest is appended
pub filed_holds : (old mid after new : Option Told) (name : List ℕ) (kept now : Gathered) (lines : Lines) →
    WhereTold old mid (Sets name header) → (IsTold old → TellsLines kept mid []) → name_of kept ≡ name → name_of now ≡ name_of kept →
    WhereTold mid after (SameElsewhere (name_of kept)) →
    AddsAll (TellsLines kept mid) (TellsLines now after) lines → WhereTold after new (SameElsewhere (name_of now)) →
    ((told : Lines) → TellsLines now after told → HasText new (name_of now) told) → HoldsLog old new name lines
filed_holds None mid after new name kept now lines created tells named still others adds rest text = tt
filed_holds (Some a) None after new name kept now lines created tells named still others adds rest text = absurd created
filed_holds (Some a) (Some b) None new name kept now lines created tells named still others adds rest text = absurd others
filed_holds (Some a) (Some b) (Some c) None name kept now lines created tells named still others adds rest text = absurd rest
filed_holds (Some a) (Some b) (Some c) (Some d) name kept now lines created tells named still others adds rest text =
    let told : TellsLines now (Some c) lines = adds [] (tells tt) in
    record { text = subst (λ (n : List ℕ). HasText (Some d) n lines) (still ∙ named) (text lines told); formed = told.0.2 }

-- no other file changed
pub filed_others : (old mid after new : Option Told) (name : List ℕ) (kept now : Gathered) → WhereTold old mid (Sets name header) → name_of kept ≡ name →
    name_of now ≡ name_of kept →
    WhereTold mid after (SameElsewhere (name_of kept)) → WhereTold after new (SameElsewhere (name_of now)) → WhereTold old new (SameElsewhere name)
filed_others None mid after new name kept now created named still others rest = tt
filed_others (Some a) None after new name kept now created named still others rest = absurd created
filed_others (Some a) (Some b) None new name kept now created named still others rest = absurd others
filed_others (Some a) (Some b) (Some c) None name kept now created named still others rest = absurd rest
filed_others (Some a) (Some b) (Some c) (Some d) name kept now created named still others rest =
    λ other ne. rest other (λ same. ne (same ∙ still ∙ named)) ∙ others other (λ same. ne (same ∙ named)) ∙ created.others other ne

-- the file begins a log's text, whether or not the rest was appended whole
pub filed_begun : (old mid after new : Option Told) (name : List ℕ) (kept now : Gathered) → WhereTold old mid (λ _ told. KeepsLog kept told) →
    name_of kept ≡ name → name_of now ≡ name_of kept →
    WhereTold mid after (StillKeeps kept now) → WhereTold after new (λ x y. KeepsLog now x → FileBeginsLog y (name_of now)) →
    WhereTold old new (λ x y. (y name ≡ x name) ⊎ FileBeginsLog y name)
filed_begun None mid after new name kept now keeps named still later begins = tt
filed_begun (Some a) None after new name kept now keeps named still later begins = absurd keeps
filed_begun (Some a) (Some b) None new name kept now keeps named still later begins = absurd later
filed_begun (Some a) (Some b) (Some c) None name kept now keeps named still later begins = absurd begins
filed_begun (Some a) (Some b) (Some c) (Some d) name kept now keeps named still later begins = inr
    (subst (FileBeginsLog d) (still ∙ named) (begins (later keeps)))

-- also where it wasn't appended
pub left_begun : (old mid new : Option Told) (name : List ℕ) (kept now : Gathered) → WhereTold old mid (λ _ told. KeepsLog kept told) → name_of kept ≡ name →
    name_of now ≡ name_of kept →
    WhereTold mid new (StillKeeps kept now) → WhereTold old new (λ x y. (y name ≡ x name) ⊎ FileBeginsLog y name)
left_begun None mid new name kept now keeps named still later = tt
left_begun (Some a) None new name kept now keeps named still later = absurd keeps
left_begun (Some a) (Some b) None name kept now keeps named still later = absurd later
left_begun (Some a) (Some b) (Some c) name kept now keeps named still later =
    inr (subst (FileBeginsLog c) (still ∙ named) (kept_begins now.failed c (name_of now) now.bytes.items (later keeps)))

-- a log that couldn't be started
pub others_unstarted : (old new : Option Told) (name : List ℕ) → WhereTold old new (MaySet name header) → WhereTold old new (SameElsewhere name)
others_unstarted None new name start = tt
others_unstarted (Some a) None name start = absurd start
others_unstarted (Some a) (Some b) name start = start.others

pub begun_unstarted : (old new : Option Told) (name : List ℕ) → WhereTold old new (MaySet name header) →
    WhereTold old new (λ before after. (after name ≡ before name) ⊎ FileBeginsLog after name)
begun_unstarted None new name start = tt
begun_unstarted (Some a) None name start = absurd start
begun_unstarted (Some a) (Some b) name start = elim start.either as (λ _. (b name ≡ a name) ⊎ FileBeginsLog b name) [
  | inl same ↦ inl same
  | inr (n, there) ↦ inr (take n header, there, record { lines = []; more = drop n header; formed = tt; spelled = take-append-drop n header })
]

-- why there is no answer, where there is none
abbrev cut_told : {A : Type 0} → Result A Cut → Cut
cut_told (Ok reply) = cuts.Memory
cut_told (Err cut) = cut

-- a rest that couldn't be appended is a fault of writing, counted from before the search
pub filed_cause : {A B : Type 0} (fault : LogSinkFault) (cut : Cut) (old mid after new : ℕ) → cut ≡ cut_of fault → IsErrOf {T = A} (Err cut) cuts.Unwritten →
    old ≤ mid → mid ≤ after →
    (IsErrOf {T = B} (Err fault) faults.Failed → Rose after new) → Rose old new
filed_cause faults.Failed cut old mid after new is unwritten begun told cause = let rose : Rose after new = cause refl in omega (arith, begun, told, rose)
filed_cause faults.Memory cut old mid after new is unwritten begun told cause = let same : cuts.Memory ≡ cuts.Unwritten = sym is
    ∙ ap cut_told unwritten in absurd (cc)

-- ---- where the lines stand

-- lines that are told to the file of this name, or to the trace, are told where the words say
pub told_named : {X E : Type 0} (IsEnd : X → Lines → Type 0) (met : Met) (traced : Lines → Type 0) (log named : Option (List ℕ)) (r : Result X E) →
    log ≡ named → IfOk r (λ x. HasToldEnd (IsEnd x) (IsRunLog named met traced)) → IfOk r (λ x. HasToldEnd (IsEnd x) (IsRunLog log met traced))
told_named IsEnd met traced log named r is searched =
    subst (λ (n : Option (List ℕ)). IfOk r (λ x. HasToldEnd (IsEnd x) (IsRunLog n met traced))) (sym is) searched

-- ---- after a read

-- a log's file is the same after a read that changed none
holds_later : (old mid new : Option Told) (name : List ℕ) (lines : Lines) → WhereTold old mid SameFiles → HoldsLog mid new name lines →
    HoldsLog old new name lines
holds_later None mid new name lines same holds = tt
holds_later (Some a) None new name lines same holds = absurd same
holds_later (Some a) (Some b) None name lines same holds = absurd holds
holds_later (Some a) (Some b) (Some c) name lines same holds = holds

pub log_later : (named : Option (List ℕ)) (old mid new : FilesAt) (traced : Lines → Type 0) (lines : Lines) → WhereTold old.contents mid.contents SameFiles →
    IsRunLog named (between mid new) traced lines → IsRunLog named (between old new) traced lines
log_later None old mid new traced lines same told = told
log_later (Some name) old mid new traced lines same told = holds_later old.contents mid.contents new.contents name lines same told
