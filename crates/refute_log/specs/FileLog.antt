-- A log in a file: what its state tells, and what stands in the file at the end.
use Rattle.std.specs.Prelude.{◌≡◌, ◌≤◌, ℕ, Bool, true, false, List, ◌++◌, None, Some, ⊤, string_bytes, refl}
use Rattle.std.specs.declared.option.Option.{Option}
use Rattle.std.proofs.Common.{◌∙◌, sym, ap}
use Rattle.outside_io.specs.Contents.{Told, FilesAt, WhereTold, SameElsewhere, MaySet}
use Rattle.outside_io.specs.Counts.{Rose}
use Rattle.refute_log.specs.declared.file_log.Gathered.{Gathered}
use Rattle.refute_log.specs.declared.sink.LogSinkFault.{LogSinkFault}
use Rattle.refute_log.specs.declared.sink.LogSinkFault.TheVariants.{Failed}
use Rattle.refute_log.specs.Lines.{header, log_text, MayAllBeTold}
use Rattle.refute_log.specs.OneText.{log_text_once, formed_lines}
use Rattle.refute_log.specs.Told.{Lines}
use Rattle.refute_log.specs.Log.{learnt_count}

-- the contents are told
abbrev pub IsTold : Option Told → Type 0
IsTold None = ⊥
IsTold (Some told) = ⊤

-- the contents are told, and the file's bytes, with those that are gathered, are the text of the lines
abbrev pub IsLogText : Option Told → List ℕ → List ℕ → Lines → Type 0
IsLogText None name gathered lines = ⊥
IsLogText (Some told) name gathered lines = (bytes : List ℕ) × (told name ≡ Some bytes)
    × (bytes ++ gathered ≡ log_text lines)

-- no call has failed, and the text is that of the lines, each of which may be told
abbrev pub TellsText : Bool → Option Told → List ℕ → List ℕ → Lines → Type 0
TellsText failed contents name gathered lines = (failed ≡ false) × IsLogText contents name gathered lines
    × MayAllBeTold lines

-- the file's name
abbrev pub name_of : Gathered → List ℕ
name_of kept = string_bytes kept.name

-- the number of Learnt lines told
abbrev pub learnt_of : Gathered → ℕ
learnt_of kept = kept.learnt

-- what a log keeps, with the files' contents, tells that these are its lines, and counts the Learnt ones
abbrev pub TellsLines : Gathered → Option Told → Lines → Type 0
TellsLines kept contents lines = TellsText kept.failed contents (name_of kept) kept.bytes.items lines
    × (kept.learnt ≡ learnt_count lines)

-- the bytes begin the text of some log
pub record BeginsLog (bytes : List ℕ) : Type 0 where
  pub lines : Lines
  pub more : List ℕ
  pub formed : MayAllBeTold lines
  pub spelled : bytes ++ more ≡ log_text lines

-- the file is there, and its bytes begin the text of some log
abbrev pub FileBeginsLog : Told → List ℕ → Type 0
FileBeginsLog told name = (bytes : List ℕ) × (told name ≡ Some bytes) × BeginsLog bytes

-- as long as no call has failed, the file's bytes with those that are gathered are the text of a log;
-- from then on the file's bytes begin one
abbrev pub KeepsLogText : Bool → Told → List ℕ → List ℕ → Type 0
KeepsLogText true told name gathered = FileBeginsLog told name
KeepsLogText false told name gathered = (lines : Lines) × TellsText false (Some told) name gathered lines

-- the same (`KeepsLogText`) of a log's own name and gathered bytes
abbrev pub KeepsLog : Gathered → Told → Type 0
KeepsLog kept told = KeepsLogText kept.failed told (name_of kept) kept.bytes.items

-- where the first kept the text of a log with these contents, the second does with those
abbrev pub StillKeeps : Gathered → Gathered → Told → Told → Type 0
StillKeeps kept now before after = KeepsLog kept before → KeepsLog now after

-- the contents are told, and the file holds the text of the lines
abbrev pub HasText : Option Told → List ℕ → Lines → Type 0
HasText None name lines = ⊥
HasText (Some told) name lines = told name ≡ Some (log_text lines)

-- the files after a log that couldn't be started: where they are known, its file stands as it stood, or has
-- the first line or a front of it, and no other changed. A failure comes only with a count of faults that
-- rose
pub record StartFails (name : List ℕ) (before : FilesAt) (fault : LogSinkFault) (after : FilesAt) : Type 0 where
  pub file : WhereTold before.contents after.contents (MaySet name header)
  pub later : before.write_faults ≤ after.write_faults
  pub cause : fault ≡ Failed → Rose before.write_faults after.write_faults

-- a log in a file at a later state, and the files then: its name is the same, where contents are told it still keeps
-- the text of a log and no other file has changed, and nothing was read
pub record IsKeptLater (kept : Gathered) (before : FilesAt) (now : Gathered) (after : FilesAt) : Type 0 where
  pub name : name_of now ≡ name_of kept
  pub others : WhereTold before.contents after.contents (SameElsewhere (name_of kept))
  pub keeps : WhereTold before.contents after.contents (StillKeeps kept now)
  pub read_faults : after.read_faults ≡ before.read_faults
  pub reads : after.reads ≡ before.reads

-- laws of the later state
pub where_told_same : (c : Option Told) (name : List ℕ) → WhereTold c c (SameElsewhere name)
where_told_same None name = tt
where_told_same (Some told) name = λ other ne. refl

pub where_told_more : (a b c : Option Told) (first second : List ℕ) → second ≡ first →
    WhereTold a b (SameElsewhere first) → WhereTold b c (SameElsewhere second) → WhereTold a c (SameElsewhere first)
where_told_more None b c first second e h k = tt
where_told_more (Some x) None c first second e h k = absurd h
where_told_more (Some x) (Some y) None first second e h k = absurd k
where_told_more (Some x) (Some y) (Some z) first second e h k = λ other ne. k other (λ same. ne (same ∙ e)) ∙ h other ne

-- a state tells one list
pub tells_once : (failed : Bool) (contents : Option Told) (name gathered : List ℕ) (a b : Lines) →
    TellsText failed contents name gathered a → TellsText failed contents name gathered b → a ≡ b
tells_once failed None name gathered a b h k = absurd h.1
tells_once failed (Some told) name gathered a b h k =
    let same : h.1.0 ≡ k.1.0 = let e : Some h.1.0 ≡ Some k.1.0 = sym h.1.1 ∙ k.1.1 in cc in
    log_text_once a b (formed_lines a h.2) (formed_lines b k.2)
    (sym h.1.2 ∙ ap (λ (xs : List ℕ). xs ++ gathered) same ∙ k.1.2)

pub keeps_same : (c : Option Told) (kept : Gathered) → WhereTold c c (StillKeeps kept kept)
keeps_same None kept = tt
keeps_same (Some told) kept = λ k. k

pub keeps_more : (a b c : Option Told) (x y z : Gathered) → WhereTold a b (StillKeeps x y) →
    WhereTold b c (StillKeeps y z) → WhereTold a c (StillKeeps x z)
keeps_more None b c x y z h k = tt
keeps_more (Some a) None c x y z h k = absurd h
keeps_more (Some a) (Some b) None x y z h k = absurd k
keeps_more (Some a) (Some b) (Some c) x y z h k = λ f. k (h f)

pub later_itself : (kept : Gathered) (files : FilesAt) → IsKeptLater kept files kept files
later_itself kept files = record {
  name = refl;
  others = where_told_same files.contents (name_of kept);
  keeps = keeps_same files.contents kept;
  read_faults = refl;
  reads = refl;
}

pub later_again : (x y z : Gathered) (a b c : FilesAt) → IsKeptLater x a y b → IsKeptLater y b z c → IsKeptLater x a z c
later_again x y z a b c h k = record {
  name = k.name ∙ h.name;
  others = where_told_more a.contents b.contents c.contents (name_of x) (name_of y) h.name h.others k.others;
  keeps = keeps_more a.contents b.contents c.contents x y z h.keeps k.keeps;
  read_faults = k.read_faults ∙ h.read_faults;
  reads = k.reads ∙ h.reads;
}
