-- What was read of a file is answered as the file is.
use Rattle.std.proofs.Common.{◌≡◌, ◌⊎◌, ℕ, suc, ◌<◌, ◌≤◌, List, [], ◌++◌, None, Some, length, take, refl, sym, ◌∙◌, ap, subst, inl, inr, arith}
use Rattle.std.specs.declared.option.Option.{Option}
use Rattle.std.proofs.lemmas.List.{take_all, length-take}
use Rattle.plan_core.specs.Graph.{Graph}
use Rattle.track_order.specs.Order.{EdgeOrder}
use Rattle.outside_io.specs.Contents.{FilesAt, Told, WhereTold, SameFiles, ReadsFront, IsFileWhereTold}
use Rattle.outside_io.specs.Counts.{next_count}
use Rattle.run_input.specs.declared.fault.RunFault.{RunFault}
use Rattle.run_input.specs.declared.fault.RunFault.TheVariants.{ReadFailed}
use Rattle.run_input.specs.declared.input.InputRefusal.{InputRefusal}
use Rattle.run_input.specs.declared.input.InputRefusal.TheVariants as refusals
use Rattle.run_input.specs.declared.status.Status.{Status}
use Rattle.run_input.specs.Fault.{IsFaultLine, fault_line, fault_status}
use Rattle.run_input.specs.Input.{IsLong, IsShort, HasFileFault, IsOfFile, IsStationOf}
use Rattle.run_input.specs.Met.{Met, between, HasRead, LeftSo}
use Rattle.run_input.specs.Reading.{IsInput, IsUnreadInput, IsRefusalOf}
use Rattle.run_input.specs.Answer.{InputFile, text_input, IsFileJudged, IsAnswerAfter, IsAnswerOn, HasReadStation}
use Rattle.run_input.proofs.InputLemmas.{short_or_long}
use Rattle.run_input.proofs.MetLemmas.{read_later, fails_later}

-- ---- what was read

-- a front that isn't too long is the whole file
few_are_all : (limit asked : ℕ) (bytes : List ℕ) → limit < asked → length (take asked bytes) ≤ limit → take asked bytes ≡ bytes
few_are_all limit asked bytes large few = take_all asked bytes (omega (arith, length-take asked bytes))

-- the front of a file that was read, where it isn't too long
pub input_of_front : (input : InputFile) (contents : Option Told) (old new : List ℕ) (asked : ℕ) → input.limit < asked → old ≡ [] →
    ReadsFront contents input.name asked old new → IsShort input.limit new → IsInput input contents new
input_of_front input None old new asked large empty read short = record { is_file = tt; short = short }
input_of_front input (Some told) old new asked large empty read short =
    let same : new ≡ take asked read.0 = read.2 ∙ ap (λ xs. xs ++ take asked read.0) empty in
    let whole : new ≡ read.0 = same ∙ few_are_all input.limit asked read.0 large (subst (IsShort input.limit) same short) in
    record { is_file = read.1 ∙ ap (λ (xs : List ℕ). Some xs) (sym whole); short = short }

-- and where it is
pub long_of_front : (input : InputFile) (contents : Option Told) (old new : List ℕ) (asked : ℕ) → old ≡ [] → ReadsFront contents input.name asked old new →
    IsLong input.limit new → IsOfFile (IsLong input.limit) input.name contents
long_of_front input None old new asked empty read long = (new, tt, long)
long_of_front input (Some told) old new asked empty read long =
    let same : new ≡ take asked read.0 = read.2 ∙ ap (λ xs. xs ++ take asked read.0) empty in
    let front : IsLong input.limit (take asked read.0) = subst (IsLong input.limit) same long in
    (read.0, read.1, omega (arith, front, length-take asked read.0))

-- ---- how an input is answered

-- an input that was read is answered as its bytes are
pub read_on : (input : InputFile) (done : ℕ) (met : Met) (Answers : List ℕ → Status → List ℕ → Type 0) (bytes : List ℕ) (status : Status) (text : List ℕ) →
    IsInput input met.before.contents bytes → Answers bytes status text → IsAnswerOn input done met Answers status text
read_on input done met Answers bytes status text is answer = inl (bytes, is.is_file, inr (is.short, answer))

-- the first input, with a fault or one that couldn't be read, is answered with that
pub refused_on : (Answers : Graph → EdgeOrder → Status → List ℕ → Type 0) (name : List ℕ) (met : Met) (r : InputRefusal) (fault : RunFault) (status : Status)
    (text : List ℕ) →
    IsRefusalOf name met r → r ≡ refusals.Fault fault → IsFaultLine fault status text →
    IsAnswerOn (text_input 1 name) 0 met (IsAnswerAfter 1 met (IsFileJudged Answers)) status text
refused_on Answers name met (refusals.Fault other) fault status text (inl ((bytes, is, has), read)) same told =
    let here : HasFileFault bytes fault = subst (λ (f : RunFault). HasFileFault bytes f) (cc) has in
    elim (short_or_long bytes fault here) [
      | inl (long, named) ↦ inl (bytes, is, inl (long, read, subst (λ (f : RunFault). IsFaultLine f status text) named told))
      | inr short ↦ inl (bytes, is, inr (short, (read, inr (record { fault = fault; has = here; answers = told }))))
    ]
refused_on Answers name met (refusals.Fault other) fault status text (inr (failed, named)) same told =
    let here : fault ≡ ReadFailed 1 = cc in
    inr (failed, subst (λ (f : RunFault). IsFaultLine f status text) here told)
refused_on Answers name met refusals.Memory fault status text refused same told = absurd (cc)

-- ---- two reads

-- a file that is told after a read is told before it
pub told_before : (old mid : Option Told) (name bytes : List ℕ) → WhereTold old mid SameFiles → IsFileWhereTold mid name bytes → IsFileWhereTold old name bytes
told_before None mid name bytes same is = tt
told_before (Some before) None name bytes same is = absurd same
told_before (Some before) (Some after) name bytes same is = sym (same name) ∙ is

-- a read of an input that is the same to other files, and counted once
pub record IsRead (old mid : FilesAt) : Type 0 where
  pub same : WhereTold old.contents mid.contents SameFiles
  pub later : old.read_faults ≤ mid.read_faults
  pub one : mid.reads ≡ next_count old.reads

-- what is answered on the files after a read is answered on those before it
pub answer_before : (input : InputFile) (done : ℕ) (old mid new : FilesAt) (Answers Others : List ℕ → Status → List ℕ → Type 0) (status : Status)
    (text : List ℕ) → IsRead old mid →
    ((bytes : List ℕ) → Answers bytes status text → Others bytes status text) → IsAnswerOn input done (between mid new) Answers status text →
    IsAnswerOn input (suc done) (between old new) Others status text
answer_before input done old mid new Answers Others status text read others (inl (bytes, is, inl (long, done_all, told))) =
    inl (bytes, told_before old.contents mid.contents input.name bytes read.same is, inl (long, read_later (suc done) old mid new read.one done_all, told))
answer_before input done old mid new Answers Others status text read others (inl (bytes, is, inr (short, answer))) =
    inl (bytes, told_before old.contents mid.contents input.name bytes read.same is, inr (short, others bytes answer))
answer_before input done old mid new Answers Others status text read others (inr (fails, told)) = inr
    (fails_later done old mid new read.later read.one fails, told)

-- and after so many reads
pub after_before : (done : ℕ) (old mid new : FilesAt) (Answers : List ℕ → Status → List ℕ → Type 0) (bytes : List ℕ) (status : Status) (text : List ℕ) →
    IsRead old mid →
    IsAnswerAfter done (between mid new) Answers bytes status text → IsAnswerAfter (suc done) (between old new) Answers bytes status text
after_before done old mid new Answers bytes status text read (done_all, answer) = (read_later done old mid new read.one done_all, answer)

-- ---- what is told

-- the trace is told nothing where the run is refused or has nothing to search; it is neither here
pub untold_here : {T : Type 0} (name : List ℕ) (old new : FilesAt) (g : Graph) (o : EdgeOrder) (Refused : Type 0) (before after : T) →
    IsStationOf name old.contents g o → HasRead (between old new) 1 → (Refused → ⊥) →
    Refused ⊎ (HasReadStation name (between old new) → ⊥) → after ≡ before
untold_here name old new g o Refused before after has read answered (inl refused) = absurd (answered refused)
untold_here name old new g o Refused before after has read answered (inr none) = absurd (none (g, o, (read, has)))

-- more may be answered
pub on_weaker : (input : InputFile) (done : ℕ) (met : Met) (A B : List ℕ → Status → List ℕ → Type 0) (status : Status) (text : List ℕ) →
    ((bytes : List ℕ) → A bytes status text → B bytes status text) →
    IsAnswerOn input done met A status text → IsAnswerOn input done met B status text
on_weaker input done met A B status text weaker (inl (bytes, is, inl long)) = inl (bytes, is, inl long)
on_weaker input done met A B status text weaker (inl (bytes, is, inr (short, answer))) = inl (bytes, is, inr (short, weaker bytes answer))
on_weaker input done met A B status text weaker (inr fails) = inr fails

-- an input that is too long, or couldn't be read
pub unread_on : (input : InputFile) (met : Met) (fault : RunFault) (A : List ℕ → Status → List ℕ → Type 0) → IsUnreadInput input met (refusals.Fault fault) →
    IsAnswerOn input 0 met A (fault_status fault) (fault_line fault)
unread_on input met fault A (inl ((bytes, is, long), read, named)) = inl (
  bytes,
  is,
  inl
      (long, read, subst (λ (f : RunFault). IsFaultLine f (fault_status fault) (fault_line fault)) named (record { status_is = refl; line_is = refl })),
)
unread_on input met fault A (inr (fails, named)) = inr (
  fails,
  subst (λ (f : RunFault). IsFaultLine f (fault_status fault) (fault_line fault)) named (record {
    status_is = refl;
    line_is = refl;
  }),
)

-- files that stand as they stood are left so, whatever they may be left with
pub leaves_same : (May : (name bytes : List ℕ) → Type 0) (old new : Option Told) → WhereTold old new SameFiles → WhereTold old new (LeftSo May)
leaves_same May None new same = tt
leaves_same May (Some a) None same = absurd same
leaves_same May (Some a) (Some b) same = λ name. inl (same name)
