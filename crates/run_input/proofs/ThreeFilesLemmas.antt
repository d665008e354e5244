-- Three files that were read, or couldn't be.
use Rattle.std.proofs.Common.{◌≡◌, ℕ, List, sym, subst}
use Rattle.outside_io.specs.Contents.{FilesAt}
use Rattle.run_input.specs.declared.fault.RunFault.{RunFault}
use Rattle.run_input.specs.declared.input.InputRefusal.{InputRefusal}
use Rattle.run_input.specs.declared.input.InputRefusal.TheVariants as refusals
use Rattle.run_input.specs.declared.status.Status.{Status}
use Rattle.run_input.specs.Fault.{IsFaultLine, fault_line, fault_status}
use Rattle.run_input.specs.Met.{Met, between, HasRead}
use Rattle.run_input.specs.Reading.{IsInput, IsUnreadInput}
use Rattle.run_input.specs.Answer.{InputFile, text_input, IsAnswerAfter, IsAnswerOn}
use Rattle.run_input.specs.ThreeFiles.{IsAnswerToThree, AreThreeFiles, IsUnreadOfThree}
use Rattle.run_input.proofs.AnswerLemmas.{IsRead, read_on, on_weaker, unread_on, answer_before}

-- ---- more may be answered

-- what follows the second file, and what the first
abbrev AfterSecond : (third : InputFile) → Met → (List ℕ → List ℕ → List ℕ → Status → List ℕ → Type 0) → (bytes next : List ℕ) → Status → List ℕ → Type 0
AfterSecond third met A bytes next = IsAnswerOn third 2 met (IsAnswerAfter 3 met (A bytes next))

abbrev AfterFirst : (second : List ℕ) → (third : InputFile) → Met → (List ℕ → List ℕ → List ℕ → Status → List ℕ → Type 0) → (bytes : List ℕ) → Status →
    List ℕ → Type 0
AfterFirst second third met A bytes = IsAnswerOn (text_input 2 second) 1 met (AfterSecond third met A bytes)

pub three_weaker : (first second : List ℕ) (third : InputFile) (met : Met) (A B : List ℕ → List ℕ → List ℕ → Status → List ℕ → Type 0) (status : Status)
    (text : List ℕ) →
    ((bytes next last : List ℕ) → A bytes next last status text → B bytes next last status text) → IsAnswerToThree first second third met A status text →
    IsAnswerToThree first second third met B status text
three_weaker first second third met A B status text weaker =
    on_weaker (text_input 1 first) 0 met (AfterFirst second third met A) (AfterFirst second third met B) status text
    (λ bytes. on_weaker (text_input 2 second) 1 met (AfterSecond third met A bytes) (AfterSecond third met B bytes) status text
    (λ next. on_weaker third 2 met (IsAnswerAfter 3 met (A bytes next)) (IsAnswerAfter 3 met (B bytes next)) status text
    (λ last answer. (answer.0, weaker bytes next last answer.1))))

-- ---- one that is too long, or couldn't be read

-- no bytes are answered
abbrev Nothing : List ℕ → Status → List ℕ → Type 0
Nothing bytes status text = ⊥

abbrev NothingOfThree : List ℕ → List ℕ → List ℕ → Status → List ℕ → Type 0
NothingOfThree bytes next last status text = ⊥

pub third_unread : (first second : List ℕ) (third : InputFile) (bytes next : List ℕ) (old mid late new : FilesAt) (r : InputRefusal) →
    IsInput (text_input 1 first) old.contents bytes → IsInput (text_input 2 second) mid.contents next → IsRead old mid → IsRead mid late →
    IsUnreadInput third (between late new) r → IsUnreadOfThree first second third (between old new) r
third_unread first second third bytes next old mid late new (refusals.Fault fault) is also read again unread =
    let met = between old new in
    let status = fault_status fault in
    let text = fault_line fault in
    let Second : List ℕ → Status → List ℕ → Type 0 = λ s. IsAnswerOn third 1 (between mid new) Nothing in
    read_on (text_input 1 first) 0 met (AfterFirst second third met NothingOfThree) bytes status text is
    (answer_before (text_input 2 second) 0 old mid new Second (AfterSecond third met NothingOfThree bytes) status text read
    (λ s. answer_before third 1 old mid new Nothing (IsAnswerAfter 3 met (NothingOfThree bytes s)) status text read (λ last none. absurd none))
    (read_on (text_input 2 second) 0 (between mid new) Second next status text also
    (answer_before third 0 mid late new Nothing Nothing status text again (λ last none. none)
    (unread_on third (between late new) fault Nothing unread))))
third_unread first second third bytes next old mid late new refusals.Memory is also read again unread = tt

-- its line is an answer, whatever is answered to bytes
pub unread_answer : (first second : List ℕ) (third : InputFile) (met : Met) (A : List ℕ → List ℕ → List ℕ → Status → List ℕ → Type 0) (r : InputRefusal)
    (fault : RunFault) (status : Status) (text : List ℕ) → r ≡ refusals.Fault fault →
    IsUnreadOfThree first second third met r → IsFaultLine fault status text → IsAnswerToThree first second third met A status text
unread_answer first second third met A r fault status text is unread told =
    let there : IsAnswerToThree first second third met NothingOfThree (fault_status fault) (fault_line fault) =
    subst (IsUnreadOfThree first second third met) is unread in
    three_weaker first second third met NothingOfThree A status text (λ bytes next last none. absurd none)
    (subst (λ (s : Status). IsAnswerToThree first second third met NothingOfThree s text) (sym told.status_is)
    (subst (λ (t : List ℕ). IsAnswerToThree first second third met NothingOfThree (fault_status fault) t) (sym told.line_is) there))

-- ---- all three

-- the bytes of files that were read are answered so
pub read_three : (first second : List ℕ) (third : InputFile) (met : Met) (A : List ℕ → List ℕ → List ℕ → Status → List ℕ → Type 0)
    (bytes next last : List ℕ) (status : Status) (text : List ℕ) → AreThreeFiles first second third met.before.contents bytes next last →
    HasRead met 3 → A bytes next last status text → IsAnswerToThree first second third met A status text
read_three first second third met A bytes next last status text files read answer =
    read_on (text_input 1 first) 0 met (AfterFirst second third met A) bytes status text files.is_first
    (read_on (text_input 2 second) 1 met (AfterSecond third met A bytes) next status text files.is_second
    (read_on third 2 met (IsAnswerAfter 3 met (A bytes next)) last status text files.is_third (read, answer)))
