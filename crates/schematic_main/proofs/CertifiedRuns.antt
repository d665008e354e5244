-- A whole run of check ends with 0 exactly where the log that it reads certifies what the sheet claims; so it does on what
-- a run of draw put and left.
use Rattle.std.proofs.Common.{◌≡◌, ◌≢◌, ℕ, false, List, None, Some, refl, sym, ◌∙◌, ap, subst, inl, inr, lit<, arith}
use Rattle.std.specs.Prelude.{⊤}
use Rattle.std.specs.declared.option.Option.{Option}
use Rattle.plan_core.specs.declared.limits.TheConstants.{MAX_LOG_BYTES}
use Rattle.plan_core.specs.declared.criterion.Criterion.{Criterion}
use Rattle.plan_core.specs.Grid.{GridSize}
use Rattle.plan_core.specs.Graph.{Graph}
use Rattle.track_order.specs.Order.{EdgeOrder}
use Rattle.outside_io.specs.Contents.{Told, IsFileWhereTold}
use Rattle.plan_words.specs.declared.command.Command.TheVariants.{Draw, Check}
use Rattle.plan_text.specs.SheetText.{Sheet, sheet_text}
use Rattle.plan_text.proofs.ShortSheet.{short_sheet}
use Rattle.refute_log.specs.Lines.{log_text}
use Rattle.refute_log.specs.Told.{Lines}
use Rattle.log_check.specs.declared.verdict.Verdict.TheVariants.{Certified}
use Rattle.run_input.specs.declared.status.Status.{Status}
use Rattle.run_input.specs.declared.status.Status.TheVariants.{Done, Refused, Unread}
use Rattle.run_input.specs.Status.{IsAnswered}
use Rattle.run_input.specs.Input.{IsLong, IsShort, HasStation}
use Rattle.run_input.specs.Met.{Met, ReadFails}
use Rattle.run_input.specs.Answer.{InputFile, text_input, log_input, IsFileJudged, IsAnswerAfter, IsAnswerOn}
use Rattle.run_check.specs.CheckLine.{claimed, verdict_line}
use Rattle.run_check.specs.Checked.{IsClaimJudged, IsChecked, PassesCheck}
use Rattle.run_check.specs.CertifiedSheet.{ClaimsTruly, HasCertifiedFiles}
use Rattle.schematic_main.specs.Commands.{Owes}
use Rattle.run_input.specs.SearchLog.{HoldsLog, IsRunLog}
use Rattle.run_draw_front.specs.Drawn.{Job, job, sheet_of, IsDrawn, IsDrawAnswer}
use Rattle.schematic_main.specs.Run.{FailsIn, IsCheckOfDrawn}
use Rattle.run_input.proofs.InputLemmas.{file_fault_status}
use Rattle.schematic_main.proofs.PassesLemmas.{ended_passes}
use Rattle.run_check.proofs.CheckedLemmas.{IsCertifiedSheet, certified_answer, certified_is_due, only_certified}

-- ---- one input

-- where files are told, one list of bytes stands under a name
one_file : (contents : Option Told) (name bytes others : List ℕ) → contents ≢ None → IsFileWhereTold contents name bytes →
    IsFileWhereTold contents name others → others ≡ bytes
one_file None name bytes others told is also = absurd (told refl)
one_file (Some at) name bytes others told is also = let k : Some others ≡ Some bytes = sym also ∙ is in cc

-- an answer on an input that was read and isn't too long is one to its bytes
pub bytes_answered : (input : InputFile) (done : ℕ) (met : Met) (bytes : List ℕ) (Answers : List ℕ → Status → List ℕ → Type 0) (status : Status) (line : List ℕ)
    → met.before.contents ≢ None →
    IsFileWhereTold met.before.contents input.name bytes → IsShort input.limit bytes → (ReadFails met done → ⊥) →
    IsAnswerOn input done met Answers status line → Answers bytes status line
bytes_answered input done met bytes Answers status line told is short read (inl (others, also, inl (long, done_all, fault))) =
    let too_long = subst (IsLong input.limit) (one_file met.before.contents input.name bytes others told is also) long in
    absurd (omega (arith, short, too_long))
bytes_answered input done met bytes Answers status line told is short read (inl (others, also, inr (few, answer))) =
    subst (λ (xs : List ℕ). Answers xs status line) (one_file met.before.contents input.name bytes others told is also) answer
bytes_answered input done met bytes Answers status line told is short read (inr (fails, fault)) = absurd (read fails)

-- what a run that ends with 0 answered to an input
pub record IsAnsweredWith0 (input : InputFile) (met : Met) (Answers : List ℕ → Status → List ℕ → Type 0) (line : List ℕ) : Type 0 where
  pub bytes : List ℕ
  pub is : IsFileWhereTold met.before.contents input.name bytes
  pub short : IsShort input.limit bytes
  pub answer : Answers bytes Done line

pub answered_with_0 : (input : InputFile) (done : ℕ) (met : Met) (Answers : List ℕ → Status → List ℕ → Type 0) (line : List ℕ) →
    IsAnswerOn input done met Answers Done line → IsAnsweredWith0 input met Answers line
answered_with_0 input done met Answers line (inl (bytes, is, inl (long, done_all, fault))) = let no : Done ≡ Refused = fault.status_is in absurd (cc)
answered_with_0 input done met Answers line (inl (bytes, is, inr (few, answer))) = record { bytes = bytes; is = is; short = few; answer = answer }
answered_with_0 input done met Answers line (inr (fails, fault)) = let no : Done ≡ Unread = fault.status_is in absurd (cc)

-- ---- the three inputs of check

abbrev OnLog : List ℕ → Met → (file text : List ℕ) → Status → List ℕ → Type 0
OnLog log met file text = IsAnswerOn (log_input 3 log) 2 met (IsAnswerAfter 3 met (IsChecked file text))

abbrev OnSheet : (sheet log : List ℕ) → Met → (file : List ℕ) → Status → List ℕ → Type 0
OnSheet sheet log met file = IsAnswerOn (text_input 2 sheet) 1 met (OnLog log met file)

pub certified_run : (input sheet log : List ℕ) (met : Met) (g : Graph) (o : EdgeOrder) (said : Sheet) (status : Status) (line : List ℕ) →
    met.before.contents ≢ None →
    HasCertifiedFiles met.before.contents input sheet log g o said → (FailsIn (Check input sheet log) met → ⊥) →
    Owes (Check input sheet log) met (λ lines. ⊤) status line →
    (status ≡ Done) × (line ≡ verdict_line (claimed said.order said.ending) Certified)
certified_run input sheet log met g o said status line told files read owes =
    let file_short = files.station.has_graph.has_topology.has_rows.few in
    let sheet_short = short_sheet g false files.text said files.station.has_graph.built.station files.certifies.is_text in
    let first = bytes_answered (text_input 1 input) 0 met files.file (OnSheet sheet log met) status line told files.is_file file_short
    (λ fails. read (0, lit< tt, fails)) owes in
    let second = bytes_answered (text_input 2 sheet) 1 met files.text (OnLog log met files.file) status line told files.is_sheet sheet_short
    (λ fails. read (1, lit< tt, fails)) first in
    let third = bytes_answered (log_input 3 log) 2 met files.kept (IsAnswerAfter 3 met (IsChecked files.file files.text)) status line told files.is_log
    files.short (λ fails. read (2, lit< tt, fails)) second in
    certified_is_due files.file files.text files.kept g o said status line files.station files.certifies third.1

pub only_certified_run : (input sheet log : List ℕ) (met : Met) (line : List ℕ) → Owes (Check input sheet log) met (λ lines. ⊤) Done line →
    (g : Graph) × (o : EdgeOrder) × (said : Sheet) × HasCertifiedFiles met.before.contents input sheet log g o said × ClaimsTruly g o said ×
    (line ≡ verdict_line (claimed said.order said.ending) Certified)
only_certified_run input sheet log met line owes =
    let file = answered_with_0 (text_input 1 input) 0 met (OnSheet sheet log met) line owes in
    let said = answered_with_0 (text_input 2 sheet) 1 met (OnLog log met file.bytes) line file.answer in
    let kept = answered_with_0 (log_input 3 log) 2 met (IsAnswerAfter 3 met (IsChecked file.bytes said.bytes)) line said.answer in
    let found = only_certified file.bytes said.bytes kept.bytes line kept.answer.1 in
    let files : HasCertifiedFiles met.before.contents input sheet log found.0 found.1 found.2 = record {
      file = file.bytes;
      is_file = file.is;
      station = found.3;
      text = said.bytes;
      is_sheet = said.is;
      kept = kept.bytes;
      is_log = kept.is;
      short = kept.short;
      certifies = found.4;
    } in
    (found.0, found.1, found.2, files, found.5, found.6)

-- ---- on what draw put and told

-- a sheet and a log that pass are certified
certified_of : (g : Graph) (o : EdgeOrder) (sheet log line : List ℕ) → IsClaimJudged g o sheet log Done line →
    (said : Sheet) × IsCertifiedSheet g o sheet log line said
certified_of g o sheet log line (inl checked) = (checked.said, certified_answer g o sheet log line checked.said checked.is_text checked.answer)
certified_of g o sheet log line (inr refused) = let no : Done ≡ Refused = refused.answers.status_is in absurd (cc)

passed_files : (file input sheet log : List ℕ) (g : Graph) (o : EdgeOrder) (drawn : Sheet) (lines : Lines) (contents : Told) → HasStation file g o →
    PassesCheck g o drawn lines → IsShort MAX_LOG_BYTES (log_text lines) →
    contents input ≡ Some file → contents sheet ≡ Some (sheet_text g drawn) → contents log ≡ Some (log_text lines) →
    (said : Sheet) × HasCertifiedFiles (Some contents) input sheet log g o said
passed_files file input sheet log g o drawn lines contents has passes short is_file is_sheet is_log =
    let found = certified_of g o (sheet_text g drawn) (log_text lines) (verdict_line (claimed drawn.order drawn.ending) Certified) passes in (
      found.0,
      record {
        file = file;
        is_file = is_file;
        station = has;
        text = sheet_text g drawn;
        is_sheet = is_sheet;
        kept = log_text lines;
        is_log = is_log;
        short = short;
        certifies = found.1.0;
      },
    )

drawn_passes : (g : Graph) (o : EdgeOrder) (asked : Job) (IsTold : Lines → Type 0) (status : Status) (text : List ℕ)
    (drawn : IsDrawn g o asked IsTold status text) →
    PassesCheck g o (sheet_of asked drawn.outcome) drawn.searched.lines
drawn_passes g o asked IsTold status text drawn = ended_passes g o asked drawn.outcome drawn.searched.lines drawn.searched.ended drawn.read

pub told_passes : (g : Graph) (o : EdgeOrder) (asked : Job) (told : Lines) (status : Status) (text : List ℕ)
    (drawn : IsDrawn g o asked (λ lines. lines ≡ told) status text) →
    PassesCheck g o (sheet_of asked drawn.outcome) told
told_passes g o asked told status text drawn =
    subst (λ (lines : Lines). PassesCheck g o (sheet_of asked drawn.outcome) lines) drawn.searched.told
    (drawn_passes g o asked (λ lines. lines ≡ told) status text drawn)

own_files : (file input sheet log : List ℕ) (g : Graph) (o : EdgeOrder) (asked : Job) (IsTold : Lines → Type 0) (status : Status) (text : List ℕ)
    (contents : Told) → HasStation file g o →
    (drawn : IsDrawn g o asked IsTold status text) → IsShort MAX_LOG_BYTES (log_text drawn.searched.lines) → contents input ≡ Some file →
    contents sheet ≡ Some text →
    contents log ≡ Some (log_text drawn.searched.lines) → (said : Sheet) × HasCertifiedFiles (Some contents) input sheet log g o said
own_files file input sheet log g o asked IsTold status text contents has drawn short is_file is_sheet is_log =
    passed_files file input sheet log g o (sheet_of asked drawn.outcome) drawn.searched.lines contents has (drawn_passes g o asked IsTold status text drawn)
    short is_file
    (is_sheet ∙ ap (λ (bytes : List ℕ). Some bytes) drawn.spelled) is_log

-- an answer of the command's own is one to the bytes of the input
answered_from : (input : InputFile) (done : ℕ) (met : Met) (Answers : List ℕ → Status → List ℕ → Type 0) (status : Status) (text : List ℕ) → IsAnswered status →
    IsAnswerOn input done met Answers status text → (bytes : List ℕ) × IsFileWhereTold met.before.contents input.name bytes × Answers bytes status text
answered_from input done met Answers status text answered (inl (bytes, is, inl (long, done_all, fault))) = absurd (subst IsAnswered fault.status_is answered)
answered_from input done met Answers status text answered (inl (bytes, is, inr (few, answer))) = (bytes, is, answer)
answered_from input done met Answers status text answered (inr (fails, fault)) = absurd (subst IsAnswered fault.status_is answered)

-- and one to the station of the file
station_from : (Answers : Graph → EdgeOrder → Status → List ℕ → Type 0) (bytes : List ℕ) (status : Status) (text : List ℕ) → IsAnswered status →
    IsFileJudged Answers bytes status text →
    (g : Graph) × (o : EdgeOrder) × HasStation bytes g o × Answers g o status text
station_from Answers bytes status text answered (inl judged) = judged
station_from Answers bytes status text answered (inr refused) =
    absurd (subst IsAnswered (refused.answers.status_is ∙ file_fault_status bytes refused.fault refused.has) answered)

-- the file of a name, where contents are told
pub at_name : (contents : Option Told) (told : Told) (name bytes : List ℕ) → contents ≡ Some told → IsFileWhereTold contents name bytes → told name ≡ Some bytes
at_name contents told name bytes is file = subst (λ (c : Option Told). IsFileWhereTold c name bytes) is file

held : (before after : Option Told) (old new : Told) (name : List ℕ) (lines : Lines) → before ≡ Some old → after ≡ Some new → HoldsLog before after name lines →
    new name ≡ Some (log_text lines)
held before after old new name lines is_old is_new holds =
    let told : HoldsLog (Some old) (Some new) name lines =
    subst (λ (c : Option Told). HoldsLog (Some old) c name lines) is_new (subst (λ (c : Option Told). HoldsLog c after name lines) is_old holds) in
    told.text

pub own_run : (input sheet log : List ℕ) (grid : GridSize) (order : List Criterion) (budget : ℕ) (svg : Option (List ℕ)) (met next : Met)
    (status other : Status) (text line : List ℕ) →
    Owes (Draw input grid order budget svg (Some log)) met (λ lines. ⊤) status text → IsAnswered status → IsCheckOfDrawn met next input sheet log text →
    (FailsIn (Check input sheet log) next → ⊥) → Owes (Check input sheet log) next (λ lines. ⊤) other line → other ≡ Done
own_run input sheet log grid order budget svg met next status other text line owes answered files read checks =
    let traced : Lines → Type 0 = λ lines. ⊤ in
    let asked = job grid order budget svg (Some log) in
    let IsTold : Lines → Type 0 = IsRunLog (Some log) met traced in
    let file = answered_from (text_input 1 input) 0 met (IsAnswerAfter 1 met (IsFileJudged (IsDrawAnswer asked met traced))) status text answered owes in
    let judged = station_from (IsDrawAnswer asked met traced) file.0 status text answered file.2.1 in
    let drawn : IsDrawn judged.0 judged.1 asked IsTold status text = judged.3.drawn in
    let log_left = held met.before.contents met.after.contents files.before files.after log drawn.searched.lines files.is_before files.is_after
    drawn.searched.told in
    let is_file = files.same_input ∙ at_name met.before.contents files.before input file.0 files.is_before file.1 in
    let is_log = files.same_log ∙ log_left in
    let own = own_files file.0 input sheet log judged.0 judged.1 asked IsTold status text files.now judged.2 drawn
    (files.short (log_text drawn.searched.lines) is_log) is_file files.is_sheet is_log in
    let certified = subst (λ (c : Option Told). HasCertifiedFiles c input sheet log judged.0 judged.1 own.0) (sym files.is_now) own.1 in
    (certified_run input sheet log next judged.0 judged.1 own.0 other line (λ none. let no : Some files.now ≡ None = sym files.is_now ∙ none in absurd (cc))
    certified read checks).0
