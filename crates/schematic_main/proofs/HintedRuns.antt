-- A whole run of recheck ends with 0 exactly where the hinted lines that it reads certify what the sheet claims; so it does
-- on what a run of trim left.
use Rattle.std.proofs.Common.{◌≡◌, ◌≢◌, ℕ, false, List, None, Some, refl, sym, ◌∙◌, subst, inl, inr, lit<}
use Rattle.std.specs.Prelude.{⊤}
use Rattle.std.specs.declared.option.Option.{Option}
use Rattle.plan_core.specs.Graph.{Graph}
use Rattle.track_order.specs.Order.{EdgeOrder}
use Rattle.outside_io.specs.Contents.{Told, IsFileWhereTold, WhereTold}
use Rattle.plan_words.specs.declared.command.Command.TheVariants.{Trim, Recheck}
use Rattle.plan_text.specs.SheetText.{Sheet}
use Rattle.plan_text.proofs.ShortSheet.{short_sheet}
use Rattle.log_trim.specs.declared.trimming.TrimmedLog.{TrimmedLog}
use Rattle.run_input.specs.declared.status.Status.{Status}
use Rattle.run_input.specs.declared.status.Status.TheVariants.{Done, Unfinished}
use Rattle.run_input.specs.Met.{Met}
use Rattle.run_input.specs.Answer.{text_input, log_input, IsAnswerAfter, IsAnswerOn}
use Rattle.run_check.specs.Texts.{left_text}
use Rattle.run_check.specs.Trimmed.{AreTrimmed, HasReadLeft}
use Rattle.run_check.specs.Rechecked.{IsRechecked, IsHintsLine}
use Rattle.run_check.proofs.RecheckedLemmas.{recheck_due, recheck_only}
use Rattle.run_check.proofs.CertifiedLemmas.{left_is_certified}
use Rattle.schematic_main.specs.Commands.{Owes}
use Rattle.schematic_main.specs.Run.{FailsIn}
use Rattle.schematic_main.specs.WholeRuns.{HasHintedFiles, AreHinted, IsRecheckOfTrimmed}
use Rattle.schematic_main.proofs.CertifiedRuns.{bytes_answered, answered_with_0, at_name}

-- ---- the three inputs

abbrev OnHints : List ℕ → Met → (file text : List ℕ) → Status → List ℕ → Type 0
OnHints hints met file text = IsAnswerOn (log_input 3 hints) 2 met (IsAnswerAfter 3 met (IsRechecked file text))

abbrev OnSheet : (sheet hints : List ℕ) → Met → (file : List ℕ) → Status → List ℕ → Type 0
OnSheet sheet hints met file = IsAnswerOn (text_input 2 sheet) 1 met (OnHints hints met file)

pub hinted_run : (input sheet hints : List ℕ) (met : Met) (g : Graph) (o : EdgeOrder) (said : Sheet) (status : Status) (line : List ℕ) →
    met.before.contents ≢ None → HasHintedFiles met.before.contents input sheet hints g o said →
    (FailsIn (Recheck input sheet hints) met → ⊥) → Owes (Recheck input sheet hints) met (λ lines. ⊤) status line → (status ≡ Done) × IsHintsLine said line
hinted_run input sheet hints met g o said status line told files read owes =
    let file_short = files.station.has_graph.has_topology.has_rows.few in
    let sheet_short = short_sheet g false files.text said files.station.has_graph.built.station files.certify.is_text in
    let first = bytes_answered (text_input 1 input) 0 met files.file (OnSheet sheet hints met) status line told files.is_file file_short
    (λ fails. read (0, lit< tt, fails)) owes in
    let second = bytes_answered (text_input 2 sheet) 1 met files.text (OnHints hints met files.file) status line told files.is_sheet sheet_short
    (λ fails. read (1, lit< tt, fails)) first in
    let third = bytes_answered (log_input 3 hints) 2 met files.kept (IsAnswerAfter 3 met (IsRechecked files.file files.text)) status line told files.is_hints
    files.short (λ fails. read (2, lit< tt, fails)) second in
    recheck_due files.file files.text files.kept g o said status line files.station files.certify third.1

pub only_hinted_run : (input sheet hints : List ℕ) (met : Met) (line : List ℕ) → Owes (Recheck input sheet hints) met (λ lines. ⊤) Done line →
    AreHinted met.before.contents input sheet hints line
only_hinted_run input sheet hints met line owes =
    let file = answered_with_0 (text_input 1 input) 0 met (OnSheet sheet hints met) line owes in
    let said = answered_with_0 (text_input 2 sheet) 1 met (OnHints hints met file.bytes) line file.answer in
    let kept = answered_with_0 (log_input 3 hints) 2 met (IsAnswerAfter 3 met (IsRechecked file.bytes said.bytes)) line said.answer in
    let found = recheck_only file.bytes said.bytes kept.bytes line kept.answer.1 in
    let files : HasHintedFiles met.before.contents input sheet hints found.0 found.1 found.2 = record {
      file = file.bytes;
      is_file = file.is;
      station = found.3;
      text = said.bytes;
      is_sheet = said.is;
      kept = kept.bytes;
      is_hints = kept.is;
      short = kept.short;
      certify = found.4;
    } in
    (found.0, found.1, found.2, files, found.5, found.6)

-- ---- what trim left

-- a run that ends with 0 left lines
record HasLeftLines (input sheet log hints : List ℕ) (met : Met) : Type 0 where
  left : TrimmedLog
  read : HasReadLeft input sheet log met left
  written : WhereTold met.before.contents met.after.contents (λ _ after. after hints ≡ Some (left_text left))

abbrev OnTrimmedLog : (log hints : List ℕ) → Met → (file text : List ℕ) → Status → List ℕ → Type 0
OnTrimmedLog log hints met file text = IsAnswerOn (log_input 3 log) 2 met (IsAnswerAfter 3 met (AreTrimmed hints met file text))

left_by : (input sheet log hints : List ℕ) (met : Met) (line : List ℕ) → Owes (Trim input sheet log hints) met (λ lines. ⊤) Done line →
    HasLeftLines input sheet log hints met
left_by input sheet log hints met line owes =
    let file = answered_with_0 (text_input 1 input) 0 met (λ bytes. IsAnswerOn (text_input 2 sheet) 1 met (OnTrimmedLog log hints met bytes)) line owes in
    let said = answered_with_0 (text_input 2 sheet) 1 met (OnTrimmedLog log hints met file.bytes) line file.answer in
    let kept = answered_with_0 (log_input 3 log) 2 met (IsAnswerAfter 3 met (AreTrimmed hints met file.bytes said.bytes)) line said.answer in
    elim kept.answer.1 [
      | inl other ↦ absurd (other.1 refl)
      | inr (inr (passes, told)) ↦ absurd (let e : Done ≡ Unfinished = told.status_is in cc)
      | inr (inl (r, leaves, told)) ↦ record {
        left = r;
        read = record {
          read = kept.answer.0;
          bytes = file.bytes;
          said = said.bytes;
          lines = kept.bytes;
          files = record {
            is_first = record { is_file = file.is; short = file.short };
            is_second = record { is_file = said.is; short = said.short };
            is_third = record { is_file = kept.is; short = kept.short };
          };
          leaves = leaves;
        };
        written = told.written;
      }
    ]

stands : (P : Told → Type 0) (before after : Option Told) (old new : Told) → before ≡ Some old → after ≡ Some new → WhereTold before after (λ _ c. P c) → P new
stands P before after old new is_old is_new h =
    let one : WhereTold (Some old) after (λ _ c. P c) = subst (λ (c : Option Told). WhereTold c after (λ _ d. P d)) is_old h in
    subst (λ (c : Option Told). WhereTold (Some old) c (λ _ d. P d)) is_new one

pub own_hints : (input sheet log hints : List ℕ) (met next : Met) (status : Status) (text line : List ℕ) →
    Owes (Trim input sheet log hints) met (λ lines. ⊤) Done text → IsRecheckOfTrimmed met next input sheet log hints →
    (FailsIn (Recheck input sheet hints) next → ⊥) → Owes (Recheck input sheet hints) next (λ lines. ⊤) status line → status ≡ Done
own_hints input sheet log hints met next status text line owes files read checks =
    let l = left_by input sheet log hints met text owes in
    let r = l.left in
    let bytes = l.read.bytes in
    let said = l.read.said in
    let inputs = l.read.files in
    let told : next.before.contents ≢ None = λ none. let no : Some files.now ≡ None = sym files.is_now ∙ none in absurd (cc) in
    let found : (name content : List ℕ) → files.now name ≡ Some content →
    IsFileWhereTold next.before.contents name content = λ name content is. subst (λ (c : Option Told). IsFileWhereTold c name content) (sym files.is_now)
    is in
    let is_input = files.same_input ∙ at_name met.before.contents files.before input bytes files.is_before inputs.is_first.is_file in
    let is_sheet = files.same_sheet ∙ at_name met.before.contents files.before sheet said files.is_before inputs.is_second.is_file in
    let left_there = stands (λ after. after hints ≡ Some (left_text r)) met.before.contents met.after.contents files.before files.after files.is_before
    files.is_after l.written in
    let is_hints = files.same_hints ∙ left_there in
    let first = bytes_answered (text_input 1 input) 0 next bytes (OnSheet sheet hints next) status line told (found input bytes is_input) inputs.is_first.short
    (λ fails. read (0, lit< tt, fails)) checks in
    let second = bytes_answered (text_input 2 sheet) 1 next said (OnHints hints next bytes) status line told (found sheet said is_sheet) inputs.is_second.short
    (λ fails. read (1, lit< tt, fails)) first in
    let third =
    bytes_answered (log_input 3 hints) 2 next (left_text r) (IsAnswerAfter 3 next (IsRechecked bytes said)) status line told
    (found hints (left_text r) is_hints) (files.short (left_text r) is_hints) (λ fails. read (2, lit< tt, fails)) second in
    left_is_certified bytes said l.read.lines r status line l.read.leaves (files.fits r l.read left_there) third.1
