-- What verify, check, trim and recheck put is so: it follows from what they owe.
use Rattle.std.proofs.Common.{◌≡◌, ℕ, ◌≢◌, Bool, false, true, List, length, None, Some, refl, sym, subst, inl, inr, arith}
use Rattle.std.specs.Prelude.{IfSome, flat_map}
use Rattle.std.specs.declared.option.Option.{Option}
use Rattle.std.proofs.lemmas.List.{take_all}
use Rattle.outside_io.specs.Contents.{Told, IsFileWhereTold}
use Rattle.plan_core.specs.declared.criterion.Criterion.{Criterion}
use Rattle.plan_core.specs.Grid.{GridSize}
use Rattle.plan_core.specs.Graph.{Graph}
use Rattle.plan_core.specs.Drawing.{Drawing}
use Rattle.plan_core.specs.Lawful.{Lawful}
use Rattle.plan_core.specs.Values.{values_of, limit_of, Better}
use Rattle.track_order.specs.Order.{EdgeOrder, is_above}
use Rattle.lawful_check.proofs.LeastLemmas.{lawful_breaks_none}
use Rattle.plan_write.specs.declared.ending.Ending.{Ending}
use Rattle.plan_write.specs.declared.ending.Ending.TheVariants as endings
use Rattle.plan_text.specs.SheetText.{Sheet}
use Rattle.plan_text.specs.SheetFaults.{IsSheetText}
use Rattle.refute_log.specs.Expected.{caps}
use Rattle.hint_log.specs.Checked.{clauses_learnt}
use Rattle.drawing_cnf.specs.Layout.{layout}
use Rattle.log_check.specs.declared.verdict.Refusal.TheVariants as refusals
use Rattle.log_check.specs.declared.verdict.Verdict.{Verdict}
use Rattle.log_check.specs.declared.verdict.Verdict.TheVariants as verdicts
use Rattle.log_check.specs.Claimed.{IsTrueClaim}
use Rattle.log_check.specs.Judged.{IsLogJudged}
use Rattle.log_check.proofs.JudgingLemmas.{claim_is_so}
use Rattle.log_check.specs.declared.hint_verdict.HintRefusal.TheVariants as hint_refusals
use Rattle.log_check.specs.declared.hint_verdict.HintsVerdict.{HintsVerdict}
use Rattle.log_check.specs.declared.hint_verdict.HintsVerdict.TheVariants as hint_verdicts
use Rattle.log_check.specs.HintsJudged.{IsHintsJudged}
use Rattle.log_check.proofs.HintVerdictLemmas.{certified_is_so}
use Rattle.run_input.specs.declared.status.Status.{Status}
use Rattle.run_input.specs.declared.status.Status.TheVariants.{Done, Refused, WordsRefused, NoDrawing, Unfinished, Unread, Unwritten, NoMemory, Broken}
use Rattle.run_input.specs.Input.{HasStation, IsOfFile, IsStationOf}
use Rattle.run_input.specs.Met.{Met}
use Rattle.run_input.specs.Answer.{text_input, log_input, IsAnswerAfter, IsAnswerOn}
use Rattle.run_check.specs.Verdict.{IsBrokenAnswer, IsSheetJudged, IsVerified}
use Rattle.run_check.specs.CheckLine.{claimed, claim_of, verdict_status, verdict_line}
use Rattle.run_check.specs.Checked.{IsFoundBroken, IsClaimJudged, IsChecked}
use Rattle.run_check.specs.CertifiedSheet.{CertifiesSheet, ClaimsTruly}
use Rattle.run_check.proofs.CheckedLemmas.{read_grid}
use Rattle.run_check.specs.Texts.{hints_status, hints_line}
use Rattle.run_check.specs.Trimmed.{AreTrimmed}
use Rattle.run_check.specs.Rechecked.{IsHintsClaimJudged, IsRechecked}
use Rattle.schematic_main.specs.So.{SaysTruly, IsLawfulSheet, IsBrokenAs, IsBrokenSheet, IsTrimmedLine, TellsOfThird, VerifyIsSo, CheckIsSo, TrimIsSo}
use Rattle.schematic_main.proofs.SoInputs.{so_input, so_file, too_long}

-- ---- verify

-- a drawing of which a least break is named isn't lawful
broken_as : (g : Graph) (o : EdgeOrder) (grid : GridSize) (d : Drawing) (status : Status) (text : List ℕ) → IsBrokenAnswer g o grid d status text →
    IsBrokenAs g o grid d text
broken_as g o grid d status text b = record {
  unlawful = λ lawful. lawful_breaks_none g (is_above o) grid d b.broken lawful b.least;
  broken = b.broken;
  least = b.least;
  line_is = b.line_is;
}

verdict_so : (input sheet : List ℕ) (files : Option Told) (g : Graph) (o : EdgeOrder) (said : List ℕ) (status : Status) (text : List ℕ) →
    IsStationOf input files g o → IsFileWhereTold files sheet said →
    IsSheetJudged g o said status text → VerifyIsSo input sheet files status text
verdict_so input sheet files g o said status text is is_sheet (inl judged) = elim judged.verdict [
  | inl a ↦
      let P : Status → Type 0 = λ s. VerifyIsSo input sheet files s text in
      subst P (sym a.status_is) (g, o, is, (judged.grid, judged.drawn, (said, is_sheet, judged.has), (a.lawful, a.line_is)))
  | inr b ↦
      let P : Status → Type 0 = λ s. VerifyIsSo input sheet files s text in
      subst P (sym b.status_is) (g, o, is, (judged.grid, judged.drawn, (said, is_sheet, judged.has), broken_as g o judged.grid judged.drawn status text b))
]
verdict_so input sheet files g o said status text is is_sheet (inr r) =
    let P : Status → Type 0 = λ s. VerifyIsSo input sheet files s text in
    subst P (sym r.answers.status_is) (inr (inr (g, o, is, (r.what, r.line, (said, is_sheet, r.first), r.answers.line_is))))

pub verify_so : (input sheet : List ℕ) (met : Met) (status : Status) (text : List ℕ) →
    IsAnswerOn (text_input 1 input) 0 met (λ bytes. IsAnswerOn (text_input 2 sheet) 1 met (IsAnswerAfter 2 met (IsVerified bytes))) status text →
    VerifyIsSo input sheet met.before.contents status text
verify_so input sheet met status text owes =
    let P : Status → Type 0 = λ s. VerifyIsSo input sheet met.before.contents s text in
    so_input P (text_input 1 input) 0 met (λ bytes. IsAnswerOn (text_input 2 sheet) 1 met (IsAnswerAfter 2 met (IsVerified bytes))) status text
    (λ long line. inl (too_long input met.before.contents text long line)) (λ line. (1, line))
    (λ bytes is. so_input P (text_input 2 sheet) 1 met (IsAnswerAfter 2 met (IsVerified bytes)) status text (λ long line. inr (inl (long, line)))
    (λ line. (2, line))
    (λ said is_sheet answer. so_file P (λ g o. IsSheetJudged g o said) bytes status text (λ fault has line. inl (fault, (bytes, is, has), line))
    (λ g o has judged. verdict_so input sheet met.before.contents g o said status text (bytes, is, has) is_sheet judged) answer.1))
    owes

-- ---- check, trim and recheck

-- what a sheet claims and what it says
claim_so : (g : Graph) (o : EdgeOrder) (grid : GridSize) (order : List Criterion) (found : Option Drawing) (ending : Ending) →
    IfSome found (Lawful g (is_above o) grid) →
    IsTrueClaim (Lawful g (is_above o) grid) order (claim_of order found ending) → SaysTruly g o grid order found ending
claim_so g o grid order (Some d) endings.Best lawful so = record {
  lawful = lawful;
  none_better = λ other is better. so other is (subst (λ (cs : List Criterion). Better cs (values_of other) (values_of d))
      (sym (take_all (length order) order (omega arith))) better);
}
claim_so g o grid order (Some d) (endings.Conflicts settled) lawful so = record { lawful = lawful; none_better = so }
claim_so g o grid order (Some d) (endings.Room settled) lawful so = record { lawful = lawful; none_better = so }
claim_so g o grid order (Some d) endings.NoDrawing lawful so = lawful
claim_so g o grid order None endings.NoDrawing lawful so = so
claim_so g o grid order None endings.Best lawful so = tt
claim_so g o grid order None (endings.Conflicts settled) lawful so = tt
claim_so g o grid order None (endings.Room settled) lawful so = tt

-- a sheet that was read, and its station
record IsRead (input sheet : List ℕ) (files : Option Told) (g : Graph) (o : EdgeOrder) (said : Sheet) : Type 0 where
  pub station : IsStationOf input files g o
  pub sheet_is : IsOfFile (λ bytes. IsSheetText g false bytes said) sheet files

found_so : (g : Graph) (o : EdgeOrder) (said : Sheet) (found : Option Drawing) (status : Status) (text : List ℕ) → IsFoundBroken g o said found status text →
    (status ≡ Broken) × IsBrokenSheet g o said found text
found_so g o said None status text broken = absurd broken
found_so g o said (Some d) status text broken = (broken.status_is, broken_as g o said.grid d status text broken)

broken_so : (hinted : Bool) (input sheet third : List ℕ) (files : Option Told) (g : Graph) (o : EdgeOrder) (said : Sheet) (status : Status) (text : List ℕ) →
    IsRead input sheet files g o said → IsFoundBroken g o said said.found status text →
    CheckIsSo hinted input sheet third files status text
broken_so hinted input sheet third files g o said status text read broken =
    let is = found_so g o said said.found status text broken in
    let P : Status → Type 0 = λ s. CheckIsSo hinted input sheet third files s text in
    subst P (sym is.0) (g, o, read.station, (said, read.sheet_is, inl is.1))

log_so : (input sheet third : List ℕ) (files : Option Told) (g : Graph) (o : EdgeOrder) (said : Sheet) (log text : List ℕ) (verdict : Verdict) →
    IsRead input sheet files g o said → IsLawfulSheet g o said →
    IsLogJudged (layout g o said.grid) said.order (claim_of said.order said.found said.ending) log verdict →
    text ≡ verdict_line (claimed said.order said.ending) verdict →
    TellsOfThird false third files g o said (verdict_status verdict) text → CheckIsSo false input sheet third files (verdict_status verdict) text
log_so input sheet third files g o said log text verdicts.Certified read lawful judged line told =
    (g, o, read.station, (said, read.sheet_is, (lawful, claim_so g o said.grid said.order said.found said.ending lawful judged.is_verdict.is_so, line)))
log_so input sheet third files g o said log text (verdicts.Lacks place) read lawful judged line told =
    (g, o, read.station, (said, read.sheet_is, inr (lawful, told)))
log_so input sheet third files g o said log text (verdicts.Refused refusals.Room number) read lawful judged line told =
    (g, o, read.station, (said, read.sheet_is, (lawful, told)))
log_so input sheet third files g o said log text (verdicts.Refused refusals.Differs number) read lawful judged line told =
    (g, o, read.station, (said, read.sheet_is, inr (lawful, told)))
log_so input sheet third files g o said log text (verdicts.Refused refusals.NewVar number) read lawful judged line told =
    (g, o, read.station, (said, read.sheet_is, inr (lawful, told)))
log_so input sheet third files g o said log text (verdicts.Refused refusals.WrongQuery number) read lawful judged line told =
    (g, o, read.station, (said, read.sheet_is, inr (lawful, told)))
log_so input sheet third files g o said log text (verdicts.Refused refusals.NotImplied number) read lawful judged line told =
    (g, o, read.station, (said, read.sheet_is, inr (lawful, told)))
log_so input sheet third files g o said log text (verdicts.Refused refusals.NotNew number) read lawful judged line told =
    (g, o, read.station, (said, read.sheet_is, inr (lawful, told)))
log_so input sheet third files g o said log text (verdicts.Faulty what number) read lawful judged line told =
    inr (inr (inr (inr (g, o, read.station, (said, read.sheet_is, (lawful, told))))))

checked_so : (input sheet third : List ℕ) (files : Option Told) (file said log : List ℕ) (status : Status) (text : List ℕ) → IsFileWhereTold files input file →
    IsFileWhereTold files sheet said → IsFileWhereTold files third log →
    IsChecked file said log status text →
    CheckIsSo false input sheet third files status text
checked_so input sheet third files file bytes log status text is is_sheet is_log answer =
    let P : Status → Type 0 = λ s. CheckIsSo false input sheet third files s text in
    so_file P (λ g o. IsClaimJudged g o bytes log) file status text (λ fault has line. inl (fault, (file, is, has), line)) (λ g o has judged.
    elim judged [
      | inl checked ↦
          let read : IsRead input sheet files g o checked.said = record { station = (file, is, has); sheet_is = (bytes, is_sheet, checked.is_text) } in
          elim checked.answer [
            | inl broken ↦ broken_so false input sheet third files g o checked.said status text read broken
            | inr claim ↦ subst P (sym claim.told.status_is) (log_so input sheet third files g o checked.said log text claim.verdict read claim.lawful
                claim.judged claim.told.line_is
                (claim.verdict, (log, is_log, claim.judged), record { status_is = refl; line_is = claim.told.line_is }))
          ]
      | inr r ↦ subst P (sym r.answers.status_is) (inr (inr (inr (inl (
        g,
        o,
        (file, is, has),
        (r.what, r.line, (bytes, is_sheet, r.first), r.answers.line_is),
      )))))
    ])
    answer

pub check_so : (input sheet log : List ℕ) (met : Met) (status : Status) (text : List ℕ) →
    IsAnswerOn (text_input 1 input) 0 met (λ bytes. IsAnswerOn (text_input 2 sheet) 1 met
    (λ said. IsAnswerOn (log_input 3 log) 2 met (IsAnswerAfter 3 met (IsChecked bytes said)))) status text →
    CheckIsSo false input sheet log met.before.contents status text
check_so input sheet log met status text owes =
    let P : Status → Type 0 = λ s. CheckIsSo false input sheet log met.before.contents s text in
    so_input P (text_input 1 input) 0 met (λ bytes. IsAnswerOn (text_input 2 sheet) 1 met
    (λ said. IsAnswerOn (log_input 3 log) 2 met (IsAnswerAfter 3 met (IsChecked bytes said)))) status text
    (λ long line. inl (too_long input met.before.contents text long line)) (λ line. (1, line))
    (λ bytes is. so_input P (text_input 2 sheet) 1 met (λ said. IsAnswerOn (log_input 3 log) 2 met (IsAnswerAfter 3 met (IsChecked bytes said))) status text
    (λ long line. inr (inl (long, line))) (λ line. (2, line))
    (λ said is_sheet. so_input P (log_input 3 log) 2 met (IsAnswerAfter 3 met (IsChecked bytes said)) status text (λ long line. inr (inr (inl (long, line))))
    (λ line. (3, line))
    (λ kept is_log answer. checked_so input sheet log met.before.contents bytes said kept status text is is_sheet is_log answer.1)))
    owes

-- what trim answers as check does
as_check : (input sheet third : List ℕ) (files : Option Told) (status : Status) (text : List ℕ) → status ≢ Done →
    CheckIsSo false input sheet third files status text → TrimIsSo input sheet third files status text
as_check input sheet third files Done text other h = absurd (other refl)
as_check input sheet third files Refused text other h = h
as_check input sheet third files WordsRefused text other h = h
as_check input sheet third files NoDrawing text other h = h
as_check input sheet third files Unfinished text other h = inl h
as_check input sheet third files Unread text other h = h
as_check input sheet third files Unwritten text other h = h
as_check input sheet third files NoMemory text other h = h
as_check input sheet third files Broken text other h = h

certified_so : (file sheet log : List ℕ) (g : Graph) (o : EdgeOrder) (said : Sheet) → HasStation file g o → CertifiesSheet g o sheet log said →
    ClaimsTruly g o said
certified_so file sheet log g o said has c =
    claim_is_so (layout g o said.grid) said.order (caps (limit_of g said.grid) c.is_expected.lines) (limit_of g said.grid) c.expected c.lines
    (claim_of said.order said.found said.ending)
    has.has_graph.built.station has.order (read_grid g sheet said c.is_text) c.is_expected.expected_is c.whole.accepted c.certified

trimmed_so : (input sheet log_name hints : List ℕ) (met : Met) (file said log : List ℕ) (status : Status) (text : List ℕ) →
    IsFileWhereTold met.before.contents input file → IsFileWhereTold met.before.contents sheet said →
    IsFileWhereTold met.before.contents log_name log → AreTrimmed hints met file said log status text →
    TrimIsSo input sheet log_name met.before.contents status text
trimmed_so input sheet log_name hints met file said log status text is is_sheet is_log (inl (checked, other)) =
    as_check input sheet log_name met.before.contents status text other (checked_so input sheet log_name met.before.contents file said log status text is
    is_sheet is_log checked)
trimmed_so input sheet log_name hints met file said log status text is is_sheet is_log (inr (inl (r, leaves, told))) =
    let g = leaves.graph in
    let o = leaves.order in
    let s = leaves.said in
    let P : Status → Type 0 = λ s. TrimIsSo input sheet log_name met.before.contents s text in
    subst P (sym told.status_is)
    let line : IsTrimmedLine text = (r.learnt, length (flat_map clauses_learnt r.kept), told.line_is) in (
      g,
      o,
      (file, is, leaves.station),
      (
        s,
        (said, is_sheet, leaves.certifies.is_text),
        (
          leaves.certifies.lawful,
          claim_so g o s.grid s.order s.found s.ending leaves.certifies.lawful
              (certified_so file said log g o s leaves.station leaves.certifies),
          line,
        ),
      ),
    )
trimmed_so input sheet log_name hints met file said log status text is is_sheet is_log (inr (inr (passes, told))) =
    let g = passes.graph in
    let o = passes.order in
    let s = passes.said in
    let c = passes.certifies in
    let P : Status → Type 0 = λ s. TrimIsSo input sheet log_name met.before.contents s text in
    subst P (sym told.status_is)
    (inr (
      g,
      o,
      (file, is, passes.station),
      (
        s,
        (said, is_sheet, c.is_text),
        (c.lawful, claim_so g o s.grid s.order s.found s.ending c.lawful (certified_so file said log g o s passes.station c), told.line_is),
      ),
    ))

pub trim_so : (input sheet log hints : List ℕ) (met : Met) (status : Status) (text : List ℕ) →
    IsAnswerOn (text_input 1 input) 0 met (λ bytes. IsAnswerOn (text_input 2 sheet) 1 met
    (λ said. IsAnswerOn (log_input 3 log) 2 met (IsAnswerAfter 3 met (AreTrimmed hints met bytes said)))) status text →
    TrimIsSo input sheet log met.before.contents status text
trim_so input sheet log hints met status text owes =
    let P : Status → Type 0 = λ s. TrimIsSo input sheet log met.before.contents s text in
    so_input P (text_input 1 input) 0 met (λ bytes. IsAnswerOn (text_input 2 sheet) 1 met
    (λ said. IsAnswerOn (log_input 3 log) 2 met (IsAnswerAfter 3 met (AreTrimmed hints met bytes said)))) status text
    (λ long line. inl (too_long input met.before.contents text long line)) (λ line. (1, line))
    (λ bytes is. so_input P (text_input 2 sheet) 1 met (λ said. IsAnswerOn (log_input 3 log) 2 met (IsAnswerAfter 3 met (AreTrimmed hints met bytes said)))
    status text (λ long line. inr (inl (long, line))) (λ line. (2, line))
    (λ said is_sheet. so_input P (log_input 3 log) 2 met (IsAnswerAfter 3 met (AreTrimmed hints met bytes said)) status text
    (λ long line. inr (inr (inl (long, line)))) (λ line. (3, line))
    (λ kept is_log answer. trimmed_so input sheet log hints met bytes said kept status text is is_sheet is_log answer.1)))
    owes

hints_so : (input sheet third : List ℕ) (files : Option Told) (g : Graph) (o : EdgeOrder) (said : Sheet) (hints text : List ℕ) (verdict : HintsVerdict) →
    IsRead input sheet files g o said → IsLawfulSheet g o said →
    IsHintsJudged (layout g o said.grid) said.order (claim_of said.order said.found said.ending) hints verdict →
    text ≡ hints_line (claimed said.order said.ending) verdict →
    TellsOfThird true third files g o said (hints_status verdict) text → CheckIsSo true input sheet third files (hints_status verdict) text
hints_so input sheet third files g o said hints text hint_verdicts.Certified read lawful judged line told = (
  g,
  o,
  read.station,
  (
    said,
    read.sheet_is,
    (
      lawful,
      claim_so g o said.grid said.order said.found said.ending lawful (certified_is_so (layout g o said.grid) said.order
          (claim_of said.order said.found said.ending) hints judged),
      line,
    ),
  ),
)
hints_so input sheet third files g o said hints text (hint_verdicts.Lacks place) read lawful judged line told =
    (g, o, read.station, (said, read.sheet_is, inr (lawful, told)))
hints_so input sheet third files g o said hints text (hint_verdicts.Refused hint_refusals.BadHint number) read lawful judged line told =
    (g, o, read.station, (said, read.sheet_is, inr (lawful, told)))
hints_so input sheet third files g o said hints text (hint_verdicts.Refused hint_refusals.Room number) read lawful judged line told =
    (g, o, read.station, (said, read.sheet_is, (lawful, told)))
hints_so input sheet third files g o said hints text (hint_verdicts.Faulty what number) read lawful judged line told =
    inr (inr (inr (inr (g, o, read.station, (said, read.sheet_is, (lawful, told))))))

rechecked_so : (input sheet third : List ℕ) (files : Option Told) (file said hints : List ℕ) (status : Status) (text : List ℕ) →
    IsFileWhereTold files input file → IsFileWhereTold files sheet said → IsFileWhereTold files third hints →
    IsRechecked file said hints status text →
    CheckIsSo true input sheet third files status text
rechecked_so input sheet third files file bytes hints status text is is_sheet is_hints answer =
    let P : Status → Type 0 = λ s. CheckIsSo true input sheet third files s text in
    so_file P (λ g o. IsHintsClaimJudged g o bytes hints) file status text (λ fault has line. inl (fault, (file, is, has), line)) (λ g o has judged.
    elim judged [
      | inl checked ↦
          let read : IsRead input sheet files g o checked.said = record { station = (file, is, has); sheet_is = (bytes, is_sheet, checked.is_text) } in
          elim checked.answer [
            | inl broken ↦ broken_so true input sheet third files g o checked.said status text read broken
            | inr claim ↦ subst P (sym claim.told.status_is) (hints_so input sheet third files g o checked.said hints text claim.verdict read claim.lawful
                claim.judged claim.told.line_is
                (claim.verdict, (hints, is_hints, claim.judged), record { status_is = refl; line_is = claim.told.line_is }))
          ]
      | inr r ↦ subst P (sym r.answers.status_is) (inr (inr (inr (inl (
        g,
        o,
        (file, is, has),
        (r.what, r.line, (bytes, is_sheet, r.first), r.answers.line_is),
      )))))
    ])
    answer

pub recheck_so : (input sheet hints : List ℕ) (met : Met) (status : Status) (text : List ℕ) →
    IsAnswerOn (text_input 1 input) 0 met (λ bytes. IsAnswerOn (text_input 2 sheet) 1 met
    (λ said. IsAnswerOn (log_input 3 hints) 2 met (IsAnswerAfter 3 met (IsRechecked bytes said)))) status text →
    CheckIsSo true input sheet hints met.before.contents status text
recheck_so input sheet hints met status text owes =
    let P : Status → Type 0 = λ s. CheckIsSo true input sheet hints met.before.contents s text in
    so_input P (text_input 1 input) 0 met (λ bytes. IsAnswerOn (text_input 2 sheet) 1 met
    (λ said. IsAnswerOn (log_input 3 hints) 2 met (IsAnswerAfter 3 met (IsRechecked bytes said)))) status text
    (λ long line. inl (too_long input met.before.contents text long line)) (λ line. (1, line))
    (λ bytes is. so_input P (text_input 2 sheet) 1 met (λ said. IsAnswerOn (log_input 3 hints) 2 met (IsAnswerAfter 3 met (IsRechecked bytes said))) status text
    (λ long line. inr (inl (long, line))) (λ line. (2, line))
    (λ said is_sheet. so_input P (log_input 3 hints) 2 met (IsAnswerAfter 3 met (IsRechecked bytes said)) status text
    (λ long line. inr (inr (inl (long, line)))) (λ line. (3, line))
    (λ kept is_hints answer. rechecked_so input sheet hints met.before.contents bytes said kept status text is is_sheet is_hints answer.1)))
    owes
