-- What is so of check and recheck leaves no room for a sheet that the third file certifies to be called unshown or unjudged.
use Rattle.std.proofs.Common.{◌≡◌, ◌⊎◌, ℕ, Bool, false, true, List, None, Some, subst, inl, inr}
use Rattle.std.specs.Prelude.{IfSome}
use Rattle.std.specs.declared.option.Option.{Option}
use Rattle.outside_io.specs.Contents.{Told}
use Rattle.plan_core.specs.Graph.{Graph}
use Rattle.plan_core.specs.Drawing.{Drawing}
use Rattle.plan_core.specs.Lawful.{Lawful}
use Rattle.track_order.specs.Order.{EdgeOrder, is_above}
use Rattle.plan_text.specs.SheetText.{Sheet}
use Rattle.plan_text.specs.SheetFaults.{IsSheetText}
use Rattle.plan_text.proofs.SheetLaws.{one_sheet}
use Rattle.drawing_cnf.specs.Layout.{layout}
use Rattle.log_check.specs.Judged.{IsLogJudged}
use Rattle.log_check.specs.HintsJudged.{IsHintsJudged}
use Rattle.run_input.specs.declared.status.Status.{Status}
use Rattle.run_input.specs.declared.status.Status.TheVariants.{Done, Unfinished, Broken}
use Rattle.run_input.specs.Input.{HasStation, IsOfFile, IsStationOf}
use Rattle.run_check.specs.CheckLine.{claim_of}
use Rattle.run_check.specs.Checked.{IsChecked}
use Rattle.run_check.specs.Rechecked.{IsRechecked}
use Rattle.run_check.proofs.CheckedLemmas.{certified_is_due}
use Rattle.run_check.proofs.RecheckedLemmas.{recheck_due}
use Rattle.schematic_main.specs.So.{OfSheet, IsLawfulSheet, IsBrokenSheet, TellsOfThird, CheckIsSo}
use Rattle.schematic_main.specs.Excluded.{CertifyBoth}
use Rattle.schematic_main.proofs.SoExcludes.{same_bytes, at_station}

-- the verdict on a third file that certifies is told with 0
told_done : (hinted : Bool) (told : Told) (third file bytes kept : List ℕ) (g : Graph) (o : EdgeOrder) (said : Sheet) (status : Status) (text : List ℕ) →
    HasStation file g o → told third ≡ Some kept → CertifyBoth hinted g o bytes kept said → TellsOfThird hinted third (Some told) g o said status text →
    status ≡ Done
told_done false told third file bytes kept g o said status text has is_kept c (verdict, (xs, also, judged), tells) =
    let J : List ℕ → Type 0 = λ l. IsLogJudged (layout g o said.grid) said.order (claim_of said.order said.found said.ending) l verdict in
    let again : J kept = subst J (same_bytes told third kept xs is_kept also) judged in
    let checked : IsChecked file bytes kept status text = inl (
      g,
      o,
      has,
      inl (record {
        said = said;
        is_text = c.is_text;
        answer = inr (record { lawful = c.lawful; verdict = verdict; judged = again; told = tells });
      }),
    ) in
    (certified_is_due file bytes kept g o said status text has c checked).0
told_done true told third file bytes kept g o said status text has is_kept c (verdict, (xs, also, judged), tells) =
    let J : List ℕ → Type 0 = λ l. IsHintsJudged (layout g o said.grid) said.order (claim_of said.order said.found said.ending) l verdict in
    let again : J kept = subst J (same_bytes told third kept xs is_kept also) judged in
    let checked : IsRechecked file bytes kept status text = inl (
      g,
      o,
      has,
      inl (record {
        said = said;
        is_text = c.is_text;
        answer = inr (record { lawful = c.lawful; verdict = verdict; judged = again; told = tells });
      }),
    ) in
    (recheck_due file bytes kept g o said status text has c checked).0

-- the text of the sheet, and its lawful drawing
read_of : (hinted : Bool) (g : Graph) (o : EdgeOrder) (bytes kept : List ℕ) (said : Sheet) → CertifyBoth hinted g o bytes kept said →
    IsSheetText g false bytes said × IsLawfulSheet g o said
read_of false g o bytes kept said c = (c.is_text, c.lawful)
read_of true g o bytes kept said c = (c.is_text, c.lawful)

lawful_breaks_nothing : (g : Graph) (o : EdgeOrder) (said : Sheet) (found : Option Drawing) (text : List ℕ) → IfSome found (Lawful g (is_above o) said.grid) →
    IsBrokenSheet g o said found text → ⊥
lawful_breaks_nothing g o said None text lawful broken = broken
lawful_breaks_nothing g o said (Some d) text lawful broken = broken.unlawful lawful

-- what holds of the sheet that was read holds of this one
at_sheet : (R : Graph → EdgeOrder → Sheet → Type 0) (told : Told) (input sheet : List ℕ) (g : Graph) (o : EdgeOrder) (bytes : List ℕ) (said : Sheet) →
    IsStationOf input (Some told) g o → told sheet ≡ Some bytes → IsSheetText g false bytes said → OfSheet (Some told) input sheet R → R g o said
at_sheet R told input sheet g o bytes said is is_sheet read so =
    let P : Graph → EdgeOrder → Type 0 = λ h p. (s : Sheet) × IsOfFile (λ xs. IsSheetText h false xs s) sheet (Some told) × R h p s in
    let found : P g o = at_station P told input g o is so in
    let again : IsSheetText g false bytes found.0 = subst (λ (xs : List ℕ). IsSheetText g false xs found.0)
    (same_bytes told sheet bytes found.1.0 is_sheet found.1.1) found.1.2 in
    subst (λ (s : Sheet). R g o s) (one_sheet g false bytes found.0 said again read) found.2

pub excludes_unshown : (hinted : Bool) (told : Told) (input sheet third : List ℕ) (g : Graph) (o : EdgeOrder) (bytes kept : List ℕ) (said : Sheet)
    (status : Status) (text : List ℕ) → IsStationOf input (Some told) g o → told sheet ≡ Some bytes → told third ≡ Some kept →
    CertifyBoth hinted g o bytes kept said → (status ≡ Broken) ⊎ (status ≡ Unfinished) → CheckIsSo hinted input sheet third (Some told) status text → ⊥
excludes_unshown hinted told input sheet third g o bytes kept said status text (file, is, has) is_sheet is_kept c (inl broken) so =
    let R : Graph → EdgeOrder → Sheet → Type 0 = λ h p s. IsBrokenSheet h p s s.found text
    ⊎ (IsLawfulSheet h p s × TellsOfThird hinted third (Some told) h p s Broken text) in
    let read = read_of hinted g o bytes kept said c in
    let this : CheckIsSo hinted input sheet third (Some told) Broken text =
    subst (λ (s : Status). CheckIsSo hinted input sheet third (Some told) s text) broken so in
    let here : R g o said = at_sheet R told input sheet g o bytes said (file, is, has) is_sheet read.0 this in
    elim here [
      | inl unlawful ↦ lawful_breaks_nothing g o said said.found text read.1 unlawful
      | inr (lawful, tells) ↦ let done : Broken ≡ Done = told_done hinted told third file bytes kept g o said Broken text has is_kept c tells in cc
    ]
excludes_unshown hinted told input sheet third g o bytes kept said status text (file, is, has) is_sheet is_kept c (inr unfinished) so =
    let R : Graph → EdgeOrder → Sheet → Type 0 = λ h p s. IsLawfulSheet h p s × TellsOfThird hinted third (Some told) h p s Unfinished text in
    let read = read_of hinted g o bytes kept said c in
    let this : CheckIsSo hinted input sheet third (Some told) Unfinished text =
    subst (λ (s : Status). CheckIsSo hinted input sheet third (Some told) s text) unfinished so in
    let here : R g o said = at_sheet R told input sheet g o bytes said (file, is, has) is_sheet read.0 this in
    let done : Unfinished ≡ Done = told_done hinted told third file bytes kept g o said Unfinished text has is_kept c here.1 in cc
