-- recheck ends with 0 exactly where hinted lines certify what the sheet claims.
use Rattle.std.proofs.Common.{◌≡◌, ℕ, List, refl, ◌∙◌, ap, subst, inl, inr}
use Rattle.std.specs.Prelude.{false}
use Rattle.plan_core.specs.Graph.{Graph}
use Rattle.track_order.specs.Order.{EdgeOrder, IsOrderOf}
use Rattle.track_order.proofs.OneOrder.{one_order}
use Rattle.plan_text.specs.SheetText.{Sheet}
use Rattle.plan_text.specs.SheetFaults.{IsSheetText}
use Rattle.plan_text.proofs.SheetLaws.{one_sheet, sheet_or_fault}
use Rattle.drawing_cnf.specs.Layout.{layout}
use Rattle.log_check.specs.declared.hint_verdict.HintRefusal.TheVariants as refusals
use Rattle.log_check.specs.declared.hint_verdict.HintsVerdict.{HintsVerdict}
use Rattle.log_check.specs.declared.hint_verdict.HintsVerdict.TheVariants.{Certified, Lacks, Refused as LineRefused, Faulty}
use Rattle.log_check.specs.HintsJudged.{IsHintsJudged}
use Rattle.log_check.proofs.HintOnceLemmas.{certified_due, certified_only}
use Rattle.log_check.proofs.HintVerdictLemmas.{certified_is_so}
use Rattle.run_input.specs.declared.status.Status.{Status}
use Rattle.run_input.specs.declared.status.Status.TheVariants.{Done, Refused}
use Rattle.run_input.specs.Input.{HasStation}
use Rattle.run_input.proofs.InputLemmas.{one_graph, station_or_fault, file_fault_status}
use Rattle.run_check.specs.CheckLine.{claimed, claim_of}
use Rattle.run_check.specs.CertifiedSheet.{ClaimsTruly}
use Rattle.run_check.proofs.CheckedLemmas.{lawful_not_broken, done_not_broken}
use Rattle.run_check.proofs.SettledLemmas.{sheet_claims}
use Rattle.run_check.specs.Texts.{hints_status, hints_line}
use Rattle.run_check.specs.Rechecked.{IsHintsAnswer, IsHintsClaimJudged, IsRechecked, HintsCertifySheet, IsHintsLine}

-- a file's station is one: what holds of one of two holds of the other
pub of_station : (P : Graph → EdgeOrder → Type 0) (file : List ℕ) (g h : Graph) (o p : EdgeOrder) → HasStation file g o → HasStation file h p → P h p → P g o
of_station P file g h o p has also holds =
    let graph : h ≡ g = one_graph file h g also.has_graph has.has_graph in
    let order : p ≡ o = one_order g p o (subst (λ (x : Graph). IsOrderOf x p) graph also.order) has.order in
    subst (λ (x : EdgeOrder). P g x) order (subst (λ (x : Graph). P x p) graph holds)

-- ---- what is certified is answered so

claim_due : (g : Graph) (o : EdgeOrder) (sheet hints : List ℕ) (said : Sheet) (status : Status) (text : List ℕ) → HintsCertifySheet g o sheet hints said →
    IsHintsAnswer g o said hints status text → (status ≡ Done) × IsHintsLine said text
claim_due g o sheet hints said status text c (inl broken) = absurd (lawful_not_broken g o said said.found status text c.lawful broken)
claim_due g o sheet hints said status text c (inr claim) =
    let is : claim.verdict ≡ Certified =
    certified_due (layout g o said.grid) said.order (claim_of said.order said.found said.ending) hints claim.verdict (sheet_claims g false sheet said c.is_text)
    c.certify claim.judged in
    (claim.told.status_is ∙ ap hints_status is, claim.told.line_is ∙ ap (λ (v : HintsVerdict). hints_line (claimed said.order said.ending) v) is)

sheet_due : (g : Graph) (o : EdgeOrder) (sheet hints : List ℕ) (said : Sheet) (status : Status) (text : List ℕ) → HintsCertifySheet g o sheet hints said →
    IsHintsClaimJudged g o sheet hints status text → (status ≡ Done) × IsHintsLine said text
sheet_due g o sheet hints said status text c (inl checked) =
    let same : checked.said ≡ said = one_sheet g false sheet checked.said said checked.is_text c.is_text in
    claim_due g o sheet hints said status text c (subst (λ (s : Sheet). IsHintsAnswer g o s hints status text) same checked.answer)
sheet_due g o sheet hints said status text c (inr refused) = absurd (sheet_or_fault g false sheet said refused.what refused.line c.is_text refused.first)

pub recheck_due : (file sheet hints : List ℕ) (g : Graph) (o : EdgeOrder) (said : Sheet) (status : Status) (text : List ℕ) → HasStation file g o →
    HintsCertifySheet g o sheet hints said → IsRechecked file sheet hints status text →
    (status ≡ Done) × IsHintsLine said text
recheck_due file sheet hints g o said status text has c (inl (h, p, also, judged)) =
    sheet_due g o sheet hints said status text c (of_station (λ x y. IsHintsClaimJudged x y sheet hints status text) file g h o p has also judged)
recheck_due file sheet hints g o said status text has c (inr refused) = absurd (station_or_fault file g o refused.fault has refused.has)

-- ---- and nothing else

done_certified : (v : HintsVerdict) → Done ≡ hints_status v → v ≡ Certified
done_certified Certified is = refl
done_certified (Lacks place) is = absurd (cc)
done_certified (LineRefused refusals.BadHint line) is = absurd (cc)
done_certified (LineRefused refusals.Room line) is = absurd (cc)
done_certified (Faulty what line) is = absurd (cc)

abbrev IsCertifiedSheet : Graph → EdgeOrder → (sheet hints text : List ℕ) → Sheet → Type 0
IsCertifiedSheet g o sheet hints text said = HintsCertifySheet g o sheet hints said × ClaimsTruly g o said × IsHintsLine said text

certified_of : (g : Graph) (o : EdgeOrder) (sheet hints text : List ℕ) (said : Sheet) → IsSheetText g false sheet said →
    IsHintsAnswer g o said hints Done text → IsCertifiedSheet g o sheet hints text said
certified_of g o sheet hints text said is (inl broken) = absurd (done_not_broken g o said said.found text broken)
certified_of g o sheet hints text said is (inr claim) =
    let y = layout g o said.grid in
    let what = claim_of said.order said.found said.ending in
    let same : claim.verdict ≡ Certified = done_certified claim.verdict claim.told.status_is in
    let judged : IsHintsJudged y said.order what hints Certified = subst (λ (v : HintsVerdict). IsHintsJudged y said.order what hints v) same claim.judged in (
      record { is_text = is; lawful = claim.lawful; certify = certified_only y said.order what hints judged },
      certified_is_so y said.order what hints judged,
      claim.told.line_is ∙ ap (λ (v : HintsVerdict). hints_line (claimed said.order said.ending) v) same,
    )

pub recheck_only : (file sheet hints text : List ℕ) → IsRechecked file sheet hints Done text →
    (g : Graph) × (o : EdgeOrder) × (said : Sheet) × HasStation file g o × HintsCertifySheet g o sheet hints said × ClaimsTruly g o said × IsHintsLine said text
recheck_only file sheet hints text (inl (g, o, has, inl checked)) =
    let is = certified_of g o sheet hints text checked.said checked.is_text checked.answer in
    (g, o, checked.said, has, is.0, is.1, is.2)
recheck_only file sheet hints text (inl (g, o, has, inr refused)) = let is : Done ≡ Refused = refused.answers.status_is in absurd (cc)
recheck_only file sheet hints text (inr refused) = let is : Done ≡ Refused = refused.answers.status_is
    ∙ file_fault_status file refused.fault refused.has in absurd (cc)

-- ---- the bytes that were read

pub rechecked_of : (file sheet hints b s l : List ℕ) (status : Status) (text : List ℕ) → b ≡ file → s ≡ sheet → l ≡ hints → IsRechecked b s l status text →
    IsRechecked file sheet hints status text
rechecked_of file sheet hints b s l status text first second third h =
    subst (λ (x : List ℕ). IsRechecked file sheet x status text) third
    (subst (λ (x : List ℕ). IsRechecked file x l status text) second (subst (λ (x : List ℕ). IsRechecked x s l status text) first h))
