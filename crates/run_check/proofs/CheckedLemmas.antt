-- There is one answer of check to a file, a sheet and a log; it is the line of what is certified exactly where the log
-- certifies what the sheet claims.
use Rattle.std.proofs.Common.{◌≡◌, ℕ, List, None, Some, refl, sym, ◌∙◌, ap, subst, inl, inr}
use Rattle.std.specs.Prelude.{false, IfSome}
use Rattle.std.specs.declared.option.Option.{Option}
use Rattle.plan_core.specs.Grid.{IsGrid}
use Rattle.plan_core.specs.Graph.{Graph}
use Rattle.plan_core.specs.Drawing.{Drawing}
use Rattle.plan_core.specs.Lawful.{Lawful}
use Rattle.port_graph.specs.StationGraph.{IsStationGraph}
use Rattle.track_order.specs.Order.{EdgeOrder, IsOrderOf, is_above}
use Rattle.track_order.proofs.OneOrder.{one_order}
use Rattle.lawful_check.proofs.LeastLemmas.{lawful_breaks_none}
use Rattle.plan_text.specs.SheetText.{Sheet}
use Rattle.plan_text.specs.SheetFaults.{IsSheetText}
use Rattle.plan_text.proofs.SheetLaws.{one_sheet, sheet_or_fault}
use Rattle.drawing_cnf.specs.Layout.{layout}
use Rattle.log_check.specs.declared.verdict.Refusal.TheVariants as refusals
use Rattle.log_check.specs.declared.verdict.Verdict.{Verdict}
use Rattle.log_check.specs.declared.verdict.Verdict.TheVariants as verdicts
use Rattle.log_check.specs.Claimed.{IsClaimOf}
use Rattle.log_check.specs.Judged.{CertifiesWhole, IsLogJudged}
use Rattle.log_check.proofs.VerdictLemmas.{judged_once, certified_due}
use Rattle.run_input.specs.declared.status.Status.{Status}
use Rattle.run_input.specs.declared.status.Status.TheVariants.{Done, Refused, Broken}
use Rattle.run_input.specs.Input.{HasStation}
use Rattle.run_check.specs.CheckLine.{claimed, claim_of, verdict_status, verdict_line, TellsVerdict}
use Rattle.run_check.specs.Checked.{IsFoundBroken, IsClaimChecked, IsSheetAnswer, IsClaimJudged, IsChecked}
use Rattle.run_check.specs.CertifiedSheet.{CertifiesSheet, ClaimsTruly}
use Rattle.run_input.proofs.InputLemmas.{one_graph, one_fault, station_or_fault}
use Rattle.run_check.proofs.VerdictLemmas.{SameAnswer, one_refusal, one_verdict, one_sheet_refusal}
use Rattle.run_check.proofs.SettledLemmas.{sheet_claims}
use Rattle.run_input.proofs.InputLemmas.{file_fault_status}

-- ---- one answer to a sheet and a log

-- the grid of a sheet that was read is one
pub read_grid : (g : Graph) (sheet : List ℕ) (said : Sheet) → IsSheetText g false sheet said → IsGrid said.grid
read_grid g sheet said is = is.right.1.0.range

one_telling : (places : ℕ) (v w : Verdict) (status other : Status) (text another : List ℕ) → v ≡ w → TellsVerdict places v status text →
    TellsVerdict places w other another → SameAnswer status other text another
one_telling places v w status other text another same a b = record {
  status_is = a.status_is ∙ ap verdict_status same ∙ sym b.status_is;
  text_is = a.line_is ∙ ap (λ (x : Verdict). verdict_line places x) same ∙ sym b.line_is;
}

one_broken : (g : Graph) (o : EdgeOrder) (said : Sheet) (found : Option Drawing) (status other : Status) (text another : List ℕ) →
    IsFoundBroken g o said found status text → IsFoundBroken g o said found other another → SameAnswer status other text another
one_broken g o said None status other text another a b = absurd a
one_broken g o said (Some d) status other text another a b = one_verdict g o said.grid d status other text another (inr a) (inr b)

-- a lawful drawing breaks no law
pub lawful_not_broken : (g : Graph) (o : EdgeOrder) (said : Sheet) (found : Option Drawing) (status : Status) (text : List ℕ) →
    IfSome found (Lawful g (is_above o) said.grid) → IsFoundBroken g o said found status text → ⊥
lawful_not_broken g o said None status text lawful broken = broken
lawful_not_broken g o said (Some d) status text lawful broken = lawful_breaks_none g (is_above o) said.grid d broken.broken lawful broken.least

-- what the laws of a log's verdict ask of a station and a sheet
record IsJudgeable (g : Graph) (o : EdgeOrder) (said : Sheet) : Type 0 where
  pub station : IsStationGraph g
  pub order : IsOrderOf g o
  pub grid : IsGrid said.grid
  pub claim : IsClaimOf said.order (claim_of said.order said.found said.ending)

judgeable : (file sheet : List ℕ) (g : Graph) (o : EdgeOrder) (said : Sheet) → HasStation file g o → IsSheetText g false sheet said → IsJudgeable g o said
judgeable file sheet g o said has is = record {
  station = has.has_graph.built.station;
  order = has.order;
  grid = read_grid g sheet said is;
  claim = sheet_claims g false sheet said is;
}

one_claim : (g : Graph) (o : EdgeOrder) (said : Sheet) (log : List ℕ) (status other : Status) (text another : List ℕ) → IsJudgeable g o said →
    IsClaimChecked g o said log status text → IsClaimChecked g o said log other another → SameAnswer status other text another
one_claim g o said log status other text another may a b =
    let claim = claim_of said.order said.found said.ending in
    let same : a.verdict ≡ b.verdict = judged_once (layout g o said.grid) said.order claim log a.verdict b.verdict may.station may.order may.grid may.claim
    a.judged b.judged in
    one_telling (claimed said.order said.ending) a.verdict b.verdict status other text another same a.told b.told

one_said : (g : Graph) (o : EdgeOrder) (said : Sheet) (log : List ℕ) (status other : Status) (text another : List ℕ) → IsJudgeable g o said →
    IsSheetAnswer g o said log status text → IsSheetAnswer g o said log other another → SameAnswer status other text another
one_said g o said log status other text another may (inl a) (inl b) = one_broken g o said said.found status other text another a b
one_said g o said log status other text another may (inl a) (inr b) = absurd (lawful_not_broken g o said said.found status text b.lawful a)
one_said g o said log status other text another may (inr a) (inl b) = absurd (lawful_not_broken g o said said.found other another a.lawful b)
one_said g o said log status other text another may (inr a) (inr b) = one_claim g o said log status other text another may a b

one_judged : (file : List ℕ) (g : Graph) (o : EdgeOrder) (sheet log : List ℕ) (status other : Status) (text another : List ℕ) → HasStation file g o →
    IsClaimJudged g o sheet log status text → IsClaimJudged g o sheet log other another → SameAnswer status other text another
one_judged file g o sheet log status other text another has (inl a) (inl b) =
    let same : b.said ≡ a.said = one_sheet g false sheet b.said a.said b.is_text a.is_text in
    one_said g o a.said log status other text another (judgeable file sheet g o a.said has a.is_text) a.answer
    (subst (λ (s : Sheet). IsSheetAnswer g o s log other another) same b.answer)
one_judged file g o sheet log status other text another has (inl a) (inr b) = absurd (sheet_or_fault g false sheet a.said b.what b.line a.is_text b.first)
one_judged file g o sheet log status other text another has (inr a) (inl b) = absurd (sheet_or_fault g false sheet b.said a.what a.line b.is_text a.first)
one_judged file g o sheet log status other text another has (inr a) (inr b) = one_sheet_refusal g false sheet status other text another a b

-- ---- and to a file

-- a file's station is one: what is answered to one of two is answered to the other
same_station : (file sheet log : List ℕ) (g h : Graph) (o p : EdgeOrder) (status : Status) (text : List ℕ) → HasStation file g o → HasStation file h p →
    IsClaimJudged h p sheet log status text → IsClaimJudged g o sheet log status text
same_station file sheet log g h o p status text has also judged =
    let graph : h ≡ g = one_graph file h g also.has_graph has.has_graph in
    let order : p ≡ o = one_order g p o (subst (λ (x : Graph). IsOrderOf x p) graph also.order) has.order in
    subst (λ (x : EdgeOrder). IsClaimJudged g x sheet log status text) order
    (subst (λ (x : Graph). IsClaimJudged x p sheet log status text) graph judged)

one_checked : (file sheet log : List ℕ) (status other : Status) (text another : List ℕ) → IsChecked file sheet log status text →
    IsChecked file sheet log other another → SameAnswer status other text another
one_checked file sheet log status other text another (inl (g, o, has, a)) (inl (h, p, also, b)) =
    one_judged file g o sheet log status other text another has a (same_station file sheet log g h o p other another has also b)
one_checked file sheet log status other text another (inl (g, o, has, a)) (inr b) = absurd (station_or_fault file g o b.fault has b.has)
one_checked file sheet log status other text another (inr a) (inl (h, p, also, b)) = absurd (station_or_fault file h p a.fault also a.has)
one_checked file sheet log status other text another (inr a) (inr b) = one_refusal a.fault b.fault status other text another
    (one_fault file a.fault b.fault a.has b.has) a.answers b.answers

pub one_check_status : (file sheet log : List ℕ) (status other : Status) (text another : List ℕ) → IsChecked file sheet log status text →
    IsChecked file sheet log other another → status ≡ other
one_check_status file sheet log status other text another a b = (one_checked file sheet log status other text another a b).status_is

pub one_check_text : (file sheet log : List ℕ) (status other : Status) (text another : List ℕ) → IsChecked file sheet log status text →
    IsChecked file sheet log other another → text ≡ another
one_check_text file sheet log status other text another a b = (one_checked file sheet log status other text another a b).text_is

-- ---- what is certified

abbrev IsCertifiedLine : Sheet → Status → List ℕ → Type 0
IsCertifiedLine said status text = (status ≡ Done) × (text ≡ verdict_line (claimed said.order said.ending) verdicts.Certified)

certified_telling : (places : ℕ) (v : Verdict) (status : Status) (text : List ℕ) → v ≡ verdicts.Certified → TellsVerdict places v status text →
    (status ≡ Done) × (text ≡ verdict_line places verdicts.Certified)
certified_telling places v status text same told = (told.status_is ∙ ap verdict_status same, told.line_is ∙ ap (λ (x : Verdict). verdict_line places x) same)

certified_claim : (file : List ℕ) (g : Graph) (o : EdgeOrder) (sheet log : List ℕ) (said : Sheet) (status : Status) (text : List ℕ) → HasStation file g o →
    CertifiesSheet g o sheet log said → IsSheetAnswer g o said log status text → IsCertifiedLine said status text
certified_claim file g o sheet log said status text has c (inl broken) = absurd (lawful_not_broken g o said said.found status text c.lawful broken)
certified_claim file g o sheet log said status text has c (inr claim) =
    let may = judgeable file sheet g o said has c.is_text in
    let is : claim.verdict ≡ verdicts.Certified =
    certified_due (layout g o said.grid) said.order (claim_of said.order said.found said.ending) log c.expected c.lines claim.verdict may.station may.order
    may.grid may.claim c.is_expected c.whole c.certified claim.judged in
    certified_telling (claimed said.order said.ending) claim.verdict status text is claim.told

certified_judged : (file : List ℕ) (g : Graph) (o : EdgeOrder) (sheet log : List ℕ) (said : Sheet) (status : Status) (text : List ℕ) → HasStation file g o →
    CertifiesSheet g o sheet log said → IsClaimJudged g o sheet log status text → IsCertifiedLine said status text
certified_judged file g o sheet log said status text has c (inl checked) =
    let same : checked.said ≡ said = one_sheet g false sheet checked.said said checked.is_text c.is_text in
    certified_claim file g o sheet log said status text has c (subst (λ (s : Sheet). IsSheetAnswer g o s log status text) same checked.answer)
certified_judged file g o sheet log said status text has c (inr refused) = absurd
    (sheet_or_fault g false sheet said refused.what refused.line c.is_text refused.first)

pub certified_is_due : (file sheet log : List ℕ) (g : Graph) (o : EdgeOrder) (said : Sheet) (status : Status) (text : List ℕ) → HasStation file g o →
    CertifiesSheet g o sheet log said → IsChecked file sheet log status text →
    (status ≡ Done) × (text ≡ verdict_line (claimed said.order said.ending) verdicts.Certified)
certified_is_due file sheet log g o said status text has c (inl (h, p, also, judged)) =
    certified_judged file g o sheet log said status text has c (same_station file sheet log g h o p status text has also judged)
certified_is_due file sheet log g o said status text has c (inr refused) = absurd (station_or_fault file g o refused.fault has refused.has)

-- ---- and nothing else

-- no other verdict ends with 0
done_certified : (v : Verdict) → Done ≡ verdict_status v → v ≡ verdicts.Certified
done_certified verdicts.Certified is = refl
done_certified (verdicts.Lacks place) is = absurd (cc)
done_certified (verdicts.Refused refusals.Room line) is = absurd (cc)
done_certified (verdicts.Refused refusals.Differs line) is = absurd (cc)
done_certified (verdicts.Refused refusals.NewVar line) is = absurd (cc)
done_certified (verdicts.Refused refusals.WrongQuery line) is = absurd (cc)
done_certified (verdicts.Refused refusals.NotImplied line) is = absurd (cc)
done_certified (verdicts.Refused refusals.NotNew line) is = absurd (cc)
done_certified (verdicts.Faulty what line) is = absurd (cc)

-- nor a drawing that breaks a law
pub done_not_broken : (g : Graph) (o : EdgeOrder) (said : Sheet) (found : Option Drawing) (text : List ℕ) → IsFoundBroken g o said found Done text → ⊥
done_not_broken g o said None text broken = broken
done_not_broken g o said (Some d) text broken = let is : Done ≡ Broken = broken.status_is in cc

abbrev pub IsCertifiedSheet : Graph → EdgeOrder → (sheet log text : List ℕ) → Sheet → Type 0
IsCertifiedSheet g o sheet log text said = CertifiesSheet g o sheet log said × ClaimsTruly g o said ×
    (text ≡ verdict_line (claimed said.order said.ending) verdicts.Certified)

pub certified_answer : (g : Graph) (o : EdgeOrder) (sheet log text : List ℕ) (said : Sheet) → IsSheetText g false sheet said →
    IsSheetAnswer g o said log Done text → IsCertifiedSheet g o sheet log text said
certified_answer g o sheet log text said is (inl broken) = absurd (done_not_broken g o said said.found text broken)
certified_answer g o sheet log text said is (inr claim) =
    let same : claim.verdict ≡ verdicts.Certified = done_certified claim.verdict claim.told.status_is in
    let judged : IsLogJudged (layout g o said.grid) said.order (claim_of said.order said.found said.ending) log verdicts.Certified =
    subst (λ (v : Verdict). IsLogJudged (layout g o said.grid) said.order (claim_of said.order said.found said.ending) log v) same claim.judged in (
      record {
        is_text = is;
        lawful = claim.lawful;
        expected = judged.expected;
        is_expected = judged.is_expected;
        lines = judged.is_verdict.lines;
        whole = judged.is_verdict.whole;
        certified = judged.is_verdict.certified;
      },
      judged.is_verdict.is_so,
      (certified_telling (claimed said.order said.ending) claim.verdict Done text same claim.told).1,
    )

-- so the log certifies what the sheet claims, whatever its text
pub certified_whole : (g : Graph) (o : EdgeOrder) (said : Sheet) (log text : List ℕ) → IsSheetAnswer g o said log Done text →
    CertifiesWhole (layout g o said.grid) said.order (claim_of said.order said.found said.ending) log
certified_whole g o said log text (inl broken) = absurd (done_not_broken g o said said.found text broken)
certified_whole g o said log text (inr claim) =
    let same : claim.verdict ≡ verdicts.Certified = done_certified claim.verdict claim.told.status_is in
    let judged : IsLogJudged (layout g o said.grid) said.order (claim_of said.order said.found said.ending) log verdicts.Certified =
    subst (λ (v : Verdict). IsLogJudged (layout g o said.grid) said.order (claim_of said.order said.found said.ending) log v) same claim.judged in
    record {
      expected = judged.expected;
      lines = judged.is_verdict.lines;
      is_expected = judged.is_expected;
      whole = judged.is_verdict.whole;
      certified = judged.is_verdict.certified;
    }

pub only_certified : (file sheet log text : List ℕ) → IsChecked file sheet log Done text →
    (g : Graph) × (o : EdgeOrder) × (said : Sheet) × HasStation file g o × CertifiesSheet g o sheet log said × ClaimsTruly g o said ×
    (text ≡ verdict_line (claimed said.order said.ending) verdicts.Certified)
only_certified file sheet log text (inl (g, o, has, inl checked)) =
    let is = certified_answer g o sheet log text checked.said checked.is_text checked.answer in
    (g, o, checked.said, has, is.0, is.1, is.2)
only_certified file sheet log text (inl (g, o, has, inr refused)) = let is : Done ≡ Refused = refused.answers.status_is in absurd (cc)
only_certified file sheet log text (inr refused) = let is : Done ≡ Refused = refused.answers.status_is
    ∙ file_fault_status file refused.fault refused.has in absurd (cc)
