-- What the bytes of three files give to trim.
use Rattle.std.proofs.Common.{◌≡◌, ◌≢◌, ℕ, false, List, sym, ◌∙◌, ap, subst, inl, inr}
use Rattle.std.specs.Prelude.{Option, Err, IfSome, IsErrOf, MatchOption}
use Rattle.outside_io.specs.Contents.{FilesAt, WhereTold, SameFiles}
use Rattle.plan_core.specs.Graph.{Graph}
use Rattle.plan_core.specs.Lawful.{Lawful}
use Rattle.track_order.specs.Order.{EdgeOrder, is_above}
use Rattle.plan_text.specs.SheetText.{Sheet}
use Rattle.plan_text.specs.SheetFaults.{IsSheetText}
use Rattle.drawing_cnf.specs.Layout.{layout}
use Rattle.log_check.specs.declared.claim.Claim.{Claim}
use Rattle.log_check.specs.Judged.{CertifiesWhole}
use Rattle.log_trim.specs.declared.trimming.TrimmedLog.{TrimmedLog}
use Rattle.log_trim.specs.TrimmedLog.{IsTrimmedLog}
use Rattle.log_trim.specs.declared.fault.TrimFault.{TrimFault}
use Rattle.log_trim.specs.declared.fault.TrimFault.TheVariants.{Limits}
use Rattle.log_trim.specs.HintRoom.{LogPassesLimits}
use Rattle.run_input.specs.declared.status.Status.{Status}
use Rattle.run_input.specs.declared.status.Status.TheVariants.{Done}
use Rattle.run_input.specs.declared.reply.Reply.{Reply}
use Rattle.run_input.specs.Met.{Met, between, HasRead}
use Rattle.run_input.specs.Input.{HasStation}
use Rattle.run_input.specs.Answer.{log_input}
use Rattle.run_input.specs.ThreeFiles.{AreThreeFiles}
use Rattle.run_input.proofs.ThreeFilesLemmas.{read_three}
use Rattle.run_check.specs.CheckLine.{claim_of}
use Rattle.run_check.specs.Checked.{IsSheetAnswer}
use Rattle.run_check.specs.CertifiedSheet.{CertifiesSheet}
use Rattle.run_check.proofs.CheckedLemmas.{certified_whole, certified_answer}
use Rattle.run_check.specs.declared.trimming.Finding.{Finding}
use Rattle.run_check.specs.declared.trimming.Finding.TheVariants.{Answered, Left, PastLimits}
use Rattle.run_check.specs.Trimmed.{PassesFor, LeavesLines, FilesPassLimits, TellsLeft, TellsNoRoom, AreTrimmed, IsTrimAnswer}
use Rattle.run_check.proofs.WrittenLemmas.{tells_later}
use Rattle.run_check.specs.Finding.{IsClaimFinding, IsSheetFinding, IsFinding}

-- ---- the sheet and the log

-- what is left of a log where it certifies a claim on the drawings of a sheet's grid and order
abbrev pub IsTrimmedFor : Graph → EdgeOrder → Sheet → Claim → List ℕ → Option TrimmedLog → Type 0
IsTrimmedFor g o said claim log r =
    MatchOption r (CertifiesWhole (layout g o said.grid) said.order claim log → ⊥)
    (λ left. CertifiesWhole (layout g o said.grid) said.order claim log × IsTrimmedLog (layout g o said.grid) said.order claim log left)

pub trimmed_for : (g : Graph) (o : EdgeOrder) (said inside : Sheet) (claim : Claim) (log : List ℕ) (r : Option TrimmedLog) → inside ≡ said →
    claim ≡ claim_of said.order said.found said.ending → IsTrimmedFor g o inside claim log r →
    IsTrimmedFor g o said (claim_of said.order said.found said.ending) log r
trimmed_for g o said inside claim log r same is h = subst (λ (k : Claim). IsTrimmedFor g o said k log r) is
    (subst (λ (s : Sheet). IsTrimmedFor g o s claim log r) same h)

-- a log past the limits is so for the sheet whose parts these are
pub passes_for : {T : Type 0} (g : Graph) (o : EdgeOrder) (said inside : Sheet) (claim : Claim) (log : List ℕ) (fault : TrimFault) → inside ≡ said →
    claim ≡ claim_of said.order said.found said.ending → fault ≡ Limits →
    (IsErrOf {T = T} (Err fault) Limits → LogPassesLimits (layout g o inside.grid) inside.order claim log) → PassesFor g o said log
passes_for g o said inside claim log fault same is limit passes = subst (λ (k : Claim). LogPassesLimits (layout g o said.grid) said.order k log) is
    (subst (λ (s : Sheet). LogPassesLimits (layout g o s.grid) s.order claim log) same (passes (ap (λ (e : TrimFault). Err e) limit)))

-- check ends with another status than 0 where the log doesn't certify the claim
pub lacking_not_done : (g : Graph) (o : EdgeOrder) (said : Sheet) (log : List ℕ) (status : Status) (text : List ℕ) →
    (CertifiesWhole (layout g o said.grid) said.order (claim_of said.order said.found said.ending) log → ⊥) →
    IsSheetAnswer g o said log status text → status ≢ Done
lacking_not_done g o said log status text lacks answer is = lacks (certified_whole g o said log text
    (subst (λ (s : Status). IsSheetAnswer g o said log s text) is answer))

-- where the drawing is lawful, if there is one, and the log certifies the claim, it certifies what the sheet claims
pub certifies_of : (g : Graph) (o : EdgeOrder) (said : Sheet) (log : List ℕ) → IfSome said.found (Lawful g (is_above o) said.grid) →
    CertifiesWhole (layout g o said.grid) said.order (claim_of said.order said.found said.ending) log →
    (sheet : List ℕ) → IsSheetText g false sheet said → CertifiesSheet g o sheet log said
certifies_of g o said log lawful whole sheet told = record {
  is_text = told;
  lawful = lawful;
  expected = whole.expected;
  is_expected = whole.is_expected;
  lines = whole.lines;
  whole = whole.whole;
  certified = whole.certified;
}

-- ---- the sheet that was read, and the file

pub sheet_finding : (g : Graph) (o : EdgeOrder) (sheet log : List ℕ) (said : Sheet) (f : Finding) → IsSheetText g false sheet said →
    IsClaimFinding g o said log f → IsSheetFinding g o sheet log f
sheet_finding g o sheet log said (Answered reply) told h = (inl (record { said = said; is_text = told; answer = h.0 }), h.1)
sheet_finding g o sheet log said (Left r) told h = record { said = said; certifies = h.0 sheet told; left = h.1 }
sheet_finding g o sheet log said PastLimits told h = record { said = said; is_text = told; claim = h }

pub file_finding : (file sheet log : List ℕ) (g : Graph) (o : EdgeOrder) (f : Finding) → HasStation file g o → IsSheetFinding g o sheet log f →
    IsFinding file sheet log f
file_finding file sheet log g o (Answered reply) has h = (inl (g, o, has, h.0), h.1)
file_finding file sheet log g o (Left r) has h = record { graph = g; order = o; said = h.said; station = has; certifies = h.certifies; left = h.left }
file_finding file sheet log g o PastLimits has h = record {
  graph = g;
  order = o;
  said = h.said;
  station = has;
  certifies = (certified_answer g o sheet log h.claim.text h.said h.is_text h.claim.checked).0;
  passes = h.claim.passes;
}

pub finding_of : (file sheet log b s l : List ℕ) (f e : Finding) → b ≡ file → s ≡ sheet → l ≡ log → f ≡ e → IsFinding b s l f → IsFinding file sheet log e
finding_of file sheet log b s l f e first second third is h =
    subst (IsFinding file sheet log) is
    (subst (λ (x : List ℕ). IsFinding file sheet x f) third (subst (λ (x : List ℕ). IsFinding file x l f) second
    (subst (λ (x : List ℕ). IsFinding x s l f) first h)))

pub answered_trim : (input sheet log hints bytes said lines : List ℕ) (met : Met) (reply : Reply) →
    AreThreeFiles input sheet (log_input 3 log) met.before.contents bytes said lines → HasRead met 3 → IsFinding bytes said lines (Answered reply) →
    IsTrimAnswer input sheet log hints met reply.status reply.text.items
answered_trim input sheet log hints bytes said lines met reply files read h =
    read_three input sheet (log_input 3 log) met (AreTrimmed hints met) bytes said lines reply.status reply.text.items files read (inl h)

pub left_trim : (input sheet log hints bytes said lines : List ℕ) (old mid new : FilesAt) (r : TrimmedLog) (status : Status) (text : List ℕ) →
    AreThreeFiles input sheet (log_input 3 log) old.contents bytes said lines → HasRead (between old new) 3 →
    WhereTold old.contents mid.contents SameFiles → LeavesLines bytes said lines r → TellsLeft r hints (between mid new) status text →
    IsTrimAnswer input sheet log hints (between old new) status text
left_trim input sheet log hints bytes said lines old mid new r status text files read same leaves told =
    read_three input sheet (log_input 3 log) (between old new) (AreTrimmed hints (between old new)) bytes said lines status text files read
    (inr (inl (r, leaves, tells_later r hints old mid new status text same told)))

pub no_room_trim : (input sheet log hints bytes said lines : List ℕ) (met : Met) (status : Status) (text : List ℕ) →
    AreThreeFiles input sheet (log_input 3 log) met.before.contents bytes said lines → HasRead met 3 → FilesPassLimits bytes said lines →
    TellsNoRoom status text → IsTrimAnswer input sheet log hints met status text
no_room_trim input sheet log hints bytes said lines met status text files read passes told =
    read_three input sheet (log_input 3 log) met (AreTrimmed hints met) bytes said lines status text files read (inr (inr (passes, told)))
