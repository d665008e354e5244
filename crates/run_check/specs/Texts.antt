-- The text of what is left of a log, and the lines that trim and recheck put.
use Rattle.std.specs.Prelude.{◌≡◌, ℕ, List, [], ◌∷◌, length, flat_map, codes}
use Rattle.std.specs.Fmt.{decimal}
use Rattle.outside_io.specs.Fields.{line_text}
use Rattle.hint_log.specs.Checked.{clauses_learnt}
use Rattle.hint_log.specs.declared.text_fault.HintsWhat.{HintsWhat}
use Rattle.hint_log.specs.HintFaults as hint_faults
use Rattle.hint_log.specs.HintText.{hints_text}
use Rattle.log_check.specs.declared.hint_verdict.HintRefusal.{HintRefusal}
use Rattle.log_check.specs.declared.hint_verdict.HintRefusal.TheVariants as refusals
use Rattle.log_check.specs.declared.hint_verdict.HintsVerdict.{HintsVerdict}
use Rattle.log_check.specs.declared.hint_verdict.HintsVerdict.TheVariants as verdicts
use Rattle.log_check.specs.HintRefused.{word_of}
use Rattle.log_check.specs.declared.verdict.Verdict.TheVariants as log_verdicts
use Rattle.log_trim.specs.declared.trimming.TrimmedLog.{TrimmedLog}
use Rattle.run_input.specs.declared.status.Status.{Status}
use Rattle.run_input.specs.declared.status.Status.TheVariants.{Done, Refused, Unfinished, Broken}
use Rattle.run_input.specs.Fault.{told_line}
use Rattle.run_check.specs.CheckLine.{verdict_line}

-- ---- trim

-- the text of what is left of a log
abbrev pub left_text : TrimmedLog → List ℕ
left_text r = hints_text r.caps r.kept

-- how many Learnt lines the log has, and how many of them are kept
abbrev pub trimmed_line : TrimmedLog → List ℕ
trimmed_line r = line_text (codes "trimmed") (decimal r.learnt ∷ decimal (length (flat_map clauses_learnt r.kept)) ∷ [])

-- there is no room to find hints in the log
abbrev pub no_room_line : List ℕ
no_room_line = line_text (codes "trim") (codes "Room" ∷ [])

-- ---- recheck

-- the line of a fault of a hinted log's text
abbrev pub hints_fault_line : HintsWhat → (line : ℕ) → List ℕ
hints_fault_line what line =
    told_line (codes "hints") (hint_faults.number_of what) (hint_faults.word_of what) (codes "line" ∷ decimal line ∷ [])

-- where a line has no room the text isn't judged to its end
abbrev pub hint_refusal_status : HintRefusal → Status
hint_refusal_status refusals.BadHint = Broken
hint_refusal_status refusals.Room = Unfinished

-- the status that goes with a verdict on a hinted log
abbrev pub hints_status : HintsVerdict → Status
hints_status verdicts.Certified = Done
hints_status (verdicts.Lacks place) = Broken
hints_status (verdicts.Refused why line) = hint_refusal_status why
hints_status (verdicts.Faulty what line) = Refused

-- and the line, where so many places are claimed: those that certify and that lack a place are those of check
abbrev pub hints_line : (places : ℕ) → HintsVerdict → List ℕ
hints_line places verdicts.Certified = verdict_line places log_verdicts.Certified
hints_line places (verdicts.Lacks place) = verdict_line places (log_verdicts.Lacks place)
hints_line places (verdicts.Refused why line) = line_text (codes "check")
    (word_of why ∷ codes "line" ∷ decimal line ∷ [])
hints_line places (verdicts.Faulty what line) = hints_fault_line what line

-- the answer tells the verdict
pub record TellsHints (places : ℕ) (verdict : HintsVerdict) (status : Status) (text : List ℕ) : Type 0 where
  pub status_is : status ≡ hints_status verdict
  pub line_is : text ≡ hints_line places verdict
