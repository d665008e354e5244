-- What a sheet claims, for a log to certify, and the lines that check puts: that it is certified, or what is wrong with
-- the log.
use Rattle.std.specs.Prelude.{◌≡◌, ℕ, List, [], ◌∷◌, length, None, Some, codes}
use Rattle.std.specs.declared.option.Option.{Option}
use Rattle.std.specs.Fmt.{decimal}
use Rattle.plan_core.specs.declared.criterion.Criterion.{Criterion}
use Rattle.plan_core.specs.Drawing.{Drawing}
use Rattle.plan_core.specs.Values.{values_of}
use Rattle.outside_io.specs.Fields.{line_text}
use Rattle.plan_write.specs.declared.ending.Ending.{Ending}
use Rattle.plan_write.specs.declared.ending.Ending.TheVariants as endings
use Rattle.log_check.specs.declared.claim.Claim.{Claim}
use Rattle.log_check.specs.declared.claim.Claim.TheVariants as claims
use Rattle.log_check.specs.declared.verdict.Refusal.{Refusal}
use Rattle.log_check.specs.declared.verdict.Refusal.TheVariants as refusals
use Rattle.log_check.specs.declared.verdict.Verdict.{Verdict}
use Rattle.log_check.specs.declared.verdict.Verdict.TheVariants as verdicts
use Rattle.log_check.specs.Refused.{word_of}
use Rattle.run_input.specs.declared.fault.RunFault.TheVariants.{Log}
use Rattle.run_input.specs.declared.status.Status.{Status}
use Rattle.run_input.specs.declared.status.Status.TheVariants.{Done, Unfinished, Broken}
use Rattle.run_input.specs.Fault.{fault_line, fault_status}

-- ---- what is claimed

-- how many values, from the first of the order, a sheet with this ending claims to be least
abbrev pub claimed : List Criterion → Ending → ℕ
claimed order endings.Best = length order
claimed order endings.NoDrawing = 0
claimed order (endings.Conflicts settled) = settled
claimed order (endings.Room settled) = settled

-- what a sheet claims of the lawful drawings: with a drawing that none is better on so many criteria, with the ending
-- NoDrawing that there is none, and else nothing
abbrev pub claim_of : List Criterion → Option Drawing → Ending → Claim
claim_of order (Some d) ending = claims.Least (values_of d) (claimed order ending)
claim_of order None endings.Best = claims.Nothing
claim_of order None endings.NoDrawing = claims.NoDrawing
claim_of order None (endings.Conflicts settled) = claims.Nothing
claim_of order None (endings.Room settled) = claims.Nothing

-- ---- the lines

-- where a line has no room the log isn't judged to its end
abbrev pub refusal_status : Refusal → Status
refusal_status refusals.Room = Unfinished
refusal_status refusals.Differs = Broken
refusal_status refusals.NewVar = Broken
refusal_status refusals.WrongQuery = Broken
refusal_status refusals.NotImplied = Broken
refusal_status refusals.NotNew = Broken

-- the status that goes with a verdict on a log
abbrev pub verdict_status : Verdict → Status
verdict_status verdicts.Certified = Done
verdict_status (verdicts.Lacks place) = Broken
verdict_status (verdicts.Refused why line) = refusal_status why
verdict_status (verdicts.Faulty what line) = fault_status (Log what line)

-- and the line, where so many places are claimed
abbrev pub verdict_line : (places : ℕ) → Verdict → List ℕ
verdict_line places verdicts.Certified = line_text (codes "certified") (decimal places ∷ [])
verdict_line places (verdicts.Lacks place) = line_text (codes "check Lacks place") (decimal place ∷ [])
verdict_line places (verdicts.Refused why line) = line_text (codes "check")
    (word_of why ∷ codes "line" ∷ decimal line ∷ [])
verdict_line places (verdicts.Faulty what line) = fault_line (Log what line)

-- the answer tells the verdict
pub record TellsVerdict (places : ℕ) (verdict : Verdict) (status : Status) (text : List ℕ) : Type 0 where
  pub status_is : status ≡ verdict_status verdict
  pub line_is : text ≡ verdict_line places verdict
