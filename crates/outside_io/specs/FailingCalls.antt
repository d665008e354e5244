-- Calls on an object in memory that are to fail by their number.
use Rattle.std.specs.Prelude.{ℕ, List, Contains}
use Rattle.outside_io.specs.declared.call_plan.CallPlan.{CallPlan}
use Rattle.outside_io.specs.Counts.{next_count}

-- the numbers of the calls that are to fail, and how many calls there were; the first has the number 1
pub record FailingCalls : Type 0 where
  pub to_fail : List ℕ
  pub calls : ℕ

-- the next call is to fail
abbrev pub IsNextToFail : FailingCalls → Type 0
IsNextToFail plan = Contains plan.to_fail (next_count plan.calls)

-- there was one more call
abbrev pub after_call : FailingCalls → FailingCalls
after_call plan = record plan { calls = next_count plan.calls }

abbrev pub plan_of : CallPlan → FailingCalls
plan_of plan = record { to_fail = plan.to_fail.items; calls = plan.calls.value }
