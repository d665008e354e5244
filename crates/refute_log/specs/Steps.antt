-- Lines that a call tells: one list for every log, also for one that keeps none.
use Rattle.std.specs.Prelude.{◌≡◌, ◌≤◌, ℕ, max, ◌++◌, length, flat_map}
use Rattle.outside_io.specs.Counts.{rose_by}
use Rattle.refute_log.specs.Told.{Lines, AddsAll}
use Rattle.refute_log.specs.Log.{learnt, learnt_count, Derives, clause_lines, BeginsLines}

-- so many lines were told behind these: what was known is known with them, the log was told them and counted the
-- Learnt ones, and R holds of them
pub record ToldBehind (known log_old log_new : Lines → Type 0) (count_old count_new : ℕ) (lines : Lines)
    (R : Lines → Type 0) : Type 0 where
  pub more : Lines
  pub knows : known (lines ++ more)
  pub told : AddsAll log_old log_new more
  pub counted : count_new ≡ rose_by (length (flat_map learnt more)) count_old
  pub does : R more

-- from whatever lines were known before, further ones were told, of which R holds
abbrev pub GoesOn : (knows_old knows_new log_old log_new : Lines → Type 0) → (count_old count_new : ℕ) →
    (Lines → Lines → Type 0) → Type 0
GoesOn knows_old knows_new log_old log_new count_old count_new R =
    (lines : Lines) → knows_old lines → ToldBehind knows_new log_old log_new count_old count_new lines (R lines)

-- the same of two states of one thing that knows lines, tells them to a log and counts the Learnt ones
abbrev pub Continues : {S : Type 0} → (S → Lines → Type 0) → (S → Lines → Type 0) → (S → ℕ) → S → S →
    (Lines → Lines → Type 0) → Type 0
Continues {S} knows log count old new R =
    GoesOn (knows old) (knows new) (log old) (log new) (count old) (count new) R

-- some lines are known
abbrev pub KnowsSome : {S : Type 0} → (S → Lines → Type 0) → S → Type 0
KnowsSome {S} knows s = (lines : Lines) × knows s lines

-- whatever the log tells after an error derives, where what it told before was known
abbrev pub StillDerives : (known log_old log_new : Lines → Type 0) → Type 0
StillDerives known log_old log_new = (lines : Lines) → known lines → log_old lines → (told : Lines) → log_new told →
    Derives told

-- whatever the log tells after an error has the Formula and Bound lines of what it told before, and no others
abbrev pub GivesNoMore : (log_old log_new : Lines → Type 0) → Type 0
GivesNoMore log_old log_new =
    (lines : Lines) → log_old lines → (told : Lines) → log_new told → clause_lines told ≡ clause_lines lines

-- a log with these lines had an error, and has those now: it derives; its Formula and Bound lines are those of before,
-- the first of the expected ones behind them, and no others; its Learnt lines are no more than before, or at most so
-- many, as a log counts them
pub record IsLeft (most : ℕ) (expected before now : Lines) : Type 0 where
  pub derives : Derives now
  pub front : Lines
  pub begins : BeginsLines front expected
  pub gives : clause_lines now ≡ clause_lines before ++ front
  pub few : learnt_count now ≤ max most (learnt_count before)

-- whatever the log tells after an error is so, where what it told before was known
abbrev pub Leaves : (most : ℕ) → (expected : Lines) → (known log_old log_new : Lines → Type 0) → Type 0
Leaves most expected known log_old log_new =
    (lines : Lines) → known lines → log_old lines → (told : Lines) → log_new told → IsLeft most expected lines told
