-- The range of an integer, and its variables.
use Rattle.std.specs.Prelude.{◌≤◌, ◌<◌, ℕ, ◌+◌, ◌-◌}
use Rattle.cnf_core.specs.declared.limits.TheConstants.{VARS}

-- variable first + k says "at least low + k + 1"
pub record IntVars : Type 0 where
  pub low : ℕ
  pub high : ℕ
  pub first : ℕ

-- the integer of this range, whose first variable this is
abbrev pub int_vars : ℕ → ℕ → ℕ → IntVars
int_vars low high first = record { low = low; high = high; first = first }

-- how many variables it has
abbrev pub size : IntVars → ℕ
size i = i.high - i.low

-- the range isn't empty and ends at 65,535 or before, and the variables may be there
pub record IsInt (i : IntVars) : Type 0 where
  pub order : i.low ≤ i.high
  pub small : i.high ≤ 65535
  pub from : 1 ≤ i.first
  pub to : i.first + size i ≤ VARS + 1

-- its variables are among the variables 1 to vars
pub record IntIsThere (vars : ℕ) (i : IntVars) : Type 0 where
  pub from : 1 ≤ i.first
  pub to : i.first + size i ≤ vars + 1

-- the same of its variables alone: an integer of one number has none
abbrev pub IntIsIn : ℕ → IntVars → Type 0
IntIsIn vars i = 0 < size i → i.first + size i ≤ vars + 1
