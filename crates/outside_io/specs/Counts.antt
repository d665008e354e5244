-- Counts that never fall, and stand still at their end.
use Rattle.std.specs.Prelude.{ℕ, zero, suc, ◌+◌, ◌-◌, ◌^◌, ◌≤◌, min}
use Rattle.std.proofs.Common.{lit≤}

-- where every count ends: the greatest number of 64 bits
abbrev pub last_count : ℕ
last_count = 2 ^ 64 - 1

-- the count hasn't passed its end
abbrev pub IsCount : ℕ → Type 0
IsCount n = n ≤ last_count

-- one more, or the end
abbrev pub next_count : ℕ → ℕ
next_count n = min (n + 1) last_count

-- the count rose, or stands at its end
abbrev pub Rose : ℕ → ℕ → Type 0
Rose before now = next_count before ≤ now

-- every count begins at 0
pub none_counted : IsCount 0
none_counted = lit≤ tt

-- so many more, or the end
abbrev pub rose_by : ℕ → ℕ → ℕ
rose_by zero n = n
rose_by (suc more) n = next_count (rose_by more n)
