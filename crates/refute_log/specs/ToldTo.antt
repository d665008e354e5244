-- What a log of whatever kind was told in between two of its states.
use Rattle.std.specs.Prelude.{◌≡◌, ℕ, length, flat_map}
use Rattle.outside_io.specs.Counts.{rose_by}
use Rattle.refute_log.specs.Told.{Lines, AddsAll}
use Rattle.refute_log.specs.Log.{learnt}

-- it was told these lines: whatever list it told before, it tells with them at its end; and it counts their Learnt
-- ones, also where it keeps no lines
pub record IsToldTo (tells_before tells_after : Lines → Type 0) (count_before count_after : ℕ) (lines : Lines) : Type 0
  where
    pub behind : AddsAll tells_before tells_after lines
    pub counted : count_after ≡ rose_by (length (flat_map learnt lines)) count_before

-- the same of two states of one log, by what each tells and counts
abbrev pub told_to : {Self : Type 0} → (tells : Self → Lines → Type 0) → (count : Self → ℕ) → (old new : Self) → Lines →
    Type 0
told_to {Self} tells count old new lines = IsToldTo (tells old) (tells new) (count old) (count new) lines
