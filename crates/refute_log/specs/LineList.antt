-- What a list of lines keeps: the number of its Learnt lines beside them.
use Rattle.std.specs.Prelude.{◌≡◌, ℕ}
use Rattle.std.proofs.Common.{subst, ap}
use Rattle.refute_log.specs.Told.{Lines}
use Rattle.refute_log.specs.Lines.{MayAllBeTold}
use Rattle.refute_log.specs.Log.{learnt_count}

-- what a `LineList` keeps: each of its lines is one that a log takes (`MayBeTold`), and its count is that
-- of their Learnt lines
pub record IsKept (lines : Lines) (learnt : ℕ) : Type 0 where
  pub counted : learnt ≡ learnt_count lines
  pub told : MayAllBeTold lines

-- the same of a list that is these lines
pub told_again : (lines same : Lines) → lines ≡ same → MayAllBeTold lines → MayAllBeTold same
told_again lines same e h = subst MayAllBeTold e h

pub counted_again : (lines same : Lines) → lines ≡ same → learnt_count lines ≡ learnt_count same
counted_again lines same e = ap learnt_count e
