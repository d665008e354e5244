-- What one read adds to a list, and takes from where it is read.
use Rattle.std.specs.Prelude.{◌≡◌, ℕ, ◌≤◌, List, ◌++◌, length}
use Rattle.std.specs.declared.option.Option.{Option}
use Rattle.std.specs.Io.KnownBytes.{Consumes, IsAtEnd}

-- a read that was asked for at most `most` bytes gave n: they stand at the end of the list, the source
-- has lost them, and none came only at its end
pub record AddsPiece (most n : ℕ) (old new : List ℕ) (before after : Option (List ℕ)) : Type 0 where
  pub bytes : List ℕ
  pub count : length bytes ≡ n
  pub within : n ≤ most
  pub added : new ≡ old ++ bytes
  pub taken : Consumes before after bytes
  pub at_end : n ≡ 0 → IsAtEnd after
