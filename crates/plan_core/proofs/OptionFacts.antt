-- Options that are none.
use Rattle.std.proofs.Common.{◌≡◌, Option, Some, None}
use Rattle.std.specs.Prelude.{MatchOption}

pub none_at : {A : Type 0} (o : Option A) (P : Type 0) (Q : A → Type 0) → o ≡ None → P → MatchOption o P Q
none_at None P Q e h = h
none_at (Some x) P Q e h = cc
