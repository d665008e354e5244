use Rattle.std.proofs.Common.{◌≤◌, ℕ, take}
use Rattle.std.specs.Prelude.{All}
use Rattle.cnf_core.specs.declared.limits.TheConstants.{LAST_VAR}
use Rattle.log_trim.specs.HintRoom.{IsLineWithin}
use Rattle.log_trim.proofs.hint_trimming.greatest_of.Given as goal

abbrev pub invariant-loop-i : goal.invariant-loop-i
invariant-loop-i l = record {
  within : All (IsLineWithin l.most) (take l.i l.lines);
  least : (n : ℕ) → All (IsLineWithin n) l.lines → l.most ≤ n;
  limit : l.most ≤ LAST_VAR;
}
