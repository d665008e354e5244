use Rattle.std.proofs.Common.{◌≡◌, ℕ, true, length, drop}
use Rattle.log_trim.specs.Found.{is_needed, HasVar, AreOnTrail}
use Rattle.log_trim.proofs.needs.clear.Given as goal

abbrev pub invariant-loop-i : goal.invariant-loop-i
invariant-loop-i l = record {
  size : length l.needed ≡ length l.fn.needed;
  rest : AreOnTrail l.fn.needed l.trail.lits → (x : ℕ) → is_needed l.needed x ≡ true → HasVar (drop l.i l.trail.lits) x;
}
