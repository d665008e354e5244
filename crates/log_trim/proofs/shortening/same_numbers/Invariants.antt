use Rattle.std.proofs.Common.{◌≡◌, ◌<◌, ℕ, length}
use Rattle.log_trim.specs.Shortened.{new_number_in}
use Rattle.log_trim.proofs.shortening.same_numbers.Given as goal

abbrev pub invariant-loop-n : goal.invariant-loop-n
invariant-loop-n l = record {
  size : length l.numbers.items ≡ l.n;
  same : (m : ℕ) → m < l.n → new_number_in l.numbers.items m ≡ m;
}
