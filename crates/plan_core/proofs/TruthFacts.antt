-- Truth values and numbers below a bound. std has the like: both_ways (not true and false at once), false_from_ne_true, not-true,
-- and_parts, and_from, or_cases, cases_lt, eqb-true and eqb-false in Bool, or-false in Math.Bool, not_from_Decides in
-- Bool.Decides.
use Rattle.std.proofs.Common.{◌≡◌, ◌⊎◌, ℕ, ◌+◌, ◌<◌, Bool, true, arith, rules}
use Rattle.std.proofs.lemmas.Bool.Decides.{same_from_decides}

-- two tests of which each passes where the other does
pub same_when : (p q : Bool) → (p ≡ true → q ≡ true) → (q ≡ true → p ≡ true) → p ≡ q
same_when p q there back = same_from_decides p q (there, back) (λ e. e, λ e. e)

-- a number below the next one is below this one, or is it
pub below_or_is : (k n : ℕ) → k < n + 1 → (k < n) ⊎ (k ≡ n)
below_or_is k n less = search (rules, arith)
