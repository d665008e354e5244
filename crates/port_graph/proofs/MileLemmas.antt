-- Whole numbers compared by a test, and negated.
use Rattle.std.proofs.Common.{◌≡◌, ℤ, true, false, arith}
use Rattle.std.specs.Prelude.{◌<ℤ◌, int_lt, neg_ℤ}
use Rattle.std.proofs.lemmas.Int.{ints}

pub less_true : (a b : ℤ) → a <ℤ b → int_lt a b ≡ true
less_true a b less = grind (arith, ints)

pub less_false : (a b : ℤ) → a <ℤ b → int_lt b a ≡ false
less_false a b less = grind (arith, ints)

pub neg_less : (a b : ℤ) → a <ℤ b → neg_ℤ b <ℤ neg_ℤ a
neg_less a b less = omega (arith, ints)
