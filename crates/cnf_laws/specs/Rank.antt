-- The nodes in a row from west to east.
use Rattle.std.specs.Prelude.{◌≡◌, ◌<◌, ◌<ℤ◌, ◌⊎◌, ℕ, zero, suc, ◌+◌, Bool, true, false, nat_lt, length}
use Rattle.std.specs.Ordering.{int_cmp}
use Rattle.std.specs.declared.cmp.Ordering.{Ordering}
use Rattle.std.specs.declared.cmp.Ordering.TheVariants.{Less, Equal, Greater}
use Rattle.plan_core.specs.Graph.{Graph, mileage}

-- the node of smaller mileage comes first; of two that have one mileage, the one of smaller number
abbrev pub comes_by : Ordering → ℕ → ℕ → Bool
comes_by Less u v = true
comes_by Equal u v = nat_lt u v
comes_by Greater u v = false

-- u has the smaller mileage, or both have one mileage and u the smaller number
abbrev pub LiesBefore : Graph → ℕ → ℕ → Type 0
LiesBefore g u v = (mileage g u <ℤ mileage g v) ⊎ ((mileage g u ≡ mileage g v) × (u < v))

-- the same as a test
abbrev pub comes_before : Graph → ℕ → ℕ → Bool
comes_before g u v = comes_by (int_cmp (mileage g u) (mileage g v)) u v

abbrev pub one_when : Bool → ℕ
one_when true = 1
one_when false = 0

-- how many numbers below n pass the test
abbrev pub count_below : (ℕ → Bool) → ℕ → ℕ
count_below p zero = 0
count_below p (suc n) = count_below p n + one_when (p n)

-- a node's place in the row, from 0 in the west
unfoldable pub west_rank : Graph → ℕ → ℕ
west_rank g n = count_below (λ u. comes_before g u n) (length g.nodes)
