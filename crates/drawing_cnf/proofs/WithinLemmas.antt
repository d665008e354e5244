-- The literals of a node's clauses are there.
use Rattle.std.proofs.Common.{ℕ, ◌+◌, ◌≤◌, [], ◌∷◌}
use Rattle.cnf_core.specs.LitOrTruth.{yes, flip, AreWithin}
use Rattle.cnf_core.proofs.GatherLemmas.{flip_within}
use Rattle.order_int.specs.IntVars.{IntVars, IntIsThere}
use Rattle.order_int.specs.OrderInt.{int_at_least}
use Rattle.order_int.proofs.IntLemmas.{at_least_within}

pub from_within : (vars : ℕ) (i : IntVars) (k m : ℕ) → IntIsThere vars i → 1 ≤ m → m ≤ vars → AreWithin vars (int_at_least i k ∷ yes m ∷ [])
from_within vars i k m there from to = (at_least_within vars i k there, ((from, to), tt))

pub past_within : (vars : ℕ) (i : IntVars) (k m : ℕ) → IntIsThere vars i → 1 ≤ m → m ≤ vars → AreWithin vars (flip (int_at_least i k) ∷ yes m ∷ [])
past_within vars i k m there from to = (flip_within vars (int_at_least i k) (at_least_within vars i k there), ((from, to), tt))

pub kept_within : (vars : ℕ) (x y : IntVars) (j k m : ℕ) → IntIsThere vars x → IntIsThere vars y → 1 ≤ m → m ≤ vars →
    AreWithin vars (flip (int_at_least x j) ∷ int_at_least x (j + 1) ∷ flip (int_at_least y k) ∷ int_at_least y (k + 1) ∷ flip (yes m) ∷ [])
kept_within vars x y j k m tx ty from to = (
  flip_within vars (int_at_least x j) (at_least_within vars x j tx),
  (
    at_least_within vars x (j + 1) tx,
    (flip_within vars (int_at_least y k) (at_least_within vars y k ty), (at_least_within vars y (k + 1) ty, ((from, to), tt))),
  ),
)
