-- What is known while a topology is built from its rows.
-- Private contracts alone cite this module.
use Rattle.std.specs.Prelude.{◌≡◌, ◌||◌, ℕ, Bool, List, Some, slice_get, ℤ, pos, neg_ℤ, ◌<ℤ◌}
use Rattle.railml_read.specs.declared.rows.Elem.{Elem}
use Rattle.railml_read.specs.declared.rows.ElemKind.TheVariants.{Switch, Crossing}
use Rattle.railml_faults.specs.Rows.{is_of_kind, HasPosition}
use Rattle.railml_topology.specs.declared.order.Standing.{Standing}

-- less than b from nought, either way
abbrev pub IsOfSize : ℕ → ℤ → Type 0
IsOfSize b z = (neg_ℤ (pos b) <ℤ z) × (z <ℤ pos b)

-- a switch or a crossing
abbrev pub is_inner : List Elem → ℕ → Bool
is_inner rows i = is_of_kind rows Switch i || is_of_kind rows Crossing i

-- a row with its position
pub record IsStanding (rows : List Elem) (s : Standing) : Type 0 where
  pub row : Elem
  pub is : slice_get rows s.row ≡ Some row
  pub position : HasPosition row s.position
