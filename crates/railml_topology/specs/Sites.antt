-- What a topology is built from.
-- Private contracts alone cite this module.
use Rattle.std.specs.Prelude.{◌≡◌, ◌⊎◌, ℕ, true, List, Some, ℤ}
use Rattle.railml_read.specs.declared.rows.Elem.{Elem}
use Rattle.railml_read.specs.declared.rows.ElemKind.TheVariants.{Begin, End}
use Rattle.railml_faults.specs.Rows.{is_of_kind, ReadsMetres, HasPosition}
use Rattle.railml_faults.specs.Tables.{AreTablesOf}
use Rattle.railml_topology.specs.declared.sites.Site.{Site}
use Rattle.railml_topology.specs.Resolved.{HasAbsPos, AreLayouts}
use Rattle.railml_topology.specs.Places.{HasPlaces}
use Rattle.railml_topology.specs.Sound.{AreSoundRows}

-- nothing is wrong with the rows, and what is kept of them is right
pub record IsReadySite (s : Site) : Type 0 where
  pub sound : AreSoundRows s.rows.now
  pub tables : AreTablesOf s.rows.now s.tables.now
  pub laid_out : AreLayouts s.rows.now s.layouts.now
  pub placed : HasPlaces s.rows.now s.layouts.now s.places.now

-- a row has a position, and its `absPos` is a number where it has one
pub record HasNumbers (row : Elem) : Type 0 where
  pub position : (z : ℤ) × HasPosition row z
  pub mileage : (text : List ℕ) → row.attrs.abs_pos ≡ Some text → (z : ℤ) × ReadsMetres text z

-- a begin, with the numbers that mileages of its track start from
pub record IsStart (begin : Elem) : Type 0 where
  pub numbers : HasNumbers begin
  pub starts : (z : ℤ) × HasAbsPos begin z

-- row i is a begin or an end
abbrev pub IsEither : List Elem → ℕ → Type 0
IsEither rows i = (is_of_kind rows Begin i ≡ true) ⊎ (is_of_kind rows End i ≡ true)
