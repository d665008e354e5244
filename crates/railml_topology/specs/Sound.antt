-- What holds of each row where nothing is wrong with the rows. The builder of the topology goes by it.
-- Private contracts alone cite this module.
use Rattle.std.specs.Prelude.{◌≡◌, ◌≢◌, ◌⊎◌, ◌≤◌, ℕ, Bool, true, codes, List, length, Some, slice_get, ℤ}
use Rattle.plan_core.specs.declared.limits.TheConstants.{MAX_TRACKS}
use Rattle.plan_core.specs.declared.sides.Hand.{Hand}
use Rattle.plan_core.specs.Topology.{IsId}
use Rattle.railml_read.specs.declared.rows.Elem.{Elem}
use Rattle.railml_read.specs.declared.rows.ElemKind.TheVariants.{Begin, Switch, Crossing, Connection}
use Rattle.railml_read.specs.Formed.{AreFormed}
use Rattle.railml_faults.specs.Rows.{track_rows, bears_id, bears_position, id_of, BearsId, IsConnectionNamed}
use Rattle.railml_faults.specs.Rows.{ReadsMetres, HasPosition}
use Rattle.railml_faults.specs.Faults.{RefersTo, HasItsParts, IsConnectionOf}
use Rattle.railml_topology.specs.Resolved.{way_word, hand_word, HasAbsPos, IsCourseOf}

-- a row's id is there, and is one
pub record HasGoodId (row : Elem) : Type 0 where
  pub id : List ℕ
  pub has : row.attrs.id ≡ Some id
  pub good : IsId id

-- a connection refers to another, which refers to it
pub record IsMutual (rows : List Elem) (row : Elem) : Type 0 where
  pub name : List ℕ
  pub refers : RefersTo row name
  pub number : ℕ
  pub other : Elem
  pub named : IsConnectionNamed rows number name other
  pub back : RefersTo other (id_of row)
  pub elsewhere : name ≢ id_of row

-- a connection of a switch or a crossing
abbrev pub IsConnectionOfInner : List Elem → Elem → Elem → Type 0
IsConnectionOfInner rows row parent = IsConnectionOf rows row Switch parent ⊎ IsConnectionOf rows row Crossing parent

pub record AreSoundRows (rows : List Elem) : Type 0 where
  pub formed : AreFormed rows
  pub few : length (track_rows rows) ≤ MAX_TRACKS
  pub ids : (i : ℕ) (row : Elem) → slice_get rows i ≡ Some row → bears_id row.kind ≡ true → HasGoodId row
  pub ids_differ : (i j : ℕ) (id : List ℕ) → BearsId rows i id → BearsId rows j id → i ≡ j
  pub positions : (i : ℕ) (row : Elem) → slice_get rows i ≡ Some row → bears_position row.kind ≡ true → (z : ℤ)
      × HasPosition row z
  pub mileages : (i : ℕ) (row : Elem) (text : List ℕ) → slice_get rows i ≡ Some row → bears_position row.kind ≡ true →
      row.attrs.abs_pos ≡ Some text → (z : ℤ) × ReadsMetres text z
  pub begins : (i : ℕ) (row : Elem) → slice_get rows i ≡ Some row → row.kind ≡ Begin → (z : ℤ) × HasAbsPos row z
  pub mutual_refs : (i : ℕ) (row : Elem) → slice_get rows i ≡ Some row → row.kind ≡ Connection → IsMutual rows row
  pub parts : (i : ℕ) (row : Elem) → slice_get rows i ≡ Some row → HasItsParts rows i row.kind
  pub ways : (i : ℕ) (row parent : Elem) → slice_get rows i ≡ Some row → IsConnectionOfInner rows row parent →
      (outgoing : Bool) × (row.attrs.orientation ≡ Some (way_word outgoing))
  pub courses : (i : ℕ) (row switch : Elem) → slice_get rows i ≡ Some row → IsConnectionOf rows row Switch switch →
      (hand : Hand) × (diverges : Bool) × IsCourseOf switch row hand diverges
  pub hands : (i : ℕ) (row crossing : Elem) → slice_get rows i ≡ Some row → IsConnectionOf rows row Crossing crossing →
      row.attrs.orientation ≡ Some (codes "outgoing") → (hand : Hand) × (row.attrs.course ≡ Some (hand_word hand))
