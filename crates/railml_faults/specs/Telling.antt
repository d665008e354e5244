-- Which fault is found first, and what is told with it.
-- But for `IsFirstTold`, private contracts alone cite this module.
use Rattle.std.specs.Prelude.{◌≡◌, ◌<◌, ℕ, List, [], length, Option, Some, None, slice_get}
use Rattle.std.specs.Option.{option_map_or}
use Rattle.railml_read.specs.declared.rows.Elem.{Elem}
use Rattle.railml_faults.specs.declared.attributes.Attribute.{Attribute}
use Rattle.railml_faults.specs.declared.fault.TopologyWhat.{TopologyWhat}
use Rattle.railml_faults.specs.declared.fault.TopologyWhat.TheVariants.{NoTracks, TooMany, Missing, Id, Number}
use Rattle.railml_faults.specs.declared.fault.TopologyWhat.TheVariants.{NotMutual}
use Rattle.railml_faults.specs.declared.finding.Finding.{Finding}
use Rattle.railml_faults.specs.declared.telling.Told.{Told}
use Rattle.railml_faults.specs.Rows.{lacking, attribute_name, id_of}
use Rattle.railml_faults.specs.Faults.{HasTopologyFault, HasNoNumber, IsFirstTopologyFault, number_of}
use Rattle.plan_core.specs.Searching.{NoneBefore, IsFirst}

-- row i has this fault, whatever is told with it
abbrev pub HasKind : List Elem → TopologyWhat → ℕ → Elem → Type 0
HasKind rows what i row = (first : List ℕ) × (second : List ℕ) × HasTopologyFault rows what i row first second

-- no row has a fault with a number below this one
pub record HasNoneBelow (rows : List Elem) (number : ℕ) : Type 0 where
  pub none : (what : TopologyWhat) → number_of what < number → NoneBefore (HasKind rows what) rows (length rows)

-- of all kinds this is the lowest that a row has, and this is the first row that has it
pub record IsLowest (rows : List Elem) (what : TopologyWhat) (i : ℕ) : Type 0 where
  pub first : IsFirst (HasKind rows what) rows i
  pub lower : HasNoneBelow rows (number_of what)

-- no row has a fault
abbrev pub HasNone : List Elem → Type 0
HasNone rows = (what : TopologyWhat) → NoneBefore (HasKind rows what) rows (length rows)

abbrev pub FindsLowest : List Elem → Option Finding → Type 0
FindsLowest rows None = HasNone rows
FindsLowest rows (Some found) = IsLowest rows found.what found.row

-- the text that is told first of a row with this fault
abbrev pub first_told : List Elem → Elem → TopologyWhat → List ℕ
first_told rows row NoTracks = []
first_told rows row TooMany = []
first_told rows row Missing = option_map_or attribute_name (slice_get (lacking rows row) 0) []
first_told rows row Id = []
first_told rows row what = id_of row

-- the text that is told second
abbrev pub IsSecond : Elem → TopologyWhat → List ℕ → Type 0
IsSecond row Number second = (attribute : Attribute) → HasNoNumber row attribute → second ≡ attribute_name attribute
IsSecond row NotMutual second = (name : List ℕ) → row.attrs.reference ≡ Some name → second ≡ name
IsSecond row what second = second ≡ []

-- what is told of the row that has the fault
pub record IsToldOf (rows : List Elem) (found : Finding) (told : Told) : Type 0 where
  pub row : Elem
  pub is : slice_get rows found.row ≡ Some row
  pub same : told.what ≡ found.what
  pub place : told.at ≡ row.at
  pub fault : HasTopologyFault rows found.what found.row row told.first told.second

-- the row that a fault is told of has it
abbrev pub IsFindingOf : List Elem → Finding → Type 0
IsFindingOf rows found = (row : Elem) × (slice_get rows found.row ≡ Some row) × HasKind rows found.what found.row row

-- the first fault of rows
abbrev pub IsFirstTold : List Elem → Told → Type 0
IsFirstTold rows told = IsFirstTopologyFault rows told.what told.at told.first told.second

-- what is told where there is no track
pub record TellsNoTracks (told : Told) : Type 0 where
  pub what : told.what ≡ NoTracks
  pub start : told.at ≡ 0
  pub no_first : told.first ≡ []
  pub no_second : told.second ≡ []
