-- What is kept of rows while they are judged and built from: tables with an entry for each row.
-- But for `AreTablesOf` and `entry_in`, private contracts alone cite this module.
use Rattle.std.specs.Prelude.{◌≡◌, ◌≢◌, ◌⊎◌, ℕ, filter, List, [], ◌∷◌, ◌++◌, length, Option, Some, None, slice_get, ℤ}
use Rattle.std.specs.Prelude.{◌<ℤ◌}
use Rattle.std.specs.Option.{option_map, option_and_then}
use Rattle.std.specs.declared.vec.Vec.{Vec}
use Rattle.std.specs.declared.alloc.Global.{Global}
use Rattle.plan_core.specs.declared.numbers.Micro.{Micro}
use Rattle.railml_read.specs.declared.rows.Elem.{Elem}
use Rattle.railml_read.specs.declared.rows.ElemKind.{ElemKind}
use Rattle.railml_read.specs.declared.rows.ElemKind.TheVariants.{Topology, Begin, End, Switch, Crossing, Connection}
use Rattle.railml_faults.specs.declared.tables.Tables.{Tables}
use Rattle.railml_faults.specs.Rows.{all_children, children, is_of_kind, id_of, HasPosition, IsConnectionNamed}
use Rattle.railml_faults.specs.Faults.{RefersTo, Repeats, AreOrientedAlike}
use Rattle.plan_core.specs.Searching.{FindsFirst}

-- the one entry of a list that has just one
abbrev pub only_of : List ℕ → Option ℕ
only_of [] = None
only_of (c ∷ []) = Some c
only_of (c ∷ d ∷ list) = None

-- there is an entry for each row, and of the entry of row i this holds
pub record HasEntries {X : Type 0} (Q : ℕ → X → Type 0) (rows : List Elem) (table : List X) : Type 0 where
  pub whole : length table ≡ length rows
  pub entry : (i : ℕ) (x : X) → slice_get table i ≡ Some x → Q i x

-- the children of each row
abbrev pub ListsChildren : List Elem → List (Vec ℕ Global) → Type 0
ListsChildren rows table = HasEntries (λ i (list : Vec ℕ Global). list.items ≡ all_children rows i) rows table

-- the only child of a kind of each row that has just one
abbrev pub HasOnlyChildren : List Elem → ElemKind → List (Option ℕ) → Type 0
HasOnlyChildren rows kind table = HasEntries (λ i (only : Option ℕ). only ≡ only_of (children rows i kind)) rows table

-- the two entries of a list that has just two
abbrev pub only_pair_of : List ℕ → Option (ℕ × ℕ)
only_pair_of [] = None
only_pair_of (c ∷ list) = option_map (λ d. (c, d)) (only_of list)

-- an entry of a table, if it is there and isn't empty
abbrev pub entry_in : {X : Type 0} → List (Option X) → ℕ → Option X
entry_in table i = option_and_then (λ x. x) (slice_get table i)

-- the parent's list has one more child, and no other list has changed
pub record AddsChild (old new : List (Vec ℕ Global)) (parent child : ℕ) : Type 0 where
  pub added : (list : Vec ℕ Global) → slice_get new parent ≡ Some list → (before : Vec ℕ Global)
      × (slice_get old parent ≡ Some before) × (list.items ≡ before.items ++ child ∷ [])
  pub others : (i : ℕ) → i ≢ parent → slice_get new i ≡ slice_get old i

-- a row's position, if its `pos` is a number
abbrev pub IsPositionOf : Elem → Option Micro → Type 0
IsPositionOf row None = (z : ℤ) → HasPosition row z → ⊥
IsPositionOf row (Some m) = HasPosition row m.0

-- the position of each row whose `pos` is a number
abbrev pub HasPositions : List Elem → List (Option Micro) → Type 0
HasPositions rows table = HasEntries (λ i (position : Option Micro). (row : Elem) → slice_get rows i ≡ Some row →
    IsPositionOf row position) rows table

-- the position of the only begin or end beside a row, by such a table and the positions
abbrev pub beside_in : List (Option ℕ) → List (Option Micro) → Elem → Option Micro
beside_in only positions row = option_and_then (entry_in positions) (option_and_then (entry_in only) row.parent)

-- both positions are there, and the first is less
abbrev pub IsLess : Option Micro → Option Micro → Type 0
IsLess (Some a) (Some b) = a.0 <ℤ b.0
IsLess a b = ⊥

-- row j is a connection that a connection refers to
pub record IsReferredTo (rows : List Elem) (row : Elem) (j : ℕ) : Type 0 where
  pub name : List ℕ
  pub other : Elem
  pub refers : RefersTo row name
  pub named : IsConnectionNamed rows j name other

-- the number of a connection that a row refers to, if it refers to one
abbrev pub IsTargetOf : List Elem → Elem → Option ℕ → Type 0
IsTargetOf rows row None = (j : ℕ) → IsReferredTo rows row j → ⊥
IsTargetOf rows row (Some j) = IsReferredTo rows row j

-- the number of a connection that each row refers to, if it refers to one
abbrev pub HasTargets : List Elem → List (Option ℕ) → Type 0
HasTargets rows table = HasEntries (λ i (target : Option ℕ). (row : Elem) → slice_get rows i ≡ Some row →
    IsTargetOf rows row target) rows table

-- the row that is referred to doesn't refer back to the one that refers to it
abbrev pub IsNotAnswered : List Elem → Elem → Option ℕ → Type 0
IsNotAnswered rows row None = ⊥
IsNotAnswered rows row (Some j) = (other : Elem) × (slice_get rows j ≡ Some other)
    × (other.attrs.reference ≡ Some (id_of row) → ⊥)

-- what is kept of rows
pub record AreTablesOf (rows : List Elem) (t : Tables) : Type 0 where
  pub children : ListsChildren rows t.children.items
  pub topologies : HasOnlyChildren rows Topology t.topologies.items
  pub begins : HasOnlyChildren rows Begin t.begins.items
  pub ends : HasOnlyChildren rows End t.ends.items
  pub connections : HasOnlyChildren rows Connection t.connections.items
  pub repeated : FindsFirst (λ i _. Repeats rows i) rows t.repeated
  pub targets : HasTargets rows t.targets.items
  pub positions : HasPositions rows t.positions.items

-- ---- faults by the tables

-- a row lies before the begin beside it
abbrev pub IsBeforeBeginBy : Tables → ℕ → Elem → Type 0
IsBeforeBeginBy t i row = IsLess (entry_in t.positions.items i) (beside_in t.begins.items t.positions.items row)

-- a row lies behind the end beside it
abbrev pub IsBehindEndBy : Tables → ℕ → Elem → Type 0
IsBehindEndBy t i row = IsLess (beside_in t.ends.items t.positions.items row) (entry_in t.positions.items i)

abbrev pub LiesOutsideBy : Tables → ℕ → Elem → ElemKind → Type 0
LiesOutsideBy t i row End = IsBeforeBeginBy t i row
LiesOutsideBy t i row Switch = IsBeforeBeginBy t i row ⊎ IsBehindEndBy t i row
LiesOutsideBy t i row Crossing = IsBeforeBeginBy t i row ⊎ IsBehindEndBy t i row
LiesOutsideBy t i row kind = ⊥

-- a track has one topology, with one begin and one end
pub record IsWholeBy (t : Tables) (i : ℕ) : Type 0 where
  pub topology : ℕ
  pub begin : ℕ
  pub end : ℕ
  pub one_topology : entry_in t.topologies.items i ≡ Some topology
  pub one_begin : entry_in t.begins.items topology ≡ Some begin
  pub one_end : entry_in t.ends.items topology ≡ Some end

-- row i's list in a table of lists
abbrev pub IsListAt : List (Vec ℕ Global) → ℕ → List ℕ → Type 0
IsListAt table i list = (v : Vec ℕ Global) × (slice_get table i ≡ Some v) × (list ≡ v.items)

-- two texts are there, and are one
abbrev pub AreSameWords : Option (List ℕ) → Option (List ℕ) → Type 0
AreSameWords a b = (word : List ℕ) × (a ≡ Some word) × (b ≡ Some word)

-- there are just two connections among these, and their orientations aren't one word
pub record HasTwoWaysAmong (rows : List Elem) (list : List ℕ) : Type 0 where
  pub one : ℕ
  pub other : ℕ
  pub two : only_pair_of (filter (is_of_kind rows Connection) list) ≡ Some (one, other)
  pub differ : AreOrientedAlike rows one other → ⊥
