-- The words in which a document's rows are spoken of: which rows there are of a kind, a row's children,
-- ids, attributes, positions, and the begin and the end of the track that a row stands on. Rows are
-- numbered from 0 in file order, and named by their numbers.
use Rattle.std.specs.Prelude.{◌≡◌, ℕ, suc, ◌==◌, Bool, true, false, if◌then◌else◌, codes, List, [], ◌∷◌, filter}
use Rattle.std.specs.Prelude.{Option, Some, slice_get, bytes_eq, ℤ, ◌<ℤ◌}
use Rattle.std.specs.Option.{option_map, option_map_or, option_and_then, unwrap_or, is_none}
use Rattle.railml_read.specs.declared.rows.Attrs.{Attrs}
use Rattle.railml_read.specs.declared.rows.Elem.{Elem}
use Rattle.railml_read.specs.declared.rows.ElemKind.{ElemKind}
use Rattle.railml_read.specs.declared.rows.ElemKind.TheVariants.{Track, Topology, Begin, End, Switch, Crossing}
use Rattle.railml_read.specs.declared.rows.ElemKind.TheVariants.{Connection, OpenEnd, BufferStop, MacroNode}
use Rattle.rail_mileage.specs.Metres.{MetresParts, IsMetres, mileage_told}
use Rattle.railml_faults.specs.declared.attributes.Attribute.{Attribute}
use Rattle.railml_faults.specs.declared.attributes.Attribute.TheVariants.{Id, Pos, AbsPos, Ref, Orientation, Course}

-- ---- kinds and children

-- the two kinds are one
abbrev pub same_kind : ElemKind → ElemKind → Bool
same_kind Track Track = true
same_kind Topology Topology = true
same_kind Begin Begin = true
same_kind End End = true
same_kind Switch Switch = true
same_kind Crossing Crossing = true
same_kind Connection Connection = true
same_kind OpenEnd OpenEnd = true
same_kind BufferStop BufferStop = true
same_kind MacroNode MacroNode = true
same_kind a b = false

-- the numbers of the rows that pass, in file order, where the first of them has the number n
abbrev pub numbers_from : (Elem → Bool) → ℕ → List Elem → List ℕ
numbers_from p n [] = []
numbers_from p n (row ∷ rows) = if p row then n ∷ numbers_from p (suc n) rows else numbers_from p (suc n) rows

-- the tracks
abbrev pub track_rows : List Elem → List ℕ
track_rows rows = numbers_from (λ row. same_kind row.kind Track) 0 rows

abbrev pub is_child_of : ℕ → Elem → Bool
is_child_of i row = option_map_or (λ parent. parent == i) row.parent false

-- the children of row i
abbrev pub all_children : List Elem → ℕ → List ℕ
all_children rows i = numbers_from (is_child_of i) 0 rows

-- row i is there, and of this kind
abbrev pub is_of_kind : List Elem → ElemKind → ℕ → Bool
is_of_kind rows kind i = option_map_or (λ row. same_kind row.kind kind) (slice_get rows i) false

-- the children of row i that are of this kind
abbrev pub children : List Elem → ℕ → ElemKind → List ℕ
children rows i kind = filter (is_of_kind rows kind) (all_children rows i)

-- the row that holds this one, if one does
abbrev pub parent_of : List Elem → Elem → Option Elem
parent_of rows row = option_and_then (slice_get rows) row.parent

-- ---- ids and attributes

-- which elements have an id that counts: each can be told or referred to by it
abbrev pub bears_id : ElemKind → Bool
bears_id Track = true
bears_id Begin = true
bears_id End = true
bears_id Switch = true
bears_id Crossing = true
bears_id Connection = true
bears_id kind = false

-- a row's id, empty where it has none
abbrev pub id_of : Elem → List ℕ
id_of row = unwrap_or row.attrs.id []

-- row i bears this id
pub record BearsId (rows : List Elem) (i : ℕ) (id : List ℕ) : Type 0 where
  pub row : Elem
  pub is : slice_get rows i ≡ Some row
  pub bears : bears_id row.kind ≡ true
  pub has : row.attrs.id ≡ Some id

-- row j is a connection, and this is its id
pub record IsConnectionNamed (rows : List Elem) (j : ℕ) (id : List ℕ) (row : Elem) : Type 0 where
  pub is : slice_get rows j ≡ Some row
  pub connection : row.kind ≡ Connection
  pub has : row.attrs.id ≡ Some id

abbrev pub attribute_text : Attribute → Attrs → Option (List ℕ)
attribute_text Id attrs = attrs.id
attribute_text Pos attrs = attrs.pos
attribute_text AbsPos attrs = attrs.abs_pos
attribute_text Ref attrs = attrs.reference
attribute_text Orientation attrs = attrs.orientation
attribute_text Course attrs = attrs.course

abbrev pub attribute_name : Attribute → List ℕ
attribute_name Id = codes "id"
attribute_name Pos = codes "pos"
attribute_name AbsPos = codes "absPos"
attribute_name Ref = codes "ref"
attribute_name Orientation = codes "orientation"
attribute_name Course = codes "course"

-- the text is there, and is this word
abbrev pub is_word : List ℕ → Option (List ℕ) → Bool
is_word word text = option_map_or (λ other. bytes_eq other word) text false

-- what an element of this kind must have, in this order, given its parent's kind and its orientation;
-- the course of a crossing's incoming connection isn't read
abbrev pub required_of : ElemKind → Option ElemKind → Option (List ℕ) → List Attribute
required_of Track parent orientation = Id ∷ []
required_of Begin parent orientation = Id ∷ Pos ∷ AbsPos ∷ []
required_of End parent orientation = Id ∷ Pos ∷ []
required_of Switch parent orientation = Id ∷ Pos ∷ []
required_of Crossing parent orientation = Id ∷ Pos ∷ []
required_of Connection (Some Switch) orientation = Id ∷ Ref ∷ Orientation ∷ Course ∷ []
required_of Connection (Some Crossing) orientation =
    if is_word (codes "outgoing") orientation then Id ∷ Ref ∷ Orientation ∷ Course ∷ [] else Id ∷ Ref ∷ Orientation ∷ []
required_of Connection parent orientation = Id ∷ Ref ∷ []
required_of kind parent orientation = []

-- the attributes that the row must have, in their order
abbrev pub required : List Elem → Elem → List Attribute
required rows row = required_of row.kind (option_map (λ parent. parent.kind) (parent_of rows row)) row.attrs.orientation

-- the required attributes that a row lacks, in their order
abbrev pub lacking : List Elem → Elem → List Attribute
lacking rows row = filter (λ attribute. is_none (attribute_text attribute row.attrs)) (required rows row)

-- ---- positions, in micrometres

-- which elements have a position
abbrev pub bears_position : ElemKind → Bool
bears_position Begin = true
bears_position End = true
bears_position Switch = true
bears_position Crossing = true
bears_position kind = false

-- a text is a number of metres, and this is it
pub record ReadsMetres (text : List ℕ) (z : ℤ) : Type 0 where
  pub parts : MetresParts
  pub metres : IsMetres text parts
  pub is : (mileage_told parts).0 ≡ z

-- a row's `pos` is this number
pub record HasPosition (row : Elem) (z : ℤ) : Type 0 where
  pub text : List ℕ
  pub has : row.attrs.pos ≡ Some text
  pub reads : ReadsMetres text z

-- by their positions the first comes before the second
pub record ComesBefore (a b : Elem) : Type 0 where
  pub from : ℤ
  pub to : ℤ
  pub a_at : HasPosition a from
  pub b_at : HasPosition b to
  pub less : from <ℤ to

-- the topology that holds a row has just one child of this kind, which is the other row
pub record HasOnBeside (rows : List Elem) (row : Elem) (kind : ElemKind) (other : Elem) : Type 0 where
  pub topology : ℕ
  pub number : ℕ
  pub inside : row.parent ≡ Some topology
  pub only : children rows topology kind ≡ number ∷ []
  pub is : slice_get rows number ≡ Some other

-- the other row is the only begin of the topology that holds this row
abbrev pub IsBeginBeside : List Elem → Elem → Elem → Type 0
IsBeginBeside rows row begin = HasOnBeside rows row Begin begin

-- the other row is the only end of the topology that holds this row
abbrev pub IsEndBeside : List Elem → Elem → Elem → Type 0
IsEndBeside rows row end = HasOnBeside rows row End end
