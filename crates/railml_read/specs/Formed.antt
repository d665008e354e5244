-- How rows are formed that were read from a document.
use Rattle.std.specs.Prelude.{◌≡◌, ◌<◌, ◌^◌, ℕ, Bool, true, false, List, length, Some, None, slice_get}
use Rattle.railml_read.specs.declared.rows.Elem.{Elem}
use Rattle.railml_read.specs.declared.rows.ElemKind.{ElemKind}
use Rattle.railml_read.specs.declared.rows.ElemKind.TheVariants.{Track, Topology, Begin, End, Switch, Crossing}
use Rattle.railml_read.specs.declared.rows.ElemKind.TheVariants.{Connection, OpenEnd, BufferStop, MacroNode}

-- whether an element of the first kind may hold one of the second
abbrev pub may_hold : ElemKind → ElemKind → Bool
may_hold Track Topology = true
may_hold Topology Begin = true
may_hold Topology End = true
may_hold Topology Switch = true
may_hold Topology Crossing = true
may_hold Begin Connection = true
may_hold Begin OpenEnd = true
may_hold Begin BufferStop = true
may_hold Begin MacroNode = true
may_hold End Connection = true
may_hold End OpenEnd = true
may_hold End BufferStop = true
may_hold End MacroNode = true
may_hold Switch Connection = true
may_hold Crossing Connection = true
may_hold parent child = false

-- the row's parent is an earlier row of a kind that may hold it
pub record HasParent (rows : List Elem) (i : ℕ) (row : Elem) : Type 0 where
  pub number : ℕ
  pub parent : Elem
  pub is : row.parent ≡ Some number
  pub earlier : number < i
  pub at : slice_get rows number ≡ Some parent
  pub holds : may_hold parent.kind row.kind ≡ true

-- a track has no parent; every other row's parent is an earlier row that may hold it
abbrev pub IsRowPlaced : List Elem → ℕ → Elem → ElemKind → Type 0
IsRowPlaced rows i row Track = row.parent ≡ None
IsRowPlaced rows i row kind = HasParent rows i row

-- rows as they are read: their places rise, each has the parent that its kind asks for, and there
-- are fewer than 2 ^ 32
pub record AreFormed (rows : List Elem) : Type 0 where
  pub rising : (i j : ℕ) (a b : Elem) → i < j → slice_get rows i ≡ Some a → slice_get rows j ≡ Some b → a.at < b.at
  pub parents : (i : ℕ) (row : Elem) → slice_get rows i ≡ Some row → IsRowPlaced rows i row row.kind
  pub few : length rows < 2 ^ 32
