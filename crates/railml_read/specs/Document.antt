-- Which tree a document spells, and which fault its text has.
use Rattle.std.specs.Prelude.{◌≡◌, ◌≢◌, ◌⊎◌, ◌<◌, ℕ, false, codes, List, [], ◌∷◌, ◌++◌, length, Contains, IsUtf8, ⊤}
use Rattle.std.specs.Str.{IsValidUpTo}
use Rattle.railml_text.specs.declared.fault.TextWhat.{TextWhat}
use Rattle.railml_text.specs.declared.fault.TextWhat.TheVariants.{NotUtf8, Unfinished, NoInfrastructure}
use Rattle.railml_text.specs.Items.{Shape, HasItem}
use Rattle.railml_text.specs.Faults.{number_of, HasItemFault}
use Rattle.railml_text.specs.Cutting.{Placed, ComesTo, IsCutInto, is_first}
use Rattle.railml_read.specs.Tree.{XmlTree, root_of, tags_of, names_of}
use Rattle.railml_read.specs.Rows.{rows_of}
use Rattle.railml_read.specs.Places.{content, role_of, role_of_shape, tags_in, open_names, has_root, IsMisplaced}
use Rattle.railml_read.specs.Places.{AreInPlace}
use Rattle.railml_read.specs.declared.faults.ReadFault.{ReadFault}
use Rattle.railml_read.specs.declared.faults.ReadFault.TheVariants as answers
use Rattle.railml_read.specs.declared.rows.Elem.{Elem}

-- outside of the root stands no content: behind the first items, where none is open, no other has it
abbrev pub IsFreeOutside : List Placed → List Placed → Type 0
IsFreeOutside before [] = ⊤
IsFreeOutside before (item ∷ items) = (open_names before ≡ [] → role_of item.kind ≢ content)
    × IsFreeOutside (before ++ item ∷ []) items

-- the bytes are the items of the tree in the order of the document, with only items between them that are
-- passed over: their tags are those of the tree, and no content stands outside of the root. There is at
-- most one such tree, proved by `one_tree`
pub record SpellsTree (bytes : List ℕ) (tree : XmlTree) : Type 0 where
  pub items : List Placed
  pub cut : IsCutInto bytes items
  pub tags : tags_in items ≡ tags_of (root_of tree)
  pub outside : IsFreeOutside [] items

-- ---- faults

-- an item begins the rest, and may not stand behind the items before
pub record HasMisplaced (before : List Placed) (rest : List ℕ) (what : TextWhat) : Type 0 where
  pub shape : Shape
  pub after : List ℕ
  pub item : HasItem (is_first before) rest shape after
  pub misplaced : IsMisplaced (open_names before) (has_root before) (role_of_shape shape) what

-- what begins the rest has this fault behind the items before: by itself, or by its place
abbrev pub HasFaultBehind : List Placed → List ℕ → TextWhat → Type 0
HasFaultBehind before rest what = HasItemFault (is_first before) rest what ⊎ HasMisplaced before rest what

-- the first item that has a fault begins at this place, and this is its fault with the lowest number
pub record IsFirstTextFault (bytes : List ℕ) (what : TextWhat) (at : ℕ) : Type 0 where
  pub utf8 : IsUtf8 bytes
  pub before : List Placed
  pub rest : List ℕ
  pub comes_to : ComesTo bytes before at rest
  pub sound : AreInPlace [] before
  pub some : rest ≢ []
  pub fault : HasFaultBehind before rest what
  pub least : (other : TextWhat) → number_of other < number_of what → HasFaultBehind before rest other → ⊥

-- no item has a fault, and the input ends with no root or with an element open
pub record EndsOpen (bytes : List ℕ) (at : ℕ) : Type 0 where
  pub utf8 : IsUtf8 bytes
  pub items : List Placed
  pub cut : IsCutInto bytes items
  pub sound : AreInPlace [] items
  pub is_open : (has_root items ≡ false) ⊎ (open_names items ≢ [])
  pub end : at ≡ length bytes

-- no item has a fault, and the root is `railml` and has no child `infrastructure`
pub record LacksInfrastructure (bytes : List ℕ) (at : ℕ) : Type 0 where
  pub utf8 : IsUtf8 bytes
  pub tree : XmlTree
  pub spells : SpellsTree bytes tree
  pub sound : AreInPlace [] spells.items
  pub named : tree.name ≡ codes "railml"
  pub lacks : Contains (names_of tree.children) (codes "infrastructure") → ⊥
  pub end : at ≡ length bytes

-- the table of faults of a whole text: this is its fault, at this place. That it isn't UTF-8 comes before
-- all others, at the length of its longest front that is. A text has at most one fault, proved by
-- `one_fault`
abbrev pub IsTextFault : List ℕ → TextWhat → ℕ → Type 0
IsTextFault bytes NotUtf8 at = IsValidUpTo bytes at
IsTextFault bytes Unfinished at = IsFirstTextFault bytes Unfinished at ⊎ EndsOpen bytes at
IsTextFault bytes NoInfrastructure at = LacksInfrastructure bytes at
IsTextFault bytes what at = IsFirstTextFault bytes what at

-- ---- answers

-- the rows of a tree that the bytes spell
pub record AreRows (bytes : List ℕ) (rows : List Elem) : Type 0 where
  pub tree : XmlTree
  pub spells : SpellsTree bytes tree
  pub found : rows ≡ rows_of tree

-- the text has no fault, and these are the rows of its tree
pub record GivesRows (bytes : List ℕ) (rows : List Elem) : Type 0 where
  pub are_rows : AreRows bytes rows
  pub sound : (what : TextWhat) (at : ℕ) → IsTextFault bytes what at → ⊥

-- the fault that is told of the bytes; want of memory is none
abbrev pub IsReadFault : List ℕ → ReadFault → Type 0
IsReadFault bytes (answers.Text what at) = IsTextFault bytes what at
IsReadFault bytes answers.Memory = ⊥
