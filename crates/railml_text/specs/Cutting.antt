-- A document's bytes, cut into items from left to right.
use Rattle.std.specs.Prelude.{◌≡◌, ◌+◌, ℕ, nat_eq, Bool, true, false, if◌then◌else◌, List, [], ◌∷◌, length, drop}
use Rattle.std.specs.List.{starts_with}
use Rattle.railml_text.specs.declared.item.ItemKind.{ItemKind}
use Rattle.railml_text.specs.declared.fault.TextWhat.{TextWhat}
use Rattle.railml_text.specs.Faults.{IsLeastFault, HasSoundItem}

-- an item and the place of its first byte
pub record Placed : Type 0 where
  pub at : ℕ
  pub kind : ItemKind

-- The bytes, from this place on, are these items without a fault of their own, and then the rest.
-- A declaration is looked for at the first of them alone, and only where first is true.
abbrev pub Cuts : Bool → ℕ → List ℕ → List Placed → List ℕ → Type 0
Cuts first at bytes [] rest = bytes ≡ rest
Cuts first at bytes (item ∷ items) rest =
    (next : ℕ) × (after : List ℕ) × (item.at ≡ at) × HasSoundItem first bytes item.kind after
    × (next + length after ≡ at + length bytes) × Cuts false next after items rest

-- a byte order mark at the start of a file is passed over; places count its bytes
abbrev pub byte_order_mark : List ℕ
byte_order_mark = 239 ∷ 187 ∷ 191 ∷ []

-- the place where a file's first item begins
abbrev pub start_of : List ℕ → ℕ
start_of bytes = if starts_with nat_eq bytes byte_order_mark then 3 else 0

-- a file's bytes are cut into these items up to this place, and then the rest
pub record ComesTo (bytes : List ℕ) (items : List Placed) (at : ℕ) (rest : List ℕ) : Type 0 where
  pub cut : Cuts true (start_of bytes) (drop (start_of bytes) bytes) items rest
  pub place : at + length rest ≡ length bytes

-- a file's bytes are these items, to the last byte
abbrev pub IsCutInto : List ℕ → List Placed → Type 0
IsCutInto bytes items = ComesTo bytes items (length bytes) []

-- no item came before
abbrev pub is_first : List Placed → Bool
is_first [] = true
is_first (item ∷ items) = false

-- the first item of a file that has a fault of its own begins at this place, and this is the one
-- with the lowest number
pub record FirstFault (bytes : List ℕ) (what : TextWhat) (at : ℕ) : Type 0 where
  pub items : List Placed
  pub rest : List ℕ
  pub before : ComesTo bytes items at rest
  pub fault : IsLeastFault (is_first items) rest what
