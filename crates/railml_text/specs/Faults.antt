-- The faults of one item, and the item that has none.
use Rattle.std.specs.Prelude.{◌≡◌, ◌≢◌, ◌⊎◌, ◌<◌, ◌≤◌, ℕ, Bool, codes, Some, List, [], length, drop, slice_get, map}
use Rattle.std.specs.Prelude.{Any}
use Rattle.std.specs.Str.{str_to_ascii_lowercase}
use Rattle.railml_text.specs.declared.item.Item.{Item}
use Rattle.railml_text.specs.declared.item.ItemKind.{ItemKind}
use Rattle.railml_text.specs.declared.fault.TextWhat.{TextWhat}
use Rattle.railml_text.specs.declared.fault.TextWhat.TheVariants.{NotUtf8, Encoding, Doctype, Markup, Entity, EndTag}
use Rattle.railml_text.specs.declared.fault.TextWhat.TheVariants.{RepeatedAttribute, Root, Unfinished, AfterRoot}
use Rattle.railml_text.specs.declared.fault.TextWhat.TheVariants.{Depth, NoInfrastructure}
use Rattle.railml_text.specs.declared.fault.ItemFault.{ItemFault}
use Rattle.railml_text.specs.declared.fault.ItemFault.TheVariants as answers
use Rattle.railml_text.specs.Bytes.{BeginsWith}
use Rattle.railml_text.specs.References.{BeginsLoose}
use Rattle.railml_text.specs.Values.{HasLoose}
use Rattle.railml_text.specs.Grammar.{Written}
use Rattle.railml_text.specs.Items.{Shape, declaration, start_tag, HasItem, HasNoItem, IsFront, IsKindOf}

-- the numbers of the table of faults
abbrev pub number_of : TextWhat → ℕ
number_of NotUtf8 = 1
number_of Encoding = 2
number_of Doctype = 3
number_of Markup = 4
number_of Entity = 5
number_of EndTag = 6
number_of RepeatedAttribute = 7
number_of Root = 8
number_of Unfinished = 9
number_of AfterRoot = 10
number_of Depth = 11
number_of NoInfrastructure = 12

-- the words of the table
abbrev pub word_of : TextWhat → List ℕ
word_of NotUtf8 = codes "NotUtf8"
word_of Encoding = codes "Encoding"
word_of Doctype = codes "Doctype"
word_of Markup = codes "Markup"
word_of Entity = codes "Entity"
word_of EndTag = codes "EndTag"
word_of RepeatedAttribute = codes "RepeatedAttribute"
word_of Root = codes "Root"
word_of Unfinished = codes "Unfinished"
word_of AfterRoot = codes "AfterRoot"
word_of Depth = codes "Depth"
word_of NoInfrastructure = codes "NoInfrastructure"

-- an attribute `encoding` whose value isn't `UTF-8`, without regard to ASCII case; the value as it
-- is written counts
abbrev pub NamesOtherEncoding : List Written → Type 0
NamesOtherEncoding attrs = Any (λ attr. (attr.name ≡ codes "encoding")
    × (str_to_ascii_lowercase attr.value ≢ codes "utf-8")) attrs

-- two attributes of one name
pub record HasRepeat (attrs : List Written) : Type 0 where
  pub name : List ℕ
  pub i : ℕ
  pub j : ℕ
  pub earlier : i < j
  pub at_i : slice_get (map (λ attr. attr.name) attrs) i ≡ Some name
  pub at_j : slice_get (map (λ attr. attr.name) attrs) j ≡ Some name

-- the attributes of a start tag or the declaration; no other item has one
abbrev pub attrs_of : Shape → List Written
attrs_of (declaration attrs) = attrs
attrs_of (start_tag name attrs empty) = attrs
attrs_of shape = []

-- `<` begins no item and never will, whatever is written after the rest
pub record IsNoMarkup (first : Bool) (rest : List ℕ) : Type 0 where
  pub begins : BeginsWith rest (codes "<")
  pub no_doctype : BeginsWith rest (codes "<!DOCTYPE") → ⊥
  pub no_item : HasNoItem first rest
  pub no_front : IsFront first rest → ⊥

-- `<` begins no item, and the rest is a proper front of one or of `<!DOCTYPE`
pub record IsUnfinished (first : Bool) (rest : List ℕ) : Type 0 where
  pub begins : BeginsWith rest (codes "<")
  pub no_item : HasNoItem first rest
  pub front : IsFront first rest

-- the rest begins with a declaration that names another encoding than UTF-8
pub record HasOtherEncoding (first : Bool) (rest : List ℕ) : Type 0 where
  pub attrs : List Written
  pub after : List ℕ
  pub item : HasItem first rest (declaration attrs) after
  pub names : NamesOtherEncoding attrs

-- the rest begins with a start tag, in a value of which an `&` begins no reference
pub record HasLooseInTag (first : Bool) (rest : List ℕ) : Type 0 where
  pub name : List ℕ
  pub attrs : List Written
  pub empty : Bool
  pub after : List ℕ
  pub item : HasItem first rest (start_tag name attrs empty) after
  pub loose : Any (λ attr. HasLoose attr.value) attrs

-- the rest begins with an item that has two attributes of one name
pub record HasRepeatedAttr (first : Bool) (rest : List ℕ) : Type 0 where
  pub shape : Shape
  pub after : List ℕ
  pub item : HasItem first rest shape after
  pub repeat : HasRepeat (attrs_of shape)

-- The table of faults, as far as it speaks of one item alone: the item that begins at the rest has
-- this fault. The other kinds speak of the item's place in the document.
abbrev pub HasItemFault : Bool → List ℕ → TextWhat → Type 0
HasItemFault first rest Encoding = HasOtherEncoding first rest
HasItemFault first rest Doctype = BeginsWith rest (codes "<!DOCTYPE")
HasItemFault first rest Markup = IsNoMarkup first rest
HasItemFault first rest Entity = BeginsLoose rest ⊎ HasLooseInTag first rest
HasItemFault first rest RepeatedAttribute = HasRepeatedAttr first rest
HasItemFault first rest Unfinished = IsUnfinished first rest
HasItemFault first rest what = ⊥

-- the fault, and none with a lower number
pub record IsLeastFault (first : Bool) (rest : List ℕ) (what : TextWhat) : Type 0 where
  pub holds : HasItemFault first rest what
  pub least : (other : TextWhat) → number_of other < number_of what → HasItemFault first rest other → ⊥

-- the rest begins with an item of this kind that has no fault of its own, and these bytes follow it
pub record HasSoundItem (first : Bool) (rest : List ℕ) (kind : ItemKind) (after : List ℕ) : Type 0 where
  pub shape : Shape
  pub item : HasItem first rest shape after
  pub kind_is : IsKindOf shape kind
  pub sound : (what : TextWhat) → HasItemFault first rest what → ⊥

-- the item that begins at a place of the bytes, without a fault of its own; the next begins at its end
pub record IsItemAt (first : Bool) (bytes : List ℕ) (at : ℕ) (item : Item) : Type 0 where
  pub sound : HasSoundItem first (drop at bytes) item.kind (drop item.end bytes)
  pub within : item.end ≤ length bytes

-- the fault that is told of the rest; want of memory is none
abbrev pub IsItemFault : Bool → List ℕ → ItemFault → Type 0
IsItemFault first rest (answers.Item what) = IsLeastFault first rest what
IsItemFault first rest answers.Memory = ⊥
