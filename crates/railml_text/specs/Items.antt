-- The items of a document.
use Rattle.std.specs.Prelude.{◌≡◌, ◌≢◌, ℕ, Bool, true, false, codes, List, [], ◌∷◌, ◌++◌, ⊤, ◌⊎◌}
use Rattle.std.specs.List.{list_all}
use Rattle.railml_text.specs.declared.item.ItemKind.{ItemKind}
use Rattle.railml_text.specs.declared.item.ItemKind.TheVariants as kinds
use Rattle.railml_text.specs.declared.item.Attr.{Attr}
use Rattle.railml_text.specs.Bytes.{is_blank, is_in_text}
use Rattle.railml_text.specs.References.{IsReference}
use Rattle.railml_text.specs.Values.{IsValueText}
use Rattle.railml_text.specs.Grammar.{Written, IsDeclaration, IsBracketed, IsStartTag, IsEndTag, IsChars}

-- what an item is, with its attributes as they are written
pub data Shape : Type 0 where
  declaration : (attrs : List Written) → Shape
  instruction : Shape
  comment : Shape
  cdata : Shape
  start_tag : (name : List ℕ) (attrs : List Written) (empty : Bool) → Shape
  end_tag : (name : List ℕ) → Shape
  reference : Shape
  chars : (blank : Bool) → Shape

-- `<?xml` and white space
pub record BeginsDeclaration (text : List ℕ) : Type 0 where
  pub blank : ℕ
  pub after : List ℕ
  pub is : is_blank blank ≡ true
  pub begins : text ≡ codes "<?xml" ++ blank ∷ after

-- The table of items: the text is an item of this shape, as the first item or as a later one. What
-- begins as a declaration does is taken for one where it is the first item, and is nothing else.
abbrev pub IsItem : Bool → List ℕ → Shape → Type 0
IsItem first text (declaration attrs) = (first ≡ true) × IsDeclaration text attrs
IsItem first text instruction = IsBracketed (codes "<?") (codes "?>") text × (first ≡ true → BeginsDeclaration text → ⊥)
IsItem first text comment = IsBracketed (codes "<!--") (codes "-->") text
IsItem first text cdata = IsBracketed (codes "<![CDATA[") (codes "]]>") text
IsItem first text (start_tag name attrs empty) = IsStartTag text name attrs empty
IsItem first text (end_tag name) = IsEndTag text name
IsItem first text reference = (character : ℕ) × IsReference text character
IsItem first text (chars blank) = IsChars text × (blank ≡ list_all is_blank text)

-- an item of characters has as many as there are: what follows is nothing, `<` or `&`
abbrev pub IsLongest : Shape → List ℕ → Type 0
IsLongest (chars blank) (b ∷ after) = is_in_text b ≡ false
IsLongest shape after = ⊤

-- a front of the rest is an item, and these bytes follow it
pub record HasItem (first : Bool) (rest : List ℕ) (shape : Shape) (after : List ℕ) : Type 0 where
  pub text : List ℕ
  pub is : IsItem first text shape
  pub longest : IsLongest shape after
  pub parts : rest ≡ text ++ after

-- no front of the rest is an item
abbrev pub HasNoItem : Bool → List ℕ → Type 0
HasNoItem first rest = (shape : Shape) (after : List ℕ) → HasItem first rest shape after → ⊥

-- the text goes on after these bytes
pub record IsProperFront (bytes text : List ℕ) : Type 0 where
  pub more : List ℕ
  pub some : more ≢ []
  pub parts : text ≡ bytes ++ more

-- the rest is a proper front of an item
pub record IsFrontOfItem (first : Bool) (rest : List ℕ) : Type 0 where
  pub text : List ℕ
  pub shape : Shape
  pub is : IsItem first text shape
  pub front : IsProperFront rest text

-- or of `<!DOCTYPE`
abbrev pub IsFront : Bool → List ℕ → Type 0
IsFront first rest = IsFrontOfItem first rest ⊎ IsProperFront rest (codes "<!DOCTYPE")

-- these attributes have these names and texts
abbrev pub AreTextsOf : List Written → List Attr → Type 0
AreTextsOf [] [] = ⊤
AreTextsOf [] (attr ∷ attrs) = ⊥
AreTextsOf (written ∷ others) [] = ⊥
AreTextsOf (written ∷ others) (attr ∷ attrs) = (attr.name ≡ written.name) × IsValueText written.value attr.value
    × AreTextsOf others attrs

-- what is told of an item of this shape
abbrev pub IsKindOf : Shape → ItemKind → Type 0
IsKindOf (declaration attrs) kind = kind ≡ kinds.Declaration
IsKindOf instruction kind = kind ≡ kinds.Instruction
IsKindOf comment kind = kind ≡ kinds.Comment
IsKindOf cdata kind = kind ≡ kinds.Cdata
IsKindOf (start_tag name written empty) kind = (attrs : List Attr) × AreTextsOf written attrs
    × (kind ≡ kinds.Start name attrs empty)
IsKindOf (end_tag name) kind = kind ≡ kinds.EndTag name
IsKindOf reference kind = kind ≡ kinds.Reference
IsKindOf (chars blank) kind = kind ≡ kinds.Chars blank
