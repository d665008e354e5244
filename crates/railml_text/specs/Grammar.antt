-- The shapes of items: each names its parts in their order.
use Rattle.std.specs.Prelude.{◌≡◌, ◌≢◌, ◌⊎◌, ℕ, Bool, true, codes, if◌then◌else◌, List, [], ◌∷◌, ◌++◌}
use Rattle.railml_text.specs.Bytes.{is_blank, begins_name, goes_on_name, is_in_value, is_in_text, AllOfClass}

-- a letter of ASCII, `_`, `:` or a character from U+0080 on, and then these, digits, `-` and `.`
abbrev pub IsXmlName : List ℕ → Type 0
IsXmlName [] = ⊥
IsXmlName (b ∷ bytes) = (begins_name b ≡ true) × AllOfClass goes_on_name bytes

-- white space, or none
abbrev pub AreBlanks : List ℕ → Type 0
AreBlanks bytes = AllOfClass is_blank bytes

-- an attribute as it is written, with the value between its quotes
pub record Written : Type 0 where
  pub name : List ℕ
  pub value : List ℕ

-- a name, `=` with white space or none on both sides, and a value in `"` or `'` that holds neither
-- its quote nor `<`
pub record IsAttr (text : List ℕ) (attr : Written) : Type 0 where
  pub before : List ℕ
  pub after : List ℕ
  pub quote : ℕ
  pub named : IsXmlName attr.name
  pub blank_before : AreBlanks before
  pub blank_after : AreBlanks after
  pub is_quote : (quote ≡ 34) ⊎ (quote ≡ 39)
  pub within : AllOfClass (is_in_value quote) attr.value
  pub spelled : text ≡ attr.name ++ before ++ codes "=" ++ after ++ quote ∷ [] ++ attr.value ++ quote ∷ []

-- attributes, each after white space
abbrev pub AreAttrs : List ℕ → List Written → Type 0
AreAttrs text [] = text ≡ []
AreAttrs text (attr ∷ attrs) =
    (blanks one others : List ℕ) × (blanks ≢ []) × AreBlanks blanks × IsAttr one attr × AreAttrs others attrs
    × (text ≡ blanks ++ one ++ others)

-- `<?xml`, one or more attributes each after white space, white space or none, `?>`
pub record IsDeclaration (text : List ℕ) (attrs : List Written) : Type 0 where
  pub between : List ℕ
  pub blanks : List ℕ
  pub some : attrs ≢ []
  pub attributes : AreAttrs between attrs
  pub blank : AreBlanks blanks
  pub spelled : text ≡ codes "<?xml" ++ between ++ blanks ++ codes "?>"

-- from the opening up to the first closing after it: no closing stands earlier
pub record IsBracketed (opening closing text : List ℕ) : Type 0 where
  pub inner : List ℕ
  pub spelled : text ≡ opening ++ (inner ++ closing)
  pub first : (before after : List ℕ) → inner ++ closing ≡ before ++ (closing ++ after) → after ≡ []

-- `<`, a name, attributes each after white space, white space or none, `>` or `/>`
pub record IsStartTag (text name : List ℕ) (attrs : List Written) (empty : Bool) : Type 0 where
  pub between : List ℕ
  pub blanks : List ℕ
  pub named : IsXmlName name
  pub attributes : AreAttrs between attrs
  pub blank : AreBlanks blanks
  pub spelled : text ≡ codes "<" ++ name ++ between ++ blanks ++ (if empty then codes "/>" else codes ">")

-- `</`, a name, white space or none, `>`
pub record IsEndTag (text name : List ℕ) : Type 0 where
  pub blanks : List ℕ
  pub named : IsXmlName name
  pub blank : AreBlanks blanks
  pub spelled : text ≡ codes "</" ++ name ++ blanks ++ codes ">"

-- one or more characters other than `<` and `&`
pub record IsChars (text : List ℕ) : Type 0 where
  pub some : text ≢ []
  pub within : AllOfClass is_in_text text
