-- The text of an attribute: its value with references replaced, and line ends and tabs as spaces.
use Rattle.std.specs.Prelude.{◌≡◌, ◌≢◌, ◌⊎◌, ℕ, List, [], ◌∷◌, ◌++◌, encode_utf8, ⊤}
use Rattle.railml_text.specs.References.{IsReference, BeginsLoose}

-- the pieces that a value falls into
pub data ValuePiece : Type 0 where
  plain : ℕ → ValuePiece  -- a byte that stands for itself
  line_end : ValuePiece  -- a carriage return with its line feed
  blank : ℕ → ValuePiece  -- another tab, line feed or carriage return
  reference : (text : List ℕ) (character : ℕ) → ValuePiece

abbrev pub piece_value : ValuePiece → List ℕ
piece_value (plain b) = b ∷ []
piece_value line_end = 13 ∷ 10 ∷ []
piece_value (blank b) = b ∷ []
piece_value (reference text character) = text

-- what a piece stands for: a line end is one space, and so is another blank
abbrev pub piece_text : ValuePiece → List ℕ
piece_text (plain b) = b ∷ []
piece_text line_end = 32 ∷ []
piece_text (blank b) = 32 ∷ []
piece_text (reference text character) = encode_utf8 character

-- the piece may stand before these bytes: a carriage return alone has no line feed after it
abbrev pub IsPiece : ValuePiece → List ℕ → Type 0
IsPiece (plain b) after = (b ≢ 38) × (b ≢ 9) × (b ≢ 10) × (b ≢ 13)
IsPiece line_end after = ⊤
IsPiece (blank b) after = ((b ≡ 9) ⊎ (b ≡ 10)) ⊎ ((b ≡ 13) × ((bytes : List ℕ) → after ≢ 10 ∷ bytes))
IsPiece (reference text character) after = IsReference text character

-- the value is these pieces in a row, and the text is what they stand for
abbrev pub AreSpelled : List ValuePiece → List ℕ → List ℕ → Type 0
AreSpelled [] value text = (value ≡ []) × (text ≡ [])
AreSpelled (piece ∷ pieces) value text =
    (after rest : List ℕ) × IsPiece piece after × (value ≡ piece_value piece ++ after)
    × (text ≡ piece_text piece ++ rest) × AreSpelled pieces after rest

-- the value falls into pieces, and the text is what they stand for
abbrev pub IsValueText : List ℕ → List ℕ → Type 0
IsValueText value text = (pieces : List ValuePiece) × AreSpelled pieces value text

-- an `&` of the value begins no reference
pub record HasLoose (value : List ℕ) : Type 0 where
  pub before : List ℕ
  pub from : List ℕ
  pub parts : value ≡ before ++ from
  pub loose : BeginsLoose from
