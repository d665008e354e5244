-- What is known of a line's text while its fields are read, for private contracts alone.
use Rattle.std.specs.Prelude.{◌≡◌, ℕ, Bool, true, false, codes, map, flat_map, List, [], ◌∷◌, ◌++◌}
use Rattle.std.specs.List.{AllByRecursion}
use Rattle.plan_core.specs.declared.criterion.Criterion.{Criterion}
use Rattle.cnf_core.specs.Lit.{Literal}
use Rattle.cnf_core.specs.Clause.{IsThere, AreThere, AreDistinct}
use Rattle.outside_io.specs.Criteria.{criterion_word}
use Rattle.refute_log.specs.declared.fault.LogWhat.{LogWhat}
use Rattle.refute_log.specs.declared.fault.LogWhat.TheVariants.{Header, Form, Number, Twice}
use Rattle.cnf_core.specs.declared.limits.TheConstants.{LAST_VAR}
use Rattle.refute_log.specs.Lines.{literal_text}
use Rattle.refute_log.specs.LineForm.{Field, IsNumber, AreNumbers, IsLiteral}

-- each field, and a space behind each, as they are read one by one
abbrev pub trailed : List Field → List ℕ
trailed fields = flat_map (λ field. field ++ codes " ") fields

-- the fields, and `0` as the last one, behind the letter and its space
abbrev pub fields_left : List Field → List ℕ
fields_left fields = trailed fields ++ codes "0"

abbrev pub literals_text : List Literal → List ℕ
literals_text ls = trailed (map literal_text ls)

-- the text has these fields between the letter and the last `0`
pub record HasFields (text : List ℕ) (fields : List Field) : Type 0 where
  pub numbers : AreNumbers fields
  pub spelled : text ≡ fields_left fields

-- the text is that of these literals and the last `0`
pub record HasLiterals (text : List ℕ) (literals : List Literal) : Type 0 where
  pub there : AreThere LAST_VAR literals
  pub spelled : text ≡ literals_text literals ++ codes "0"

-- the literal of the field was added at the end
pub record AddsLiteral (old new : List Literal) (field : Field) : Type 0 where
  pub literal : Literal
  pub added : new ≡ old ++ literal ∷ []
  pub there : IsThere LAST_VAR literal
  pub spelled : field ≡ literal_text literal

-- the fault of the text behind the letter of a line that has literals
abbrev pub HasFieldsFault : List ℕ → LogWhat → Type 0
HasFieldsFault text Header = ⊥
HasFieldsFault text Form = (fields : List Field) → HasFields text fields → ⊥
HasFieldsFault text Number = (fields : List Field) × HasFields text fields × (AllByRecursion IsLiteral fields → ⊥)
HasFieldsFault text Twice = (literals : List Literal) × HasLiterals text literals × (AreDistinct literals → ⊥)

-- the fields read so far are the texts of the literals, or some isn't the text of one
abbrev pub AreRead : Bool → List Field → List Literal → Type 0
AreRead true fields literals = (fields ≡ map literal_text literals) × AreThere LAST_VAR literals
AreRead false fields literals = AllByRecursion IsLiteral fields → ⊥

-- some fields of the text were read, and the rest stands behind them
pub record IsReadTo (text rest : List ℕ) (right : Bool) (literals : List Literal) : Type 0 where
  pub fields : List Field
  pub numbers : AreNumbers fields
  pub spelled : text ≡ trailed fields ++ rest
  pub read : AreRead right fields literals

-- the text behind the letter of a Bound line has these fields
pub record HasBound (text : List ℕ) (criterion : Criterion) (k x : Field) : Type 0 where
  pub k_number : IsNumber k
  pub x_number : IsNumber x
  pub spelled : text ≡ criterion_word criterion ++ (codes " " ++ (k ++ (codes " " ++ x)))
