-- What is wrong with an item that was read. Private contracts alone cite this module.
use Rattle.std.specs.Prelude.{◌≡◌, ◌<◌, ℕ, Bool, Any, IsUtf8, List, ⊤}
use Rattle.std.specs.List.{AllByRecursion}
use Rattle.railml_text.specs.declared.item.ItemKind.{ItemKind}
use Rattle.railml_text.specs.declared.fault.TextWhat.{TextWhat}
use Rattle.railml_text.specs.declared.fault.TextWhat.TheVariants.{Encoding, Doctype, Markup, Entity, RepeatedAttribute}
use Rattle.railml_text.specs.declared.fault.TextWhat.TheVariants.{Unfinished}
use Rattle.railml_text.specs.declared.fault.ItemFault.{ItemFault}
use Rattle.railml_text.specs.declared.fault.ItemFault.TheVariants as answers
use Rattle.railml_text.specs.declared.miss.Miss.TheVariants.{Cut, Bad}
use Rattle.railml_text.specs.declared.miss.Stop.{Stop}
use Rattle.railml_text.specs.declared.miss.Stop.TheVariants as stops
use Rattle.railml_text.specs.Values.{HasLoose}
use Rattle.railml_text.specs.Grammar.{Written}
use Rattle.railml_text.specs.Items.{Shape, declaration, start_tag, end_tag, IsKindOf}
use Rattle.railml_text.specs.Faults.{number_of, NamesOtherEncoding, HasRepeat, attrs_of, IsLeastFault}
use Rattle.railml_text.specs.Reading.{Found, item, doctype}

-- some attribute's value has an `&` that begins no reference
abbrev pub AnyLoose : List Written → Type 0
AnyLoose attrs = Any (λ attr. HasLoose attr.value) attrs

-- the faults that an item of this shape may have
abbrev pub OwnFault : Shape → TextWhat → Type 0
OwnFault (declaration attrs) Encoding = NamesOtherEncoding attrs
OwnFault (start_tag name attrs empty) Entity = AnyLoose attrs
OwnFault shape RepeatedAttribute = HasRepeat (attrs_of shape)
OwnFault shape what = ⊥

pub record IsLeastOwn (shape : Shape) (what : TextWhat) : Type 0 where
  pub holds : OwnFault shape what
  pub least : (other : TextWhat) → number_of other < number_of what → OwnFault shape other → ⊥

-- an item of this kind, without a fault
pub record IsSoundKind (shape : Shape) (kind : ItemKind) : Type 0 where
  pub kind_is : IsKindOf shape kind
  pub sound : (what : TextWhat) → OwnFault shape what → ⊥

abbrev pub IsFoundKind : Found → ItemKind → Type 0
IsFoundKind (item shape) kind = IsSoundKind shape kind
IsFoundKind doctype kind = ⊥

-- why an item has no answer
abbrev pub IsFoundFault : Found → ItemFault → Type 0
IsFoundFault found answers.Memory = ⊤
IsFoundFault (item shape) (answers.Item what) = IsLeastOwn shape what
IsFoundFault doctype (answers.Item what) = what ≡ Doctype

-- why attributes have no texts
abbrev pub IsAttrsFault : List Written → ItemFault → Type 0
IsAttrsFault attrs (answers.Item what) = (what ≡ Entity) × AnyLoose attrs
IsAttrsFault attrs answers.Memory = ⊤

-- the names and the values are UTF-8
abbrev pub AreUtf8 : List Written → Type 0
AreUtf8 attrs = AllByRecursion (λ attr. IsUtf8 attr.name × IsUtf8 attr.value) attrs

abbrev pub IsUtf8Shape : Shape → Type 0
IsUtf8Shape (start_tag name attrs empty) = IsUtf8 name × AreUtf8 attrs
IsUtf8Shape (end_tag name) = IsUtf8 name
IsUtf8Shape shape = ⊤

abbrev pub IsUtf8Found : Found → Type 0
IsUtf8Found (item shape) = IsUtf8Shape shape
IsUtf8Found doctype = ⊤

-- why a `<` has no answer
abbrev pub refusal_of : Stop → ItemFault
refusal_of (stops.Miss Cut) = answers.Item Unfinished
refusal_of (stops.Miss Bad) = answers.Item Markup
refusal_of stops.Memory = answers.Memory

-- why there is no item at the front of the rest
abbrev pub IsFaultAt : Bool → List ℕ → ItemFault → Type 0
IsFaultAt first rest (answers.Item what) = IsLeastFault first rest what
IsFaultAt first rest answers.Memory = ⊤
