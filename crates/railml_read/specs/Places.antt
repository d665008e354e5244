-- Which items may stand where in a document.
use Rattle.std.specs.Prelude.{◌≡◌, ◌≢◌, ◌⊎◌, ◌≤◌, ◌-◌, ℕ, Bool, true, false, codes, List, [], ◌∷◌, ◌++◌, length, take}
use Rattle.std.specs.Prelude.{fold, flat_map, Option, Some, slice_get, ⊤}
use Rattle.std.specs.List.{list_any}
use Rattle.railml_text.specs.declared.item.ItemKind.{ItemKind}
use Rattle.railml_text.specs.declared.item.ItemKind.TheVariants as kinds
use Rattle.railml_text.specs.declared.fault.TextWhat.{TextWhat}
use Rattle.railml_text.specs.declared.fault.TextWhat.TheVariants.{Markup, EndTag, Root, AfterRoot, Depth}
use Rattle.railml_text.specs.Items.{Shape, start_tag, end_tag, cdata, reference, chars}
use Rattle.railml_text.specs.Cutting.{Placed}
use Rattle.railml_read.specs.declared.progress.TheConstants.{MAX_DEPTH}
use Rattle.railml_read.specs.Tree.{Tag, opens, closes}

-- what matters of an item for where it stands: it opens an element, closes one, is content, which
-- stands inside the root alone (CDATA, a reference, text with other than white space), or may stand
-- anywhere (an instruction, a comment, white space, the declaration)
pub data Role : Type 0 where
  opening : (name : List ℕ) → Role
  closing : (name : List ℕ) → Role
  content : Role
  free : Role

abbrev pub role_of : ItemKind → Role
role_of (kinds.Start name attrs empty) = opening name
role_of (kinds.EndTag name) = closing name
role_of kinds.Cdata = content
role_of kinds.Reference = content
role_of (kinds.Chars false) = content
role_of kind = free

-- the same of an item by its shape
abbrev pub role_of_shape : Shape → Role
role_of_shape (start_tag name attrs empty) = opening name
role_of_shape (end_tag name) = closing name
role_of_shape cdata = content
role_of_shape reference = content
role_of_shape (chars false) = content
role_of_shape shape = free

-- the tags of an item at a place: that of an empty element opens and closes it
abbrev pub tags_at : ℕ → ItemKind → List Tag
tags_at at (kinds.Start name attrs true) = opens at name attrs ∷ closes name ∷ []
tags_at at (kinds.Start name attrs false) = opens at name attrs ∷ []
tags_at at (kinds.EndTag name) = closes name ∷ []
tags_at at kind = []

abbrev pub tags_in : List Placed → List Tag
tags_in items = flat_map (λ item. tags_at item.at item.kind) items

-- the names of the open elements after one more tag, the outermost first
abbrev pub names_after : List (List ℕ) → Tag → List (List ℕ)
names_after names (opens at name attrs) = names ++ name ∷ []
names_after names (closes name) = take (length names - 1) names

-- the names of the elements that are open behind these items, the outermost first
abbrev pub open_names : List Placed → List (List ℕ)
open_names items = fold names_after [] (tags_in items)

abbrev pub innermost : List (List ℕ) → Option (List ℕ)
innermost names = slice_get names (length names - 1)

abbrev pub begins_element : ItemKind → Bool
begins_element (kinds.Start name attrs empty) = true
begins_element kind = false

-- whether an element has begun in these items, so that the root has
abbrev pub has_root : List Placed → Bool
has_root items = list_any (λ item. begins_element item.kind) items

-- a name that the root may have
abbrev pub IsRootName : List ℕ → Type 0
IsRootName name = (name ≡ codes "railml") ⊎ (name ≡ codes "infrastructure")

-- The table of faults, as far as it speaks of where an item stands: an item of this role has this
-- fault where elements of these names are open and the root has begun or hasn't. The root's depth is
-- 1, so an element that begins where as many are open as may be would be too deep.
abbrev pub IsMisplaced : List (List ℕ) → Bool → Role → TextWhat → Type 0
IsMisplaced names rooted content Markup = rooted ≡ false
IsMisplaced names rooted content AfterRoot = (rooted ≡ true) × (names ≡ [])
IsMisplaced names rooted (opening name) Root = (rooted ≡ false) × (IsRootName name → ⊥)
IsMisplaced names rooted (opening name) AfterRoot = (rooted ≡ true) × (names ≡ [])
IsMisplaced names rooted (opening name) Depth = MAX_DEPTH ≤ length names
IsMisplaced names rooted (closing name) EndTag = innermost names ≢ Some name
IsMisplaced names rooted role what = ⊥

-- behind the first items, each of the others stands where it may
abbrev pub AreInPlace : List Placed → List Placed → Type 0
AreInPlace before [] = ⊤
AreInPlace before (item ∷ items) =
    ((what : TextWhat) → IsMisplaced (open_names before) (has_root before) (role_of item.kind) what → ⊥)
    × AreInPlace (before ++ item ∷ []) items
