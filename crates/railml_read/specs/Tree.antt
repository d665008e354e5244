-- A document's tree, and the tags that spell it.
use Rattle.std.specs.Prelude.{ℕ, List, [], ◌∷◌, ◌++◌}
use Rattle.railml_text.specs.declared.item.Attr.{Attr}

-- elements in a row: the first with its children, and those after it. An element has the place of its
-- start tag, a name and attributes.
pub data Elements : Type 0 where
  none : Elements
  element : (at : ℕ) (name : List ℕ) (attrs : List Attr) (children after : Elements) → Elements

-- a tree is its root
pub record XmlTree : Type 0 where
  pub at : ℕ
  pub name : List ℕ
  pub attrs : List Attr
  pub children : Elements

abbrev pub root_of : XmlTree → Elements
root_of tree = element tree.at tree.name tree.attrs tree.children none

-- an opening tag with its place, name and attributes, or a closing tag with its name
pub data Tag : Type 0 where
  opens : (at : ℕ) (name : List ℕ) (attrs : List Attr) → Tag
  closes : (name : List ℕ) → Tag

-- the tags of elements, in the order of the document; `<a/>` and `<a></a>` have the same tags
abbrev pub tags_of : Elements → List Tag
tags_of none = []
tags_of (element at name attrs children after) = opens at name attrs ∷ (tags_of children ++ closes name ∷ tags_of after)

-- the names of elements in a row
abbrev pub names_of : Elements → List (List ℕ)
names_of none = []
names_of (element at name attrs children after) = name ∷ names_of after
