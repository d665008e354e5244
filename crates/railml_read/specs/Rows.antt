-- The rows of a tree: its selected elements in file order.
use Rattle.std.specs.Prelude.{ℕ, ◌+◌, if◌then◌else◌, codes, List, [], ◌∷◌, ◌++◌, length, Option, Some, None, bytes_eq}
use Rattle.railml_text.specs.declared.item.Attr.{Attr}
use Rattle.railml_read.specs.declared.rows.Attrs.{Attrs}
use Rattle.railml_read.specs.declared.rows.Elem.{Elem}
use Rattle.railml_read.specs.declared.contexts.Context.{Context}
use Rattle.railml_read.specs.declared.contexts.Context.TheVariants.{Outside, Selected}
use Rattle.railml_read.specs.Contexts.{below}
use Rattle.railml_read.specs.Tree.{Elements, none, element, XmlTree, root_of}

-- the text of the attribute of this name, if there is one
abbrev pub text_named : List ℕ → List Attr → Option (List ℕ)
text_named name [] = None
text_named name (attr ∷ attrs) = if bytes_eq attr.name name then Some attr.value else text_named name attrs

-- the attributes that are read
abbrev pub attrs_read : List Attr → Attrs
attrs_read attrs = record {
  id = text_named (codes "id") attrs;
  pos = text_named (codes "pos") attrs;
  abs_pos = text_named (codes "absPos") attrs;
  reference = text_named (codes "ref") attrs;
  course = text_named (codes "course") attrs;
  orientation = text_named (codes "orientation") attrs;
  continue_course = text_named (codes "trackContinueCourse") attrs;
}

-- the row of an element that stands here, if it is selected; parent is the number of the nearest
-- selected element that holds it
abbrev pub own_row : Context → ℕ → List Attr → Option ℕ → List Elem
own_row (Selected kind) at attrs parent = record { kind = kind; at = at; parent = parent; attrs = attrs_read attrs }
    ∷ []
own_row context at attrs parent = []

-- the number of the nearest selected element at or above one that stands here and whose own row
-- would have the number n
abbrev pub nearest : Context → ℕ → Option ℕ → Option ℕ
nearest (Selected kind) n parent = Some n
nearest context n parent = parent

-- the rows of elements whose parent stands here and whose nearest selected element above is parent;
-- the first of them has the number n
abbrev pub rows_from : Context → Option ℕ → ℕ → Elements → List Elem
rows_from context parent n none = []
rows_from context parent n (element at name attrs children after) =
    let here = below context name in
    let own = own_row here at attrs parent in
    let inside = rows_from here (nearest here n parent) (n + length own) children in
    own ++ (inside ++ rows_from context parent (n + length own + length inside) after)

-- the selected elements of a tree, numbered from 0
abbrev pub rows_of : XmlTree → List Elem
rows_of tree = rows_from Outside None 0 (root_of tree)
