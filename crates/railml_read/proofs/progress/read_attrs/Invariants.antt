use Rattle.std.proofs.Common.{◌≡◌, List, ◌++◌, length}
use Rattle.railml_text.specs.declared.item.Attr.{Attr}
use Rattle.railml_read.specs.Rows.{attrs_read}
use Rattle.railml_read.proofs.progress.read_attrs.Given as goal

-- the attributes behind those that are left are taken
abbrev pub invariant-loop-attr : goal.invariant-loop-attr
invariant-loop-attr l = (taken : List Attr) × (l.fn.attrs.items ≡ l.left.items ++ taken) × (l.read ≡ attrs_read taken)

abbrev pub decreases-loop-attr : goal.decreases-loop-attr
decreases-loop-attr l = length l.left.items
