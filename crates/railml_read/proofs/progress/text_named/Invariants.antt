use Rattle.std.proofs.Common.{◌≡◌, drop}
use Rattle.railml_read.specs.Rows.{text_named}
use Rattle.railml_read.proofs.progress.text_named.Given as goal

abbrev pub invariant-loop-attr : goal.invariant-loop-attr
invariant-loop-attr l = text_named l.name (drop l.attr-index l.attrs) ≡ text_named l.name l.attrs
