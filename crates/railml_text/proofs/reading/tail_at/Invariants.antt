use Rattle.std.proofs.Common.{length}
use Rattle.std.specs.Prelude.{map}
use Rattle.railml_text.specs.Reading.{Attrs, written_of}
use Rattle.railml_text.proofs.reading.tail_at.Given as goal

abbrev pub invariant-loop-attr : goal.invariant-loop-attr
invariant-loop-attr l = Attrs l.closing (map written_of l.attrs.items) l.bytes l.rest

abbrev pub decreases-loop-attr : goal.decreases-loop-attr
decreases-loop-attr l = length l.rest
