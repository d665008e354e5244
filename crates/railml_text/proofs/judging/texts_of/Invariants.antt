use Rattle.std.proofs.Common.{take}
use Rattle.std.specs.Prelude.{map}
use Rattle.railml_text.specs.Items.{AreTextsOf}
use Rattle.railml_text.specs.Reading.{written_of}
use Rattle.railml_text.proofs.judging.texts_of.Given as goal

abbrev pub invariant-loop-attr : goal.invariant-loop-attr
invariant-loop-attr l = AreTextsOf (map written_of (take l.attr-index l.attrs)) l.texts
