use Rattle.std.proofs.Common.{take}
use Rattle.std.specs.Prelude.{map}
use Rattle.railml_text.specs.Faults.{HasRepeat}
use Rattle.railml_text.specs.Reading.{written_of}
use Rattle.railml_text.proofs.repeats.has_repeat_of_few.Given as goal

abbrev pub invariant-loop-i : goal.invariant-loop-i
invariant-loop-i l = ¬ (HasRepeat (map written_of (take l.i l.attrs)))
