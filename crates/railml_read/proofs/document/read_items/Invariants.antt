use Rattle.std.proofs.Common.{◌-◌, length}
use Rattle.railml_read.specs.Progress.{state_of, marks_of}
use Rattle.railml_read.proofs.KeptLemmas.{KeptBoth}
use Rattle.railml_read.proofs.document.read_items.Given as goal

abbrev pub invariant-loop-at : goal.invariant-loop-at
invariant-loop-at l = KeptBoth l.bytes l.at l.first (state_of l.progress) l.progress.has_root (marks_of l.progress)

abbrev pub decreases-loop-at : goal.decreases-loop-at
decreases-loop-at l = length l.bytes - l.at
