-- What a log tells of its lines: a relation, which may hold of no list.
use Rattle.std.specs.Prelude.{ℕ, cond, List, [], ◌∷◌, ◌++◌}
use Rattle.outside_io.specs.Counts.{next_count}
use Rattle.refute_log.specs.declared.line.LogLine.{LogLine}
use Rattle.refute_log.specs.Lines.{is_learnt}

-- the lines of a log
abbrev pub Lines : Type 0
Lines = List LogLine

-- whatever list was told, is told with the line at its end
abbrev pub AddsLine : (Lines → Type 0) → (Lines → Type 0) → LogLine → Type 0
AddsLine old new line = (lines : Lines) → old lines → new (lines ++ line ∷ [])

-- whatever list was told, is told with these lines at its end
abbrev pub AddsAll : (Lines → Type 0) → (Lines → Type 0) → Lines → Type 0
AddsAll old new more = (lines : Lines) → old lines → new (lines ++ more)

-- what is told now was told before
abbrev pub TellsNoMore : (Lines → Type 0) → (Lines → Type 0) → Type 0
TellsNoMore old new = (lines : Lines) → new lines → old lines

-- the number of Learnt lines after one more line: for a Learnt line it is one more, and ends at 2^64 - 1
abbrev pub learnt_after : LogLine → ℕ → ℕ
learnt_after line n = cond (is_learnt line) (next_count n) n
