-- Hinted lines: which are well formed, and the text of each and of them all.
use Rattle.std.specs.Prelude.{◌≤◌, ℕ, codes, decimal, map, List, [], ◌∷◌, ◌++◌, length, flat_map}
use Rattle.std.specs.List.{AllByRecursion}
use Rattle.plan_core.specs.declared.criterion.Values.{Values}
use Rattle.cnf_core.specs.declared.limits.TheConstants.{LAST_VAR}
use Rattle.outside_io.specs.Fields.{spaced, unended_text}
use Rattle.refute_log.specs.Lines.{IsWellFormed, NamesOnce, with_zero, log_line_text}
use Rattle.hint_log.specs.declared.hint_line.HintLine.{HintLine}
use Rattle.hint_log.specs.Hint.{hints_of}
use Rattle.hint_log.specs.HintedLines.{HintLines, line_of}

-- the number of a clause that a line may name
pub record IsClauseNumber (n : ℕ) : Type 0 where
  pub from : 1 ≤ n
  pub to : n ≤ LAST_VAR

-- its literals are those of a line of a log, and it names a clause or more
pub record IsWellFormedHint (line : HintLine) : Type 0 where
  pub formed : IsWellFormed (line_of line)
  pub some : 1 ≤ length (hints_of line)
  pub numbers : AllByRecursion IsClauseNumber (hints_of line)

-- a line that is read again from its text: no variable stands twice in it
pub record MayBeWritten (line : HintLine) : Type 0 where
  pub formed : IsWellFormedHint line
  pub once : NamesOnce (line_of line)

-- so it is of each line
abbrev pub MayAllBeWritten : HintLines → Type 0
MayAllBeWritten lines = AllByRecursion MayBeWritten lines

-- the fields of its numbers, with the `0` that ends them
abbrev pub number_fields : List ℕ → List (List ℕ)
number_fields ns = with_zero (map decimal ns)

-- the text of a line, without its line feed: that of the line of a log with its literals, and its numbers
-- behind that
abbrev pub hint_text : HintLine → List ℕ
hint_text line = log_line_text (line_of line) ++ spaced (number_fields (hints_of line))

-- the text of a line with its line feed
abbrev pub ended_hint : HintLine → List ℕ
ended_hint line = hint_text line ++ codes "\n"

-- the first line of every such text
abbrev pub hints_header : List ℕ
hints_header = codes "railplan-hints 1\n"

-- the line of the caps, without its line feed: the caps in the order height, bends, diagonal, width
abbrev pub caps_text : Values → List ℕ
caps_text caps = unended_text (codes "caps")
    (decimal caps.height ∷ decimal caps.bends ∷ decimal caps.diagonal ∷ decimal caps.width ∷ [])

-- the line of the caps with its line feed
abbrev pub ended_caps : Values → List ℕ
ended_caps caps = caps_text caps ++ codes "\n"

-- the text of hinted lines over what is expected for these caps
abbrev pub hints_text : Values → HintLines → List ℕ
hints_text caps lines = hints_header ++ (ended_caps caps ++ flat_map ended_hint lines)
