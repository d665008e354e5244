-- Hinted lines one after another: which lines of a log they are, and when each of them is good.
use Rattle.std.specs.Prelude.{⊤, List, [], ◌∷◌, ◌++◌}
use Rattle.cnf_core.specs.Clause.{Clauses}
use Rattle.refute_log.specs.declared.line.LogLine.{LogLine}
use Rattle.refute_log.specs.declared.line.LogLine.TheVariants.{Learnt as LearntLine, Refuted as RefutedLine}
use Rattle.hint_log.specs.declared.hint_line.HintLine.{HintLine}
use Rattle.hint_log.specs.declared.hint_line.HintLine.TheVariants.{Learnt, Refuted}
use Rattle.hint_log.specs.Hint.{IsGood}
use Rattle.hint_log.specs.Checked.{clauses_learnt}

-- hinted lines, in their order
abbrev pub HintLines : Type 0
HintLines = List HintLine

-- the line of a log that a hinted line is
abbrev pub line_of : HintLine → LogLine
line_of (Learnt lits hints) = LearntLine lits
line_of (Refuted lits hints) = RefutedLine lits

-- each line is good after the clauses and the Learnt lines before it
abbrev pub AreGood : Clauses → HintLines → Type 0
AreGood clauses [] = ⊤
AreGood clauses (line ∷ rest) = IsGood clauses line × AreGood (clauses ++ clauses_learnt line) rest
