-- Hinted lines as lines of a log, and what is known of those that a checker accepted.
use Rattle.std.specs.Prelude.{◌≡◌, List, ◌++◌, flat_map, map}
use Rattle.refute_log.specs.Told.{Lines}
use Rattle.plan_core.specs.declared.criterion.Values.{Values}
use Rattle.refute_log.specs.Log.{given, clause_lines}
use Rattle.refute_log.specs.Bounds.{MeetsLog}
use Rattle.refute_check.specs.declared.told_bound.ToldBound.{ToldBound}
use Rattle.refute_check.specs.Lacking.{told_bound}
use Rattle.hint_log.specs.Checked.{HintFacts, refuted_of}
use Rattle.hint_log.specs.HintedLines.{HintLines, line_of, AreGood}

-- the log that tells these lines first, and then the clauses of the hinted lines; what it certifies, the
-- hinted lines certify
abbrev pub log_of : Lines → HintLines → Lines
log_of told lines = told ++ map line_of lines

-- the lines are Formula and Bound lines alone
abbrev pub AreClauseLines : Lines → Type 0
AreClauseLines told = clause_lines told ≡ told

-- values meet the lines that tell, and each hinted line is good after their clauses and the Learnt lines before it
pub record MeetsHints (told : Lines) (lines : HintLines) (w : Values) : Type 0 where
  pub alone : AreClauseLines told
  pub meets : MeetsLog told w
  pub good : AreGood (flat_map given told) lines

-- the checker keeps the refuted clauses of these lines, beside lines that tell the clauses and whose bounds these are
pub record KnowsHints (told : Lines) (lines : HintLines) (kept : HintFacts) (bounds : List ToldBound) : Type 0 where
  pub alone : AreClauseLines told
  pub refuted : kept.refuted ≡ flat_map refuted_of lines
  pub bounds_are : bounds ≡ flat_map told_bound told
