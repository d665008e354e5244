-- When what is left of a log has room where it is checked again.
use Rattle.std.specs.Prelude.{◌≤◌}
use Rattle.plan_core.specs.Graph.{Graph}
use Rattle.cnf_core.specs.declared.limits.TheConstants.{ROOM, VARS}
use Rattle.cnf_core.specs.Clause.{words_of}
use Rattle.track_order.specs.Order.{EdgeOrder}
use Rattle.plan_text.specs.SheetText.{Sheet}
use Rattle.drawing_cnf.specs.Layout.{layout}
use Rattle.log_check.specs.Expectation.{Expectation}
use Rattle.log_check.specs.HintAccepted.{expected_for, clauses_with}
use Rattle.log_trim.specs.declared.trimming.TrimmedLog.{TrimmedLog}

-- what is expected of hinted lines with the caps of what is left, for a sheet of a station
abbrev pub expected_again : Graph → EdgeOrder → Sheet → TrimmedLog → Expectation
expected_again g o said r = expected_for (layout g o said.grid) said.order r.caps

-- it has few variables, and its words and those of the Learnt lines that are left are few
pub record FitsRoom (g : Graph) (o : EdgeOrder) (said : Sheet) (r : TrimmedLog) : Type 0 where
  pub vars : (expected_again g o said r).vars ≤ VARS
  pub words : words_of (clauses_with (expected_again g o said r) r.kept) ≤ ROOM
