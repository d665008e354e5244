-- Which hinted lines are accepted, one after another, over what is expected for the caps of their text.
use Rattle.std.specs.Prelude.{◌≡◌, ◌≤◌, ℕ, List, ◌++◌, flat_map}
use Rattle.plan_core.specs.declared.criterion.Criterion.{Criterion}
use Rattle.plan_core.specs.declared.criterion.Values.{Values}
use Rattle.plan_core.specs.Values.{value_of, limit_of}
use Rattle.cnf_core.specs.declared.limits.TheConstants.{ROOM}
use Rattle.cnf_core.specs.Clause.{Clauses, words_of}
use Rattle.refute_log.specs.Log.{given}
use Rattle.drawing_cnf.specs.Layout.{Layout}
use Rattle.log_check.specs.Expectation.{Expectation, expectation, PassesLimits}
use Rattle.hint_log.specs.Checked.{clauses_learnt}
use Rattle.hint_log.specs.HintedLines.{HintLines, AreGood}
use Rattle.hint_log.specs.HintText.{hints_header, ended_hint, ended_caps, MayAllBeWritten}
use Rattle.hint_log.specs.Caps.{AreSmallCaps, AreInRange}

-- what is expected of a layout's drawings, with so many bounds of each criterion of an order
abbrev pub expected_for : Layout → List Criterion → Values → Expectation
expected_for y order caps = expectation y order (value_of caps)

-- the caps may stand in a text for this layout and order
pub record AreCapsFor (y : Layout) (order : List Criterion) (caps : Values) : Type 0 where
  pub small : AreSmallCaps caps
  pub range : AreInRange (limit_of y.graph y.grid) order caps

-- the bytes begin with the first line and the line of such caps, and this follows
pub record BeginsWithCaps (y : Layout) (order : List Criterion) (bytes : List ℕ) (caps : Values) (body : List ℕ) :
    Type 0 where
  pub caps_for : AreCapsFor y order caps
  pub spelled : bytes ≡ hints_header ++ (ended_caps caps ++ body)

-- the clauses that a further line may name
abbrev pub clauses_with : Expectation → HintLines → Clauses
clauses_with e lines = flat_map given e.lines ++ flat_map clauses_learnt lines

-- what is expected is within the limits, each line is good, and the clauses have room
pub record AreAcceptedHints (e : Expectation) (lines : HintLines) : Type 0 where
  pub within : PassesLimits e → ⊥
  pub good : AreGood (flat_map given e.lines) lines
  pub room : words_of (clauses_with e lines) ≤ ROOM

-- the text behind the caps begins with these lines, all of them accepted, and this much is left
pub record AcceptsHints (e : Expectation) (body : List ℕ) (lines : HintLines) (rest : List ℕ) : Type 0 where
  pub formed : MayAllBeWritten lines
  pub spelled : body ≡ flat_map ended_hint lines ++ rest
  pub accepted : AreAcceptedHints e lines
