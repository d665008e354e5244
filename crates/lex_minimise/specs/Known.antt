-- What a search with the solver keeps, when it can be asked, and which lines are known.
use Rattle.std.specs.Prelude.{◌≡◌, ◌≢◌, ◌≤◌, ◌+◌, ℕ, false, List, ◌++◌, All, AllPairs, length, flat_map, fold}
use Rattle.plan_core.specs.declared.criterion.Criterion.{Criterion}
use Rattle.plan_core.specs.Values.{limit_of}
use Rattle.cnf_core.specs.declared.limits.TheConstants.{VARS}
use Rattle.cnf_core.specs.Clause.{Clauses, IsNamed, words_of}
use Rattle.refute_log.specs.Told.{Lines}
use Rattle.refute_log.specs.Log.{added, learnt, clause_lines}
use Rattle.refute_log.specs.Bounds.{CoversDrawings}
use Rattle.refute_log.specs.Expected.{caps, with_cap}
use Rattle.track_order.specs.Order.{is_above, is_overlap}
use Rattle.drawing_cnf.specs.Expected.{drawing_vars, formula_clauses, formula_size}
use Rattle.drawing_cnf.specs.Encoding.{Encoding}
use Rattle.drawing_cnf.specs.Bounded.{Bound, bounds_clauses, AreBehind, CoversWith}
use Rattle.drawing_cnf.specs.Whole.{IsWhole}
use Rattle.cdcl_core.specs.Kept.{Kept, AreGiven}
use Rattle.cdcl_core.specs.Belongs.{Belongs}
use Rattle.search_least.specs.Asked.{AreApart}
use Rattle.drawing_cnf.specs.Lists.{lines_with}
use Rattle.drawing_cnf.specs.Layout.{Layout, layout_of}

-- the clauses of the drawings, and of these bounds behind them
abbrev pub told_clauses : Layout → List Bound → Clauses
told_clauses y told =
    formula_clauses y.graph (is_above y.order) (is_overlap y.order) y.grid
    ++ bounds_clauses y.graph (drawing_vars y.graph y.grid) y.grid told

-- the lines of the drawings' clauses, and of these bounds behind them
abbrev pub told_lines : Layout → List Bound → Lines
told_lines y told = lines_with y.graph (is_above y.order) (is_overlap y.order) y.grid told

-- these numbers of bounds, but for the bound's criterion its cap
abbrev pub with_bound : (Criterion → ℕ) → Bound → Criterion → ℕ
with_bound caps b = with_cap caps b.criterion b.cap

-- no criterion has a bound
abbrev pub no_caps : Criterion → ℕ
no_caps c = 0

-- how many bounds each criterion has with these, 0 where none of them is of it
abbrev pub caps_of : List Bound → Criterion → ℕ
caps_of told = fold with_bound no_caps told

-- bounds of different criteria, each within its greatest value, one behind another; their variables stand in clauses,
-- and each lawful drawing has an assignment that satisfies the clauses and in which they tell its values
pub record AreTold (y : Layout) (told : List Bound) : Type 0 where
  pub once : AllPairs (λ a b. a.criterion ≢ b.criterion) told
  pub within : All (λ b. b.cap ≤ limit_of y.graph y.grid b.criterion) told
  pub positive : All (λ b. 1 ≤ b.cap) told
  pub few : All (λ b. b.last + b.cap ≤ VARS) told
  pub behind :
      AreBehind y.graph (drawing_vars y.graph y.grid) y.grid
      (formula_size y.graph (is_above y.order) (is_overlap y.order) y.grid) told
  pub named : All (λ b. (k : ℕ) → 1 ≤ k → k ≤ b.cap → IsNamed (told_clauses y told) (b.last + k)) told
  pub covers : CoversWith y.graph (is_above y.order) y.grid (drawing_vars y.graph y.grid) (told_clauses y told) told

-- the lines belong to the solver, which has learnt no more than the budget allows, and their Formula and Bound lines
-- are those of the bounds that were told. So they cover the lawful drawings, have just these bounds, no two of one
-- variable, and have room
pub record KnowsLines (y : Layout) (told : List Bound) (budget room : ℕ) (k : Kept) (lines : Lines) : Type 0 where
  pub facts : AreTold y told
  pub belongs : Belongs lines k
  pub told_are : clause_lines lines ≡ told_lines y told
  pub learnt_are : k.learnt ≡ length (flat_map learnt lines)
  pub spent : k.learnt ≤ budget
  pub covers : CoversDrawings y.graph (is_above y.order) y.grid lines
  pub counted : (c : Criterion) → caps (limit_of y.graph y.grid) lines c ≡ caps_of told c
  pub apart : AreApart lines
  pub fits : words_of (flat_map added lines) ≤ room
  pub few : k.vars ≤ VARS

-- the formula has all of its clauses, and the solver was given them; nothing has failed
pub record IsReady (e : Encoding) (told : List Bound) (budget room : ℕ) (k : Kept) : Type 0 where
  pub whole : IsWhole e
  pub bounds : e.bounds ≡ told
  pub facts : AreTold (layout_of e) told
  pub working : k.failed ≡ false
  pub vars : k.vars ≡ e.formula.vars
  pub room_is : k.room ≡ room
  pub formula_room : e.formula.room ≡ room
  pub given : AreGiven e.formula.clauses k.clauses
  pub spent : k.learnt ≤ budget
