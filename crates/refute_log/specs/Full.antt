-- When a log is full: what is still due to it has no room.
use Rattle.std.specs.Prelude.{◌≡◌, ◌≤◌, ◌<◌, ◌+◌, ◌⊎◌, ℕ, min, List, [], length, flat_map, Option, Some, slice_get}
use Rattle.plan_core.specs.declared.criterion.Values.{Values}
use Rattle.plan_core.specs.declared.criterion.Criterion.{Criterion}
use Rattle.plan_core.specs.Values.{value_of}
use Rattle.cnf_core.specs.declared.limits.TheConstants.{VARS}
use Rattle.cnf_core.specs.Lit.{Literal}
use Rattle.cnf_core.specs.Clause.{words_of}
use Rattle.cnf_core.specs.Propagation.{Rup}
use Rattle.refute_log.specs.declared.line.LogLine.TheVariants.{Learnt}
use Rattle.refute_log.specs.Lines.{MayBeTold}
use Rattle.refute_log.specs.Told.{Lines}
use Rattle.refute_log.specs.Log.{added, given, learnt, IsNewClause}
use Rattle.refute_log.specs.Certified.{Certifies}
use Rattle.refute_log.specs.Expected.{Problem, bound_vars, caps, expected_lines, expected_vars, with_cap}

-- what is expected for these caps has more variables than there may be, or the words of its clauses and of the log's
-- Learnt lines pass the room
abbrev pub CapsPass : Problem → List Criterion → Lines → ℕ → (Criterion → ℕ) → Type 0
CapsPass e order lines room cap = (VARS < expected_vars e order cap)
    ⊎ (room < words_of (flat_map given (expected_lines e order cap)) + words_of (flat_map learnt lines))

-- the criterion has no Bound line, and its value can be positive
pub record AwaitsBounds (greatest : Criterion → ℕ) (lines : Lines) (c : Criterion) : Type 0 where
  pub none : bound_vars c lines ≡ []
  pub positive : 1 ≤ greatest c

-- the criterion is the first of the order that has no Bound line and a positive greatest value, and the values
-- of the criteria before it are certified
pub record IsNextSum (greatest : Criterion → ℕ) (order : List Criterion) (lines : Lines) (v : Values) (c : Criterion) :
    Type 0 where
  pub place : ℕ
  pub at : slice_get order place ≡ Some c
  pub awaits : AwaitsBounds greatest lines c
  pub first : (j : ℕ) (d : Criterion) → j < place → slice_get order j ≡ Some d → AwaitsBounds greatest lines d → ⊥
  pub certified : Certifies greatest lines order v place

-- there is a next criterion, and what is expected with its bounds, up to one more than its value, passes
pub record NextSumPasses (e : Problem) (greatest : Criterion → ℕ) (order : List Criterion) (lines : Lines) (v : Values)
    (room : ℕ) : Type 0 where
  pub criterion : Criterion
  pub next : IsNextSum greatest order lines v criterion
  pub passes : CapsPass e order lines room (with_cap (caps greatest lines) criterion
      (min (value_of v criterion + 1) (greatest criterion)))

-- a clause that may be told follows by unit propagation and is new, and with it the words of the Formula and
-- Learnt lines pass the room
pub record NextClausePasses (lines : Lines) (room : ℕ) : Type 0 where
  pub clause : List Literal
  pub formed : MayBeTold (Learnt clause)
  pub follows : Rup (flat_map added lines) clause
  pub new : IsNewClause (flat_map added lines) clause
  pub passes : room < words_of (flat_map added lines) + (length clause + 3)

-- one of three has no room: what is expected already; the bounds of the next criterion, where a drawing of these
-- values was found; or one more clause
abbrev pub IsFullLog : Problem → (Criterion → ℕ) → List Criterion → Lines → Option Values → ℕ → Type 0
IsFullLog e greatest order lines found room = CapsPass e order lines room (caps greatest lines)
    ⊎ ((v : Values) × (found ≡ Some v) × NextSumPasses e greatest order lines v room)
    ⊎ NextClausePasses lines room
