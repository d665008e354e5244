-- What is so before each place of the order, and where a search stops.
use Rattle.std.specs.Prelude.{◌≡◌, ◌≤◌, ◌<◌, ◌+◌, ◌⊎◌, ℕ, min, List, [], ◌∷◌, ◌++◌, All, Contains, take, cond}
use Rattle.std.specs.Prelude.{nat_lt, length, Option, None, Some, slice_get}
use Rattle.plan_core.specs.declared.criterion.Values.{Values}
use Rattle.plan_core.specs.declared.criterion.Criterion.{Criterion}
use Rattle.plan_core.specs.Values.{values_of, value_of}
use Rattle.plan_core.specs.Drawing.{Drawing}
use Rattle.refute_log.specs.Told.{Lines}
use Rattle.refute_log.specs.Log.{clause_lines, Derives}
use Rattle.refute_log.specs.Expected.{expected_lines, expected_vars, IsAllExpected}
use Rattle.search_least.specs.declared.oracle.Below.{Below}
use Rattle.search_least.specs.declared.advancing.Advanced.{Advanced}
use Rattle.refute_log.specs.declared.stop.Stop.{Stop}
use Rattle.search_least.specs.Task.{Task, greatest_of}
use Rattle.search_least.specs.Asked.{below_limit, AreOnce}
use Rattle.search_least.specs.Reached.{Reached, Holds}
use Rattle.search_least.specs.Caps.{AllZero, AreCapped, IsCauseWith}
use Rattle.search_least.specs.Outcome.{IsLeastLeft}

-- from place i on, j is the first with a positive value
pub record IsFirstPositive (order : List Criterion) (i j : ℕ) (v : Values) : Type 0 where
  pub from : i ≤ j
  pub within : j < length order
  pub zeros : (k : ℕ) (c : Criterion) → i ≤ k → k < j → slice_get order k ≡ Some c → value_of v c ≡ 0
  pub positive : (c : Criterion) → slice_get order j ≡ Some c → 1 ≤ value_of v c

-- the bound of c that holds its least value, where there is one
abbrev pub hold : Criterion → ℕ → ℕ → List Below
hold c least cap = cond (nat_lt least cap) (below_limit c (least + 1) ∷ []) []

-- no criterion from place i on has bounds, and so many variables are there
pub record Counted (p : Task) (order : List Criterion) (i : ℕ) (cap : Criterion → ℕ) (vars : ℕ) : Type 0 where
  pub unbuilt : (k : ℕ) (c : Criterion) → i ≤ k → slice_get order k ≡ Some c → cap c ≡ 0
  pub vars_are : vars ≡ expected_vars p.encoding order cap

-- the bounds are of different criteria before place i
pub record AreBefore (order : List Criterion) (i : ℕ) (bounds : List Below) : Type 0 where
  pub once : AreOnce bounds
  pub before : All (λ b. Contains (take i order) b.criterion) bounds

-- each criterion before place i without bounds can only be 0
abbrev pub OnlyZeroSkipped : Task → List Criterion → ℕ → (Criterion → ℕ) → Type 0
OnlyZeroSkipped p order i cap = All (λ c. cap c ≡ 0 → greatest_of p c ≡ 0) (take i order)

-- before place i: the bounds hold what was reached, or nothing is left to be less; the criteria before have their
-- bounds
pub record SearchState (p : Task) (order : List Criterion) (i : ℕ) (held : List Below) (d : Drawing)
    (cap : Criterion → ℕ) (lines : Lines) : Type 0 where
  pub reached : Reached p order i d lines
  pub told : clause_lines lines ≡ expected_lines p.encoding order cap
  pub holds : (Holds p order i held (values_of d) × OnlyZeroSkipped p order i cap) ⊎ AllZero order i (values_of d)
  pub capped : AreCapped p order i d cap

-- the search stopped, with the first s criteria settled
pub record StoppedAt (p : Task) (order : List Criterion) (s : ℕ) (stop : Stop) (d : Drawing) (lines : Lines) : Type 0
  where
    pub reached : Reached p order s d lines
    pub within : s < length order
    pub positive : (c : Criterion) → slice_get order s ≡ Some c → 1 ≤ value_of (values_of d) c
    pub told : IsAllExpected p.encoding (greatest_of p) order lines
    pub cause : IsCauseWith p order s stop d lines

-- how place i leads on: what is so before the next place, or where the search stopped
abbrev pub Advances : Task → List Criterion → ℕ → List Below → Option Stop → ℕ → Drawing → (Criterion → ℕ) → Lines →
    Type 0
Advances p order i held None s d cap lines = SearchState p order (i + 1) held d cap lines
Advances p order i held (Some stop) s d cap lines = StoppedAt p order s stop d lines

abbrev pub AdvancesTo : Task → List Criterion → ℕ → List Below → Advanced → (Criterion → ℕ) → Lines → Type 0
AdvancesTo p order i held r cap lines = Advances p order i held r.stop r.settled r.best cap lines

-- the cap for a criterion of this value: one more, and at most its greatest value, which isn't 0
pub record IsCapOf (p : Task) (c : Criterion) (v : Values) (n : ℕ) : Type 0 where
  pub is : n ≡ min (value_of v c + 1) (greatest_of p c)
  pub positive : 1 ≤ greatest_of p c

-- a search that stands at place i with what is held, goes by the further lines to where it advances to
abbrev pub GoesTo : Task → List Criterion → ℕ → (held after : List Below) → Drawing → (cap now : Criterion → ℕ) →
    Advanced → Lines → Lines → Type 0
GoesTo p order i held after best cap now r lines more = SearchState p order i held best cap lines →
    AdvancesTo p order i after r now (lines ++ more)

-- the bounds of the criterion at place i are told and its least value is reached, or the search stopped
abbrev pub BoundedTo : Task → List Criterion → ℕ → List Below → Option Stop → ℕ → Drawing → (Criterion → ℕ) → Lines →
    Type 0
BoundedTo p order i held None s d cap lines = Reached p order (i + 1) d lines
    × (clause_lines lines ≡ expected_lines p.encoding order cap)
    × OnlyZeroSkipped p order (i + 1) cap × Holds p order i held (values_of d) × AreCapped p order (i + 1) d cap
BoundedTo p order i held (Some stop) s d cap lines = StoppedAt p order s stop d lines

abbrev pub BoundedSo : Task → List Criterion → ℕ → List Below → Advanced → (Criterion → ℕ) → Lines → Type 0
BoundedSo p order i held r cap lines = BoundedTo p order i held r.stop r.settled r.best cap lines

-- whatever the log tells after an error derives, where what it told before was known; where this was so too, it is left
-- of a search
abbrev pub LeavesSearch : Task → List Criterion → (before : Lines → Type 0) → (known log_old log_new : Lines → Type 0) →
    Type 0
LeavesSearch p order before known log_old log_new = (lines : Lines) → known lines → log_old lines →
    (told : Lines) → log_new told → Derives told × (before lines → IsLeastLeft p order told)

-- what is so of the lines before leads to what is so with the further ones
abbrev pub LeadsTo : (before behind : Lines → Type 0) → Lines → Lines → Type 0
LeadsTo before behind lines more = before lines → behind (lines ++ more)
