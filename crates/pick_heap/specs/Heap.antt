-- The heap as contracts see it.
use Rattle.std.specs.Prelude.{◌≡◌, ◌≤◌, ℕ, ◌+◌, ◌/◌, Bool, true, false, cond, nat_eq, List, ◌++◌, map, replicate}
use Rattle.std.specs.Prelude.{slice_index, slice_index_or, slice_set}
use Rattle.pick_heap.specs.declared.heap.TheConstants.{HALVED_AT}

-- the variables 1 to vars, which of them are held, and their activities, each by the variable's number
pub record Ranked : Type 0 where
  pub vars : ℕ
  pub held : List Bool
  pub activities : List ℕ

-- a heap seen so: how many variables it has, which of them are held, and their activities
abbrev pub ranked_of : ℕ → List Bool → List ℕ → Ranked
ranked_of vars held activities = record { vars = vars; held = held; activities = activities }

-- variable v is held
abbrev pub IsHeld : Ranked → ℕ → Type 0
IsHeld h v = slice_index_or h.held v false ≡ true

-- the activity of variable v
abbrev pub activity : Ranked → ℕ → ℕ
activity h v = slice_index h.activities v

-- no variable is held
abbrev pub NoneHeld : Ranked → Type 0
NoneHeld h = (v : ℕ) → IsHeld h v → ⊥

-- a variable that is held, and none that is held is more active
pub record IsGreatest (h : Ranked) (v : ℕ) : Type 0 where
  pub from : 1 ≤ v
  pub to : v ≤ h.vars
  pub held : IsHeld h v
  pub most : (w : ℕ) → IsHeld h w → activity h w ≤ activity h v

-- all variables are held, and none is active
pub record AreFresh (h : Ranked) : Type 0 where
  pub held : (v : ℕ) → 1 ≤ v → v ≤ h.vars → IsHeld h v
  pub idle : (v : ℕ) → activity h v ≡ 0

-- variable v is held; `put_back` makes this of a heap
abbrev pub with_held : Ranked → ℕ → Ranked
with_held h v = record { vars = h.vars; held = slice_set h.held v true; activities = h.activities }

-- variable v isn't held; `pop` makes this of a heap
abbrev pub without : Ranked → ℕ → Ranked
without h v = record { vars = h.vars; held = slice_set h.held v false; activities = h.activities }

-- all activities are halved, rounded down
abbrev pub halved : Ranked → Ranked
halved h = record { vars = h.vars; held = h.held; activities = map (λ a. a / 2) h.activities }

-- one more may be added to the activity of the variable: where it is 63 (`HALVED_AT`), all activities are
-- halved
abbrev pub roomy : Ranked → ℕ → Ranked
roomy h v = cond (nat_eq (activity h v) HALVED_AT) (halved h) h

-- the activity of the variable is one more
abbrev pub raised : Ranked → ℕ → Ranked
raised h v = record { vars = h.vars; held = h.held; activities = slice_set h.activities v (activity h v + 1) }

-- the activity of the variable is one more, after all are halved where there is no room for it; `bump`
-- makes this of a heap
abbrev pub bumped : Ranked → ℕ → Ranked
bumped h v = raised (roomy h v) v

-- n further variables, held and not active
abbrev pub with_fresh : Ranked → ℕ → Ranked
with_fresh h n = record {
  vars = h.vars + n;
  held = h.held ++ replicate n true;
  activities = h.activities
      ++ replicate n 0;
}
