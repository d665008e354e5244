-- How far the laws of an explanation are narrowed down. Only private contracts cite this.
use Rattle.std.specs.Prelude.{◌≡◌, ◌≢◌, ◌||◌, ◌==◌, ⊤, ℕ, zero, suc, Bool, false, List, [], ◌∷◌, ◌++◌, All, Contains}
use Rattle.std.specs.Prelude.{length, slice_get, Some}
use Rattle.std.specs.List.{remove}
use Rattle.plan_core.specs.Drawing.{Drawing}
use Rattle.refute_log.specs.Told.{Lines}
use Rattle.refute_log.specs.Cause.{IsCause}
use Rattle.search_why.specs.declared.outcome.Outcome.{Outcome}
use Rattle.search_why.specs.declared.outcome.Outcome.TheVariants.{Exists, Laws, Stopped}
use Rattle.search_why.specs.Explained.{IsLoose}
use Rattle.search_why.specs.Task.{Task, MeetsAt}
use Rattle.search_why.specs.Asked.{AreLawPlaces, NoneMeetsLaws}

-- the numbers below n, the greatest first
abbrev pub countdown : ℕ → List ℕ
countdown zero = []
countdown (suc n) = n ∷ countdown n

abbrev pub has_number : List ℕ → ℕ → Bool
has_number [] n = false
has_number (x ∷ xs) n = (x == n) || has_number xs n

-- the laws at the places kept can't be left out: drawing i meets all others of these, and those that are left
pub record IsNarrowed (p : Task) (kept left : List ℕ) (without : List Drawing) : Type 0 where
  pub kept_places : AreLawPlaces p kept
  pub left_places : AreLawPlaces p left
  pub apart : (a b : ℕ) → Contains kept a → Contains left b → a ≢ b
  pub none : NoneMeetsLaws p (kept ++ left)
  pub count : length without ≡ length kept
  pub each : (i : ℕ) (d : Drawing) → slice_get without i ≡ Some d →
      IsLoose p.graph p.grid d × All (MeetsAt p d) (remove kept i ++ left)

-- where it stopped, the lines have the cause
abbrev pub TellsNarrowed : Task → Outcome → Lines → Type 0
TellsNarrowed p (Exists d) lines = ⊤
TellsNarrowed p (Laws places without) lines = ⊤
TellsNarrowed p (Stopped stop) lines = IsCause p.budget p.room stop lines
