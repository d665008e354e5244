-- One criterion's bound more behind the formula, whose clauses the solver wasn't given yet.
use Rattle.std.specs.Prelude.{◌≡◌, ◌≤◌, ◌+◌, ℕ, false, List, [], ◌∷◌, ◌++◌, length, drop}
use Rattle.cnf_core.specs.declared.limits.TheConstants.{VARS}
use Rattle.drawing_cnf.specs.Encoding.{Encoding}
use Rattle.drawing_cnf.specs.Bounded.{Bound}
use Rattle.drawing_cnf.specs.Whole.{IsWhole}
use Rattle.drawing_cnf.specs.Behind.{clauses_behind, size_behind}
use Rattle.cdcl_core.specs.Kept.{Kept, AreGiven}
use Rattle.drawing_cnf.specs.Layout.{layout_of}
use Rattle.lex_minimise.specs.Known.{told_clauses, AreTold}

-- the formula has the bound behind those that were told, and its clauses from this number on are the bound's, which
-- alone the solver wasn't given
pub record IsGrown (e : Encoding) (told : List Bound) (budget room : ℕ) (b : Bound) (from : ℕ) (k : Kept) : Type 0 where
  pub whole : IsWhole e
  pub bounds : e.bounds ≡ told ++ b ∷ []
  pub facts : AreTold (layout_of e) (told ++ b ∷ [])
  pub working : k.failed ≡ false
  pub vars : e.formula.vars ≡ k.vars + size_behind e b
  pub few : e.formula.vars ≤ VARS
  pub room_is : k.room ≡ room
  pub formula_room : e.formula.room ≡ room
  pub given : AreGiven (told_clauses (layout_of e) told) k.clauses
  pub within : from ≤ length e.formula.clauses
  pub rest : drop from e.formula.clauses ≡ clauses_behind e b
  pub spent : k.learnt ≤ budget
