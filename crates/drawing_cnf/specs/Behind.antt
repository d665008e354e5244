-- One bound more behind a formula.
use Rattle.std.specs.Prelude.{◌≡◌, ◌≤◌, ◌⊎◌, ◌+◌, ℕ, [], ◌∷◌, ◌++◌}
use Rattle.plan_core.specs.declared.criterion.Criterion.{Criterion}
use Rattle.cnf_core.specs.declared.limits.TheConstants.{VARS}
use Rattle.cnf_core.specs.Clause.{Clauses, words_of, IsNamed}
use Rattle.cnf_core.specs.Formula.{Passes}
use Rattle.cnf_core.specs.Added.{TooMany}
use Rattle.track_order.specs.Order.{is_above}
use Rattle.drawing_cnf.specs.Bounded.{Bound, bound, clauses_of_bound, size_of_bound, SoundWith, CoversWith}
use Rattle.drawing_cnf.specs.Encoding.{Encoding, encoded_vars}
use Rattle.drawing_cnf.specs.Layout.{layout_of}
use Rattle.drawing_cnf.specs.Whole.{IsWhole}

-- the bound of this criterion and cap right behind the formula's last variable
abbrev pub bound_behind : Encoding → Criterion → ℕ → Bound
bound_behind e criterion cap = bound criterion e.formula.vars cap

-- the clauses of a bound behind the formula
abbrev pub clauses_behind : Encoding → Bound → Clauses
clauses_behind e b = clauses_of_bound e.graph (encoded_vars e) e.grid b

-- how many variables a bound adds behind the formula
abbrev pub size_behind : Encoding → Bound → ℕ
size_behind e b = size_of_bound e.graph (encoded_vars e) e.grid b

-- with the bound there are too many variables, or the formula's words pass its room
abbrev pub PassesWith : Encoding → Bound → Type 0
PassesWith e b = TooMany e.formula (size_behind e b) ⊎ Passes e.formula (clauses_behind e b)

-- the bound was added: what is drawn, the grid and the room are as before, the bound's clauses and variables are the
-- last ones, and there is room for them; its clauses name each of its variables, and the formula is whole, so that its
-- models mean the lawful drawings and tell their values
pub record HasGrown (old new : Encoding) (b : Bound) : Type 0 where
  pub layout : layout_of new ≡ layout_of old
  pub room : new.formula.room ≡ old.formula.room
  pub bounds : new.bounds ≡ old.bounds ++ b ∷ []
  pub clauses : new.formula.clauses ≡ old.formula.clauses ++ clauses_behind old b
  pub vars : new.formula.vars ≡ old.formula.vars + size_behind old b
  pub fits : words_of new.formula.clauses ≤ new.formula.room
  pub few : new.formula.vars ≤ VARS
  pub there : old.formula.vars + b.cap ≤ new.formula.vars
  pub named : (k : ℕ) → 1 ≤ k → k ≤ b.cap → IsNamed (clauses_behind old b) (b.last + k)
  pub whole : IsWhole new
  pub sound : SoundWith new.graph (is_above new.order) new.grid (encoded_vars new) new.formula.clauses new.bounds
  pub covers : CoversWith new.graph (is_above new.order) new.grid (encoded_vars new) new.formula.clauses new.bounds
