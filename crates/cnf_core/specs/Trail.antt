-- Trails: literals of distinct variables in the order in which they became true, the table that marks them, and
-- how they grow.
use Rattle.std.specs.Prelude.{◌≡◌, ◌≤◌, ◌<◌, ℕ, ◌+◌, ◌*◌, Bool, false, cond, List, length, slice_index_or, take}
use Rattle.std.specs.List.{sum_by}
use Rattle.cnf_core.specs.Lit.{Literal, word_of, has}
use Rattle.cnf_core.specs.Clause.{Clauses, AreDistinct, AreThere}
use Rattle.cnf_core.specs.Propagation.{LiteralSet, IsIn, Includes, HasReason, Closure}

-- the literals that a table by word marks
abbrev pub marked : List Bool → LiteralSet
marked truth l = slice_index_or truth (word_of l) false

-- 1 for a mark and 0 for none
abbrev pub weight : Bool → ℕ
weight b = cond b 1 0

-- how many marks the table has
abbrev pub mark_count : List Bool → ℕ
mark_count truth = sum_by weight truth

-- the table of the variables 1 to vars marks exactly the literals of the trail, which are of
-- distinct variables
pub record IsTrail (vars : ℕ) (truth : List Bool) (trail : List Literal) : Type 0 where
  pub size : length truth ≡ 2 * vars + 2
  pub marks : (l : Literal) → marked truth l ≡ has trail l
  pub distinct : AreDistinct trail
  pub there : AreThere vars trail
  pub count : length trail ≡ mark_count truth

-- the new trail is the old one and literals behind it that follow from it, each by some clause and
-- the literals in front of it
pub record Grows (clauses : Clauses) (old new : List Literal) : Type 0 where
  pub front : take (length old) new ≡ old
  pub longer : length old ≤ length new
  pub keeps : Includes (has new) (has old)
  pub within : (l : Literal) → IsIn (has new) l → Closure clauses (has old) l
  pub reason : (i : ℕ) (d : Literal) → length old ≤ i → i < length new →
      HasReason clauses (has (take i new)) (slice_index_or new i d)
