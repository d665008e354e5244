-- What a solver's trail keeps beside the arena's own conditions.
use Rattle.std.specs.Prelude.{◌≡◌, ◌≤◌, ◌<◌, ℕ, Bool, true, false, List, [], ◌++◌, All, Contains, length, take}
use Rattle.std.specs.Prelude.{slice_index_or}
use Rattle.cnf_core.specs.Lit.{Literal, has}
use Rattle.cnf_core.specs.Clause.{Clauses, AreThere, IsThere}
use Rattle.cnf_core.specs.Propagation.{IsIn, HasReason, Rup}
use Rattle.watch_arena.specs.Trail.{Marks, IsMarks, IsUnset}
use Rattle.watch_arena.specs.Arena.{Attached, AreWatched, AreReasoned, attached_at, attached_clauses}
use Rattle.pick_heap.specs.Heap.{Ranked, IsHeld}
use Rattle.cdcl_learn.specs.Sight.{Sight, sight, nth, level_of, reason_of}
use Rattle.cdcl_learn.specs.Levels.{upto, IsStable, HasClosedLevels}

-- for each literal of level 0 some clause makes it true by literals in front of it
abbrev pub HasRoots : Sight → Clauses → Type 0
HasRoots s clauses = (i : ℕ) → i < length s.lits → level_of s (nth s i) ≡ 0 →
    HasReason clauses (has (take i s.lits)) (nth s i)

-- a literal of level 0 satisfies the clause
pub record IsTrueAtRoot (s : Sight) (c : List Literal) : Type 0 where
  pub lit : Literal
  pub inside : Contains c lit
  pub true_ : IsIn (has s.lits) lit
  pub root : level_of s lit ≡ 0

-- the arena's clauses and those of the solver's own list
abbrev pub all_of : Attached → Clauses → Clauses
all_of a own = attached_clauses a ++ own

-- what the solver keeps of its arena, its trail and its own list of clauses, beside the watches; it is
-- refuted where propagation alone falsifies a clause, and else each clause of its own list is true at
-- level 0
pub record IsGrounded (a : Attached) (m : Marks) (own : Clauses) (refuted : Bool) : Type 0 where
  pub vars : m.vars ≡ a.vars
  pub texts : (p : ℕ) → Contains a.places p → AreThere m.vars (attached_at a p)
  pub marks : IsMarks m
  pub reasoned : AreReasoned a m
  pub levels : HasClosedLevels (sight a m) (attached_clauses a)
  pub rooted : HasRoots (sight a m) (all_of a own)
  pub there : All (AreThere m.vars) own
  pub own_true : refuted ≡ false → All (IsTrueAtRoot (sight a m)) own
  pub falsified : refuted ≡ true → Rup (all_of a own) []

-- the arena is watched on the trail, and the rest holds that a solver keeps of them (`IsGrounded`)
pub record IsSolving (a : Attached) (m : Marks) (own : Clauses) (refuted : Bool) : Type 0 where
  pub watched : AreWatched a m
  pub grounded : IsGrounded a m own refuted

-- all is propagated, and no clause of the arena is falsified
pub record HasPropagated (a : Attached) (m : Marks) : Type 0 where
  pub all_done : m.front ≡ length m.lits
  pub quiet : IsStable (attached_clauses a) (has m.lits)

-- each variable that is unset is held in the heap
abbrev pub AreOffered : Ranked → Marks → Type 0
AreOffered h m = (l : Literal) → IsThere m.vars l → IsUnset m.lits l → IsHeld h l.var

-- each of the first n assumptions is true at a level up to q, and what was decided up to there is an
-- assumption; q is the present level as long as assumptions are left
pub record IsAssuming (query : List Literal) (s : Sight) (q n : ℕ) : Type 0 where
  pub within : q ≤ s.level
  pub some : n ≤ length query
  pub first : (i : ℕ) (d : Literal) → i < n → IsIn (upto s q) (slice_index_or query i d)
  pub only : (k : Literal) → IsIn (has s.lits) k → reason_of s k ≡ 0 → 0 < level_of s k → level_of s k ≤ q →
      Contains query k
  pub left : n < length query → s.level ≡ q
