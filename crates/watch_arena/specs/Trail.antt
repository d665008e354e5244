-- Trails: the literals that are true, in the order in which they became so.
use Rattle.std.specs.Prelude.{◌≡◌, ◌≤◌, ◌<◌, ℕ, ◌+◌, ◌*◌, min, nat_le, Bool, true, false, cond, Option, Some, None}
use Rattle.std.specs.Prelude.{List, [], ◌∷◌, ◌++◌, length, slice_index, slice_index_or, slice_set, take, replicate}
use Rattle.cnf_core.specs.declared.limits.TheConstants.{VARS}
use Rattle.watch_arena.specs.declared.clause_ref.ClauseRef.{ClauseRef}
use Rattle.cnf_core.specs.Lit.{Literal, negate, has}
use Rattle.cnf_core.specs.Clause.{AreDistinct, AreThere}
use Rattle.cnf_core.specs.Propagation.{IsIn, Includes}
use Rattle.cnf_core.specs.Trail.{IsTrail}

-- what a contract sees: the variables, the literals, how many of them are propagated, where levels
-- above 0 begin, and by variable the place of the clause that set it, or 0, and its level
pub record Marks : Type 0 where
  pub vars : ℕ
  pub lits : List Literal
  pub front : ℕ
  pub cuts : List ℕ
  pub reasons : List ℕ
  pub levels : List ℕ

-- a trail seen so: the first `len` literals of its order, and the first `level` places at which levels
-- begin
abbrev pub marks_of : ℕ → List Literal → ℕ → ℕ → List ℕ → ℕ → List ℕ → List ℕ → Marks
marks_of vars order len front starts level reasons levels =
    record {
      vars = vars;
      lits = take len order;
      front = front;
      cuts = take level starts;
      reasons = reasons;
      levels =
          levels;
    }

-- 1 where a level that begins at place n has begun at place i, else 0
abbrev pub begun : ℕ → ℕ → ℕ
begun n i = cond (nat_le n i) 1 0

-- the level of a place on the trail: how many levels above 0 begin there or before
abbrev pub trail_level : List ℕ → ℕ → ℕ
trail_level [] i = 0
trail_level (n ∷ cuts) i = begun n i + trail_level cuts i

-- the table has the level of each literal's variable
abbrev pub HasLevels : List ℕ → List Literal → List ℕ → Type 0
HasLevels cuts lits levels = (i : ℕ) (d : Literal) → i < length lits → slice_index levels (slice_index_or lits i d).var
    ≡ trail_level cuts i

-- the places where levels begin rise, each level has a literal, and all literals before its place are
-- propagated
pub record AreCuts (cuts : List ℕ) (len front : ℕ) : Type 0 where
  pub count : length cuts ≤ len
  pub from : (k : ℕ) → k < length cuts → k ≤ slice_index cuts k
  pub below : (k : ℕ) → k < length cuts → slice_index cuts k < len
  pub propagated : (k : ℕ) → k < length cuts → slice_index cuts k ≤ front
  pub rise : (j k : ℕ) → j < k → k < length cuts → slice_index cuts j < slice_index cuts k

-- what each trail keeps of the tables in which it is stored
pub record IsStoredTrail (vars : ℕ) (truth : List Bool) (order : List Literal) (len front : ℕ) (starts : List ℕ)
    (level : ℕ) (reasons levels : List ℕ) : Type 0 where
  pub limit : vars ≤ VARS
  pub table : IsTrail vars truth (take len order)
  pub size : length order ≡ 2 * vars + 2
  pub within : len ≤ length order
  pub front_within : front ≤ len
  pub starts_size : length starts ≡ 2 * vars + 2
  pub level_within : level ≤ length starts
  pub cuts : AreCuts (take level starts) len front
  pub reasons_size : length reasons ≡ vars + 1
  pub levels_size : length levels ≡ vars + 1
  pub level_of : HasLevels (take level starts) (take len order) levels

-- what each trail keeps
pub record IsMarks (m : Marks) : Type 0 where
  pub limit : m.vars ≤ VARS
  pub distinct : AreDistinct m.lits
  pub there : AreThere m.vars m.lits
  pub front : m.front ≤ length m.lits
  pub short : length m.lits ≤ 2 * m.vars + 2
  pub cuts : AreCuts m.cuts (length m.lits) m.front
  pub reasons : length m.reasons ≡ m.vars + 1
  pub levels_size : length m.levels ≡ m.vars + 1
  pub levels : HasLevels m.cuts m.lits m.levels

-- one more literal is true, by the clause at a place or by none, which is 0, at the present level
abbrev pub with_lit : Marks → Literal → ℕ → Marks
with_lit m l reason = record {
  vars = m.vars;
  lits = m.lits ++ l ∷ [];
  front = m.front;
  cuts = m.cuts;
  reasons =
      slice_set m.reasons l.var reason;
  levels = slice_set m.levels l.var (length m.cuts);
}

-- one more literal is propagated
abbrev pub advanced : Marks → Marks
advanced m = record {
  vars = m.vars;
  lits = m.lits;
  front = m.front + 1;
  cuts = m.cuts;
  reasons = m.reasons;
  levels =
      m.levels;
}

-- a level begins
abbrev pub opened : Marks → Marks
opened m = record {
  vars = m.vars;
  lits = m.lits;
  front = m.front;
  cuts = m.cuts ++ length m.lits ∷ [];
  reasons =
      m.reasons;
  levels = m.levels;
}

-- where the level after this one begins, or the end
abbrev pub level_end : Marks → ℕ → ℕ
level_end m level = slice_index_or m.cuts level (length m.lits)

-- the literals of levels up to this one are left
abbrev pub undone : Marks → ℕ → Marks
undone m level = record {
  vars = m.vars;
  lits = take (level_end m level) m.lits;
  front =
      min m.front (level_end m level);
  cuts = take level m.cuts;
  reasons = m.reasons;
  levels = m.levels;
}

-- further variables are there, unset
abbrev pub widened : Marks → ℕ → Marks
widened m n = record {
  vars = m.vars + n;
  lits = m.lits;
  front = m.front;
  cuts = m.cuts;
  reasons = m.reasons
      ++ replicate n 0;
  levels = m.levels ++ replicate n 0;
}

-- the place of a clause that is the reason of a literal, or 0
abbrev pub place_of : Option ClauseRef → ℕ
place_of None = 0
place_of (Some c) = c.0

-- the new trail has further literals at the end, of the present level
pub record IsLonger (old new : Marks) : Type 0 where
  pub vars : new.vars ≡ old.vars
  pub cuts : new.cuts ≡ old.cuts
  pub front : take (length old.lits) new.lits ≡ old.lits
  pub longer : length old.lits ≤ length new.lits
  pub keeps : Includes (has new.lits) (has old.lits)

-- neither the literal nor its negation is true
abbrev pub IsUnset : List Literal → Literal → Type 0
IsUnset lits l = (has lits l ≡ false) × (has lits (negate l) ≡ false)

-- the literal is true, false or unset, as the answer says
abbrev pub IsValue : List Literal → Literal → Option Bool → Type 0
IsValue lits l (Some true) = IsIn (has lits) l
IsValue lits l (Some false) = IsIn (has lits) (negate l)
IsValue lits l None = IsUnset lits l

-- what the table of reasons says of a variable
abbrev pub IsReason : ℕ → Option ClauseRef → Type 0
IsReason place None = place ≡ 0
IsReason place (Some c) = (place ≡ c.0) × (1 ≤ place)
