-- The arena as contracts see it, and what holds of it together with a trail.
use Rattle.std.specs.Prelude.{◌≡◌, ◌≤◌, ℕ, ◌+◌, Option, Some, None, List, [], ◌∷◌, All, Contains, length, map}
use Rattle.std.specs.Prelude.{slice_index}
use Rattle.cnf_core.specs.declared.limits.TheConstants.{VARS, ROOM}
use Rattle.cnf_core.specs.Lit.{Literal, negate, has}
use Rattle.cnf_core.specs.Clause.{Clauses, AreDistinct, AreThere}
use Rattle.cnf_core.specs.Propagation.{IsIn, SameLiterals}
use Rattle.watch_arena.specs.declared.clause_ref.ClauseRef.{ClauseRef}
use Rattle.watch_arena.specs.Rows.{Rowed}
use Rattle.watch_arena.specs.Filed.{AreFiled}
use Rattle.watch_arena.specs.Trail.{Marks, IsUnset}
use Rattle.watch_arena.specs.Walk.{lit_at, lits_at, past_of, IsTrueNoLater, AreRight, IsReasoned, IsReasonFor}
use Rattle.watch_arena.specs.Walk.{AddsReasons}

-- the number of variables, the most words, the words of the clauses behind one that stands for
-- none, the places of the clauses, and how many entries of rows were gone through
pub record Attached : Type 0 where
  pub vars : ℕ
  pub room : ℕ
  pub words : List ℕ
  pub places : List ℕ
  pub visits : ℕ

-- an arena seen so
abbrev pub attached_of : ℕ → ℕ → List ℕ → List ℕ → ℕ → Attached
attached_of vars room words places visits = record {
  vars = vars;
  room = room;
  words = words;
  places = places;
  visits =
      visits;
}

-- what each arena keeps: every watch has one entry in the row of its literal, and every row has place for all clauses
-- that have its literal
pub record IsArena (vars room : ℕ) (words places : List ℕ) (rows : Rowed) : Type 0 where
  pub vars_limit : vars ≤ VARS
  pub room_limit : room ≤ ROOM
  pub filed : AreFiled vars words places rows

-- the literals of the clause at a place, in their present order
abbrev pub attached_at : Attached → ℕ → List Literal
attached_at a p = lits_at a.words p

-- the clauses of the arena, in the order of the list of their places
abbrev pub attached_clauses : Attached → Clauses
attached_clauses a = map (lits_at a.words) a.places

-- a clause as each arena holds it
pub record IsAttachedClause (vars : ℕ) (clause : List Literal) (p : ℕ) : Type 0 where
  pub from : 1 ≤ p
  pub two : 2 ≤ length clause
  pub there : AreThere vars clause
  pub distinct : AreDistinct clause

-- each clause has two or more literals of distinct variables that are there
abbrev pub AreAttached : Attached → Type 0
AreAttached a = (p : ℕ) → Contains a.places p → IsAttachedClause a.vars (attached_at a p) p

-- no clause came or went, and none has other literals than before; their order may differ
pub record IsSameText (old new : Attached) : Type 0 where
  pub vars : new.vars ≡ old.vars
  pub room : new.room ≡ old.room
  pub words : length new.words ≡ length old.words
  pub places : new.places ≡ old.places
  pub lits : (p : ℕ) → Contains old.places p → SameLiterals (attached_at old p) (attached_at new p)

-- the first or second literal of a clause, which is watched
abbrev pub watch_at : Attached → ℕ → ℕ → Literal
watch_at a p i = lit_at a.words (p + 3 + i)

-- where a watch of a clause is false and propagated, a literal of the clause is true at no later level
pub record IsKept (m : Marks) (clause : List Literal) (a : Literal) : Type 0 where
  pub kept : IsIn (past_of m) (negate a) → (l : Literal) × Contains clause l × IsTrueNoLater m (negate a) l

-- the arena is watched on the trail: where one of the first two literals of a clause is false and propagated, a literal
-- of the clause is true at no later level
pub record AreWatched (a : Attached) (m : Marks) : Type 0 where
  pub first : (p : ℕ) → Contains a.places p → IsKept m (attached_at a p) (watch_at a p 0)
  pub second : (p : ℕ) → Contains a.places p → IsKept m (attached_at a p) (watch_at a p 1)

-- the trail is reasoned: each literal with a reason follows from it by literals in front, and each
-- level above 0 begins with its one literal without a reason
abbrev pub AreReasoned : Attached → Marks → Type 0
AreReasoned a m = IsReasoned m a.words a.places

-- each further literal of the new trail has a clause as reason, which made it true
abbrev pub AreBecause : Attached → Marks → Marks → Type 0
AreBecause a old new = AddsReasons old new a.words a.places

-- the clause at this place holds the literal, and all its others are false
pub record IsReasonOf (a : Attached) (m : Marks) (l : Literal) (p : ℕ) : Type 0 where
  pub from : 1 ≤ p
  pub unit : IsReasonFor a.words a.places m.lits l p

-- a literal may be set for this reason: a clause of which all other literals are false, or none where the
-- present level is 0
abbrev pub MayBeSet : Attached → Marks → Literal → Option ClauseRef → Type 0
MayBeSet a m l None = length m.cuts ≡ 0
MayBeSet a m l (Some c) = IsReasonOf a m l c.0

-- all literals of an attached clause are false
pub record IsClashOf (a : Attached) (m : Marks) (p : ℕ) : Type 0 where
  pub place : Contains a.places p
  pub all_false : All (λ k. IsIn (has m.lits) (negate k)) (attached_at a p)

-- neither of the two is false, so that they may be watched, proved by two_literals_may_be_watched
pub record AreOpen (m : Marks) (a b : Literal) : Type 0 where
  pub first : IsIn (has m.lits) (negate a) → ⊥
  pub second : IsIn (has m.lits) (negate b) → ⊥

-- the first is false, and the second true at no later level, so that they may be watched, proved by
-- two_literals_may_be_watched
pub record IsHeldBy (m : Marks) (a b : Literal) : Type 0 where
  pub first : IsIn (has m.lits) (negate a)
  pub second : IsIn (has m.lits) b
  pub level : slice_index m.levels b.var ≤ slice_index m.levels a.var

-- the first is unset, and the second false and of the present level, so that they may be watched as soon as
-- the first is set, proved by two_literals_may_be_watched
pub record IsAsserting (m : Marks) (a b : Literal) : Type 0 where
  pub first : IsUnset m.lits a
  pub second : IsIn (has m.lits) (negate b)
  pub level : slice_index m.levels b.var ≡ length m.cuts

-- the first two literals of a clause may be watched; on each trail on which that is so and the arena was
-- watched, `attach` leaves it watched, whenever the clause came
abbrev pub MayBeWatched : Marks → List Literal → Type 0
MayBeWatched m [] = ⊥
MayBeWatched m (k ∷ []) = ⊥
MayBeWatched m (k ∷ l ∷ lits) = AreRight m k l

-- what a clause that comes leaves as it was
pub record IsMoreText (old new : Attached) : Type 0 where
  pub vars : new.vars ≡ old.vars
  pub room : new.room ≡ old.room
  pub visits : new.visits ≡ old.visits
  pub lits : (p : ℕ) → Contains old.places p → attached_at new p ≡ attached_at old p

-- further variables are there
abbrev pub spread : Attached → ℕ → Attached
spread a n = record { vars = a.vars + n; room = a.room; words = a.words; places = a.places; visits = a.visits }
