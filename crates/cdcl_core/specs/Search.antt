-- The state of a search.
use Rattle.std.specs.Prelude.{◌≡◌, ◌≢◌, ◌≤◌, ◌<◌, ◌⊎◌, ℕ, ◌+◌, slice_index, slice_index_or, Bool, true, false, Option}
use Rattle.std.specs.Prelude.{None, List, [], ◌∷◌, ◌++◌, All, Contains, length}
use Rattle.cnf_core.specs.declared.limits.TheConstants.{ROOM}
use Rattle.cnf_core.specs.Lit.{Literal, literal, negate, has}
use Rattle.cnf_core.specs.Clause.{Clauses, words_of, IsThere, AreThere, AreDistinct}
use Rattle.cnf_core.specs.Propagation.{IsIn, Rup}
use Rattle.watch_arena.specs.Trail.{Marks, IsUnset}
use Rattle.watch_arena.specs.Arena.{Attached, attached_clauses, IsClashOf, AreOpen}
use Rattle.cdcl_learn.specs.Sight.{Sight, sight, level_of}
use Rattle.cdcl_learn.specs.Levels.{IsStable, HasClosedLevels}
use Rattle.cdcl_learn.specs.Cut.{IsLearntOf}
use Rattle.cdcl_learn.specs.Analysis.{IsImpliedFalse}
use Rattle.cdcl_core.specs.declared.search.Search.{Search}
use Rattle.cdcl_core.specs.declared.choices.Stop.{Stop}
use Rattle.cdcl_core.specs.declared.choices.Stop.TheVariants.{Clash, Denied, Complete}
use Rattle.cdcl_core.specs.declared.answer.Answer.{Answer}
use Rattle.cdcl_core.specs.declared.answer.Answer.TheVariants.{Model, Refuted, Spent, Room}
use Rattle.cdcl_core.specs.Kept.{Kept, AreSameClauses, IsDeduced, IsOpenQuery, IsFull}
use Rattle.cdcl_core.specs.Roots.{all_of, IsSolving, AreOffered, IsAssuming}

abbrev pub clauses : Search → Clauses
clauses s = all_of s.arena s.own.items

abbrev pub sight_of : Search → Sight
sight_of s = sight s.arena s.trail

-- the parts have tables of one size, and the words are those of the arena and of the own list
pub record AreFitted (room vars heap analyser phases arena_room arena_words own_words words : ℕ) : Type 0 where
  pub room_limit : room ≤ ROOM
  pub heap_size : heap ≡ vars
  pub analyser_size : analyser ≡ vars
  pub phases_size : phases ≡ vars + 1
  pub arena_limit : arena_room ≡ room
  pub sum : arena_words + own_words ≡ words + 1
  pub within : words ≤ room

-- the parts of a search have tables of one size, and its words are those of the arena and of the own list
abbrev pub IsFitted : Search → Type 0
IsFitted s = AreFitted s.room s.trail.vars s.heap.vars s.analyser.vars (length s.phases.items) s.arena.room
    (length s.arena.words) (words_of s.own.items) s.words

-- what the state of a search keeps: tables of one size, an arena that is watched and a trail that is
-- reasoned, and each unset variable may be decided
pub record IsSearch (s : Search) : Type 0 where
  pub fitted : IsFitted s
  pub solving : IsSolving s.arena s.trail s.own.items s.refuted
  pub offered : AreOffered s.heap s.trail

-- between two calls nothing above level 0 is set
pub record IsIdle (s : Search) : Type 0 where
  pub search : IsSearch s
  pub level : s.trail.cuts ≡ []

-- what each solver keeps: as long as no call has failed, its search is idle (`IsIdle`)
abbrev pub IsSolver : Search → Bool → Type 0
IsSolver s failed = failed ≡ false → IsIdle s

-- what contracts see of a solver
abbrev pub kept_of : Search → Option (List Bool) → List Literal → Bool → Kept
kept_of s model refuted failed = record {
  room = s.room;
  vars = s.trail.vars;
  clauses = clauses s;
  words = s.words;
  learnt = s.learnt;
  visits = s.arena.visits;
  model = model;
  refuted = refuted;
  failed = failed;
}

abbrev pub seen : Search → Kept
seen s = kept_of s None [] false

-- the assumptions that were made so far
abbrev pub IsAsking : List Literal → Search → Type 0
IsAsking query s = IsAssuming query (sight_of s) s.levels s.assumed

-- a clause came
pub record IsKeptOne (old new : Search) (c : List Literal) : Type 0 where
  pub clauses : AreSameClauses (clauses old ++ c ∷ []) (clauses new)
  pub words : new.words ≡ old.words + length c + 3
  pub room : new.room ≡ old.room
  pub vars : new.trail.vars ≡ old.trail.vars
  pub visits : new.arena.visits ≡ old.arena.visits

-- all literals of the clause are false
abbrev pub IsFalseClause : Marks → List Literal → Type 0
IsFalseClause m c = All (λ k. IsIn (has m.lits) (negate k)) c

-- two literals changed places
pub record IsExchanged (old new : List Literal) (a b : ℕ) : Type 0 where
  pub size : length new ≡ length old
  pub first : (d : Literal) → slice_index_or new a d ≡ slice_index_or old b d
  pub second : (d : Literal) → slice_index_or new b d ≡ slice_index_or old a d
  pub others : (i : ℕ) (d : Literal) → i ≢ a → i ≢ b → slice_index_or new i d ≡ slice_index_or old i d

abbrev pub IsFalse : Marks → Literal → Type 0
IsFalse m l = IsIn (has m.lits) (negate l)

-- the first so many literals aren't false; where they are fewer than two, all others are
pub record IsFronted (m : Marks) (c : List Literal) (open_ : ℕ) : Type 0 where
  pub few : open_ ≤ 2
  pub some : open_ ≤ length c
  pub front : (i : ℕ) (d : Literal) → i < open_ → IsFalse m (slice_index_or c i d) → ⊥
  pub others : (i : ℕ) (d : Literal) → open_ < 2 → open_ ≤ i → i < length c → IsFalse m (slice_index_or c i d)

-- the clause makes no literal true: its first literal is true, or its first two aren't false
abbrev pub IsSilent : Marks → List Literal → Type 0
IsSilent m [] = ⊥
IsSilent m (l ∷ []) = IsIn (has m.lits) l
IsSilent m (k ∷ l ∷ ls) = IsIn (has m.lits) k ⊎ AreOpen m k l

-- no clause came, though the order of literals in a clause may be another
pub record IsSameStore (old new : Search) : Type 0 where
  pub clauses : AreSameClauses (clauses old) (clauses new)
  pub room : new.room ≡ old.room
  pub words : new.words ≡ old.words
  pub learnt : new.learnt ≡ old.learnt
  pub refuted : new.refuted ≡ old.refuted
  pub vars : new.trail.vars ≡ old.trail.vars
  pub visits : old.arena.visits ≤ new.arena.visits

-- an assumption that is false, though its variable wasn't decided
pub record IsDenied (query : List Literal) (s : Search) (l : Literal) : Type 0 where
  pub among : Contains query l
  pub low : length s.trail.cuts ≤ s.levels
  pub implied : IsImpliedFalse s.arena s.trail l

-- all variables are set, the assumptions true, and no clause is falsified
pub record IsComplete (query : List Literal) (s : Search) : Type 0 where
  pub total : (l : Literal) → IsThere s.trail.vars l → IsUnset s.trail.lits l → ⊥
  pub quiet : IsStable (clauses s) (has s.trail.lits)
  pub assumed : (l : Literal) → Contains query l → IsIn (has s.trail.lits) l

abbrev pub IsStop : List Literal → Search → Stop → Type 0
IsStop query s (Clash c) = IsClashOf s.arena s.trail c.0
IsStop query s (Denied l) = IsDenied query s l
IsStop query s Complete = IsComplete query s

-- a clause of negated assumptions follows
pub record IsRefuting (clauses : Clauses) (query c : List Literal) : Type 0 where
  pub follows : Rup clauses c
  pub answers : All (λ l. Contains query (negate l)) c

-- the clause may be learnt: its first literal is unset and the others are false, the second one of the
-- present level; alone it comes at level 0
pub record IsAsserted (a : Attached) (m : Marks) (first : Literal) (rest : List Literal) : Type 0 where
  pub unset : IsUnset m.lits first
  pub others : All (λ k. IsIn (has m.lits) (negate k)) rest
  pub there : AreThere m.vars (first ∷ rest)
  pub distinct : AreDistinct (first ∷ rest)
  pub second : (l : Literal) (ls : List Literal) → rest ≡ l ∷ ls → level_of (sight a m) l ≡ length m.cuts
  pub alone : rest ≡ [] → length m.cuts ≡ 0
  pub levels : HasClosedLevels (sight a m) (attached_clauses a ++ (first ∷ rest) ∷ [])

abbrev pub IsAssertedClause : Attached → Marks → List Literal → Type 0
IsAssertedClause a m [] = ⊥
IsAssertedClause a m (first ∷ rest) = IsAsserted a m first rest

-- the analyser's clause, made of a conflict above level 0: it is deduced from all clauses, and fits
pub record IsLearntFrom (s : Search) (c : List Literal) : Type 0 where
  pub deduced : IsDeduced (clauses s) c
  pub fits : s.words + length c + 3 ≤ s.room
  pub learnt : IsLearntOf (sight_of s) c s.analyser.back

-- the negations of the decided literals
pub record AreDenied (m : Marks) (c : List Literal) : Type 0 where
  pub all : (k : Literal) → IsIn (has m.lits) k → slice_index m.reasons k.var ≡ 0 → 0 < slice_index m.levels k.var →
      Contains c (negate k)
  pub falsified : All (IsFalse m) c
  pub decided : All (λ k. slice_index m.reasons k.var ≡ 0) c
  pub above : All (λ k. 0 < slice_index m.levels k.var) c

-- the negations of the decided literals among the first so many
pub record IsDeniedAt (m : Marks) (i : ℕ) (k : Literal) : Type 0 where
  pub place : ℕ
  pub below : place < i
  pub within : place < length m.lits
  pub is : slice_index_or m.lits place (literal 0 true) ≡ negate k
  pub decided : slice_index m.reasons k.var ≡ 0
  pub above : 0 < slice_index m.levels k.var

pub record DeniedUpto (m : Marks) (i : ℕ) (c : List Literal) : Type 0 where
  pub all : (j : ℕ) → j < i → j < length m.lits → slice_index m.reasons (slice_index_or m.lits j (literal 0 true)).var
      ≡ 0 → 0 < slice_index m.levels (slice_index_or m.lits j (literal 0 true)).var →
      Contains c (negate (slice_index_or m.lits j (literal 0 true)))
  pub each : (k : Literal) → Contains c k → IsDeniedAt m i k
  pub distinct : AreDistinct c

-- only the analyser's clause is another one
pub record IsAnalysed (old new : Search) : Type 0 where
  pub arena : new.arena ≡ old.arena
  pub trail : new.trail ≡ old.trail
  pub own : new.own.items ≡ old.own.items
  pub numbers : (new.room ≡ old.room) × (new.words ≡ old.words) × (new.learnt ≡ old.learnt)
  pub flags : (new.refuted ≡ old.refuted) × (new.levels ≡ old.levels) × (new.assumed ≡ old.assumed)

-- a search stopped where the query has no model
abbrev pub IsRefutedBy : List Literal → Search → Stop → Type 0
IsRefutedBy query s (Clash c) = IsClashOf s.arena s.trail c.0 × (length s.trail.cuts ≤ s.levels)
IsRefutedBy query s (Denied l) = IsDenied query s l
IsRefutedBy query s Complete = ⊥

-- what a search that ended says of its clauses; the analyser has the negations of the refuted assumptions
abbrev pub IsSearchAnswer : Answer → List Literal → Search → Type 0
IsSearchAnswer Model query s = IsComplete query s
IsSearchAnswer Refuted query s = IsRefuting (clauses s) query s.analyser.clause
IsSearchAnswer Spent query s = IsOpenQuery (clauses s) query
IsSearchAnswer Room query s = IsFull s.room s.words (clauses s)
