-- Clauses in rows: each watch of each clause has one entry in the row of its literal.
-- Of the clauses (1 2) at place 1 and (-2 3 4) at place 6 the row of 1 has the entry (2, 1), that of 2 has (1, 1), that
-- of -2 has one of (3, 6) and (4, 6), and that of 3 one of (-2, 6) and (4, 6). Where 2 becomes false, 1 is made true by
-- the entry alone. Where 3 becomes false and 4 isn't, 4 is watched in its place, and 4's row has the entry (-2, 6).
use Rattle.std.specs.Prelude.{◌≡◌, ◌≢◌, ◌≤◌, ◌<◌, ◌⊎◌, ℕ, ◌+◌, ◌*◌, ◌/◌, nat_eq, List, [], Contains, length}
use Rattle.std.specs.Prelude.{slice_index_or}
use Rattle.std.specs.List.{count_by}
use Rattle.cnf_core.specs.Lit.{Literal, literal_at, has}
use Rattle.cnf_core.specs.Propagation.{LiteralSet}
use Rattle.watch_arena.specs.declared.rows.Entry.{Entry}
use Rattle.watch_arena.specs.Rows.{Rowed, entry_at, row_of, pairs_of, room_of}
use Rattle.watch_arena.specs.Words.{arena_word, lit_of, IsStore}
use Rattle.watch_arena.specs.Trail.{Marks}
use Rattle.watch_arena.specs.Walk.{lits_at, HasLit, IsQuiet}

-- the place of the clause of an entry
abbrev pub place_at : List Entry → ℕ → ℕ
place_at row k = (entry_at row k).clause.0

-- how many entries of a row are of the clause at this place
abbrev pub entries_for : List Entry → ℕ → ℕ
entries_for row p = count_by (λ (e : Entry). nat_eq e.clause.0 p) row

-- by a literal's word its entries
abbrev pub list_at : List (List Entry) → ℕ → List Entry
list_at lists w = slice_index_or lists w []

-- a watch isn't one of those from one up to another, which have no entries for now
abbrev pub IsEntered : ℕ → ℕ → ℕ → Type 0
IsEntered from to s = (s < from) ⊎ (to ≤ s)

-- the entry is that of a watch that has this word, and the entry's other literal stands in the watch's clause
pub record IsEntry (ws places : List ℕ) (from to word : ℕ) (e : Entry) : Type 0 where
  pub watch : ℕ
  pub clause : e.clause.0 ≡ watch / 2
  pub place : Contains places (watch / 2)
  pub lit : arena_word ws (lit_of watch) ≡ word
  pub entered : IsEntered from to watch
  pub other : HasLit ws (watch / 2) e.other

-- each entry is one of a watch, and each watch but for some has one in the row of its literal
pub record HasRows (ws places : List ℕ) (lists : List (List Entry)) (from to : ℕ) : Type 0 where
  pub right : (w k : ℕ) → w < length lists → k < length (list_at lists w) →
      IsEntry ws places from to w (entry_at (list_at lists w) k)
  pub once : (s : ℕ) → Contains places (s / 2) → IsEntered from to s →
      entries_for (list_at lists (arena_word ws (lit_of s))) (s / 2) ≡ 1

-- the entry is of a clause of two literals, and has the one that isn't this word's
pub record IsPair (ws : List ℕ) (word : ℕ) (e : Entry) : Type 0 where
  pub two : arena_word ws e.clause.0 ≡ 2
  pub other : e.other ≢ literal_at word

-- the entries in front of a row are of clauses of two literals
pub record HasPairs (ws : List ℕ) (rows : Rowed) : Type 0 where
  pub within : (w : ℕ) → pairs_of rows w ≤ length (row_of rows w)
  pub pair : (w k : ℕ) → w < length rows.lists → k < pairs_of rows w → IsPair ws w (entry_at (row_of rows w) k)

-- how many clauses have the literal of a word
abbrev pub clauses_with : List ℕ → List ℕ → ℕ → ℕ
clauses_with ws places w = count_by (λ p. has (lits_at ws p) (literal_at w)) places

-- each row has place for all clauses that have its literal
pub record HasPlace (ws places : List ℕ) (rows : Rowed) : Type 0 where
  pub place : (w : ℕ) → w < length rows.lists → clauses_with ws places w ≤ room_of rows w

-- the clauses stand apart in the words, and each of their watches in the row of its literal
pub record AreFiled (vars : ℕ) (ws places : List ℕ) (rows : Rowed) : Type 0 where
  pub some : 1 ≤ length ws
  pub store : IsStore vars ws places
  pub size : length rows.lists ≡ 2 * vars + 2
  pub entered : HasRows ws places rows.lists 0 0
  pub pairs : HasPairs ws rows
  pub place : HasPlace ws places rows

-- the same, but that the watches of the last clause from one on have no entries yet
pub record IsEntering (vars : ℕ) (ws places : List ℕ) (rows : Rowed) (p from : ℕ) : Type 0 where
  pub some : 1 ≤ length ws
  pub store : IsStore vars ws places
  pub size : length rows.lists ≡ 2 * vars + 2
  pub entered : HasRows ws places rows.lists from (2 * p + 2)
  pub pairs : HasPairs ws rows
  pub room : HasPlace ws places rows
  pub place : Contains places p

-- each entry's clause is quiet: where the row's literal is false by those that are done, a literal of the clause is
-- true at no later level
pub record IsWatched (m : Marks) (ws places : List ℕ) (rows : Rowed) (done : LiteralSet) : Type 0 where
  pub filed : AreFiled m.vars ws places rows
  pub quiet : (v k : ℕ) → v < length rows.lists → k < length (row_of rows v) →
      IsQuiet ws done m (place_at (row_of rows v) k) (literal_at v)

-- the entries of a row from one place up to another are still to be looked at, and all others are quiet
pub record IsWalking (m : Marks) (ws places : List ℕ) (rows : Rowed) (done : LiteralSet) (w from to : ℕ) : Type 0 where
  pub filed : AreFiled m.vars ws places rows
  pub row : w < length rows.lists
  pub within : to ≤ length (row_of rows w)
  pub quiet : (v k : ℕ) → v < length rows.lists → k < length (row_of rows v) → (v ≢ w) ⊎ ((k < from) ⊎ (to ≤ k)) →
      IsQuiet ws done m (place_at (row_of rows v) k) (literal_at v)
