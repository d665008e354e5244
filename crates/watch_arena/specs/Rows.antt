-- Rows: of each literal the clauses that it is a watch of.
-- All rows lie in one vector of entries. A row is known by where it begins, how many of its entries are of clauses of
-- two literals, which are in front, and how many it has. A space is known by for how many clauses the row was asked to
-- have place, for how many entries it has place, and how many clauses were ever expected.
use Rattle.std.specs.Prelude.{◌≡◌, ◌≢◌, ◌≤◌, ◌<◌, ◌⊎◌, ℕ, ◌+◌, ◌-◌, ◌^◌, true, List, [], ◌∷◌, ◌++◌, length, map}
use Rattle.std.specs.Prelude.{slice_index, slice_index_or, slice_set, take, drop, replicate}
use Rattle.cnf_core.specs.Lit.{Literal, literal}
use Rattle.watch_arena.specs.declared.rows.Entry.{Entry}
use Rattle.watch_arena.specs.declared.rows.Row.{Row}
use Rattle.watch_arena.specs.declared.rows.Space.{Space}

-- what a contract sees: by a literal's word its entries, how many in front are of clauses of two literals, and for how
-- many entries there is place
pub record Rowed : Type 0 where
  pub lists : List (List Entry)
  pub pairs : List ℕ
  pub rooms : List ℕ

-- what stands for no entry, no row and no space
abbrev pub no_entry : Entry
no_entry = record { other = literal 1 true; clause = record { 0 = 0 } }

abbrev pub no_row : Row
no_row = record { from = 0; pairs = 0; len = 0 }

abbrev pub no_space : Space
no_space = record { clauses = 0; size = 0; expected = 0 }

-- the entry at a place of a row, the row of a word, and the space of a word
abbrev pub entry_at : List Entry → ℕ → Entry
entry_at row i = slice_index_or row i no_entry

abbrev pub row_at : List Row → ℕ → Row
row_at rows w = slice_index_or rows w no_row

abbrev pub space_at : List Space → ℕ → Space
space_at spaces w = slice_index_or spaces w no_space

-- the entries of a row among those of all
abbrev pub entries_of : List Entry → Row → List Entry
entries_of entries r = take r.len (drop r.from entries)

-- rows seen so
abbrev pub rowed_of : List Row → List Space → List Entry → Rowed
rowed_of rows spaces entries = record {
  lists = map (entries_of entries) rows;
  pairs = map (λ (r : Row). r.pairs) rows;
  rooms = map (λ (s : Space). s.clauses) spaces;
}

-- a row has so many entries of clauses of two literals, and place for all entries
pub record IsRow (r : Row) (s : Space) (all : ℕ) : Type 0 where
  pub pairs : r.pairs ≤ r.len
  pub len : r.len ≤ s.clauses
  pub clauses : s.clauses ≤ s.size
  pub within : r.from + s.size ≤ all

-- what rows keep: all are within the entries, and apart
pub record AreRows (rows : List Row) (spaces : List Space) (entries : List Entry) : Type 0 where
  pub size : length spaces ≡ length rows
  pub limit : length entries < 2 ^ 32
  pub row : (w : ℕ) → w < length rows → IsRow (row_at rows w) (space_at spaces w) (length entries)
  pub apart : (v w : ℕ) → v < length rows → w < length rows → v ≢ w →
      ((row_at rows v).from + (space_at spaces v).size ≤ (row_at rows w).from)
      ⊎ ((row_at rows w).from + (space_at spaces w).size ≤ (row_at rows v).from)

-- the row of a word, how many of its entries are of clauses of two literals, and for how many there is place
abbrev pub row_of : Rowed → ℕ → List Entry
row_of r w = slice_index_or r.lists w []

abbrev pub pairs_of : Rowed → ℕ → ℕ
pairs_of r w = slice_index r.pairs w

abbrev pub room_of : Rowed → ℕ → ℕ
room_of r w = slice_index r.rooms w

-- rows of no literal
abbrev pub no_rows : Rowed
no_rows = record { lists = []; pairs = []; rooms = [] }

-- further literals have a row each, without entries and without place
abbrev pub more_rows : Rowed → ℕ → Rowed
more_rows r n = record {
  lists = r.lists ++ replicate n [];
  pairs = r.pairs ++ replicate n 0;
  rooms = r.rooms ++ replicate n 0;
}

-- the row of a word has place for one entry more
abbrev pub with_room : Rowed → ℕ → Rowed
with_room r w = record { lists = r.lists; pairs = r.pairs; rooms = slice_set r.rooms w (room_of r w + 1) }

-- the row of a word is another list
abbrev pub with_row : Rowed → ℕ → List Entry → Rowed
with_row r w row = record { lists = slice_set r.lists w row; pairs = r.pairs; rooms = r.rooms }

-- an entry comes to the end of the row of a word
abbrev pub pushed : Rowed → ℕ → Entry → Rowed
pushed r w e = with_row r w (row_of r w ++ e ∷ [])

-- the entry of a clause of two literals comes in front of those of longer ones, the first of which goes to the end
abbrev pub fronted : List Entry → ℕ → Entry → List Entry
fronted row n e = slice_set (row ++ slice_index_or row n e ∷ []) n e

abbrev pub paired : Rowed → ℕ → Entry → Rowed
paired r w e = record {
  lists = slice_set r.lists w (fronted (row_of r w) (pairs_of r w) e);
  pairs = slice_set r.pairs w (pairs_of r w + 1);
  rooms = r.rooms;
}

-- an entry is gone, and the last one stands in its place
abbrev pub without : List Entry → ℕ → List Entry
without row i = take (length row - 1) (slice_set row i (entry_at row (length row - 1)))

-- an entry has another literal of its clause
abbrev pub with_other : List Entry → ℕ → Literal → List Entry
with_other row i l = slice_set row i (record { other = l; clause = (entry_at row i).clause })

-- rows have place for more entries, and no other ones
pub record IsRoomier (old new : Rowed) : Type 0 where
  pub lists : new.lists ≡ old.lists
  pub pairs : new.pairs ≡ old.pairs
  pub rooms : (w : ℕ) → room_of old w ≤ room_of new w
