-- Tables by clause and by literal, over which the literals are counted that aren't false.
-- No public clause names this.
use Rattle.std.specs.Prelude.{◌≡◌, ◌≤◌, ◌<◌, ◌⊎◌, ℕ, ◌+◌, ◌-◌, ◌*◌, Bool, false, cond, List, []}
use Rattle.std.specs.Prelude.{All, Contains, length, slice_index, slice_index_or, take}
use Rattle.std.specs.List.{count_by}
use Rattle.cnf_core.specs.Lit.{Literal, negate, word_of, has}
use Rattle.cnf_core.specs.Clause.{Clauses}
use Rattle.cnf_core.specs.Propagation.{LiteralSet, IsIn, Includes, IsUnit, HasReason, negations}
use Rattle.cnf_core.specs.Trail.{IsTrail}
use Rattle.cnf_core.specs.Times.{times}
use Rattle.refute_check.specs.declared.places.Rest.{Rest}
use Rattle.refute_check.specs.Entries.{Entries, entries, no_entries, with_entry, IsRest}
use Rattle.refute_check.specs.Entries.{is_short, shorts_from, places_from}

-- each count grew by how often its number stands in the list
abbrev pub CountedUp : List ℕ → List ℕ → List ℕ → Type 0
CountedUp ns old new = (n : ℕ) → slice_index new n ≡ slice_index old n + times ns n

-- the clause with this number is counted: it has neither two nor three literals
pub record IsCounted (clauses : Clauses) (n : ℕ) : Type 0 where
  pub within : n < length clauses
  pub not_short : is_short (slice_index_or clauses n []) ≡ false

-- from the counts of before one was taken for each time that a number is noted, and the numbers are of counted clauses
pub record AreNoted (clauses : Clauses) (noted counts before : List ℕ) : Type 0 where
  pub up : CountedUp noted counts before
  pub counted : All (IsCounted clauses) noted

-- whatever counts the first list, given back, leads to from the old counts, the second leads to from the new ones
abbrev pub NotesMore : Clauses → List ℕ → List ℕ → List ℕ → List ℕ → Type 0
NotesMore clauses noted counts more now = (before : List ℕ) → AreNoted clauses noted counts before
    → AreNoted clauses more now before

-- how many literals of the clause are false in the set
abbrev pub false_count : LiteralSet → List Literal → ℕ
false_count set c = count_by (λ k. set (negate k)) c

-- the count of each clause that isn't short is how many of its literals aren't false: with the false
-- ones, they are all
pub record AreCounts (clauses : Clauses) (set : LiteralSet) (counts : List ℕ) : Type 0 where
  pub size : length counts ≡ length clauses
  pub each : (n : ℕ) → n < length clauses → is_short (slice_index_or clauses n []) ≡ false → slice_index counts n
      + false_count set (slice_index_or clauses n []) ≡ length (slice_index_or clauses n [])

-- the set has each literal that is alone not false in done, and done falsifies the clause not
pub record IsQuiet (done set : LiteralSet) (c : List Literal) : Type 0 where
  pub closed : (l : Literal) → IsUnit done c l → IsIn set l
  pub unfalsified : All (λ k. IsIn done (negate k)) c → ⊥

-- a literal that is alone not false in the clause, and neither true
pub record IsUnsetUnit (set : LiteralSet) (c : List Literal) (l : Literal) : Type 0 where
  pub unit : IsUnit set c l
  pub not_true : set l ≡ false
  pub not_false : set (negate l) ≡ false

-- the lists of each literal have the clauses that have it
pub record AreOccurrences (vars : ℕ) (clauses : Clauses) (lists : List Entries) : Type 0 where
  pub size : length lists ≡ 2 * vars + 2
  pub each : (l : Literal) → word_of l < length lists → slice_index_or lists (word_of l) no_entries
      ≡ entries (shorts_from clauses l) (places_from 0 clauses l)

-- the literals that aren't false are counted for the front of the trail
pub record IsCountedTo (vars : ℕ) (clauses : Clauses) (truth : List Bool) (trail : List Literal) (counts : List ℕ)
    (front : ℕ) : Type 0 where
  pub table : IsTrail vars truth trail
  pub within : front ≤ length trail
  pub right : AreCounts clauses (has (take front trail)) counts

-- each clause was looked at with the front of the trail
abbrev pub AreQuiet : Clauses → List Literal → ℕ → Type 0
AreQuiet clauses trail front = All (IsQuiet (has (take front trail)) (has trail)) clauses

-- whatever part of the old trail is counted, the clause is quiet there, where at least so many of its literals aren't
-- false: if three of four are false there and the number is 1, the fourth is on the new trail
abbrev pub IsQuietNow : List Literal → ℕ → List Literal → List Literal → Type 0
IsQuietNow clause count old new = (done : LiteralSet) → Includes (has old) done → count + false_count done clause
    ≤ length clause → IsQuiet done (has new) clause

-- so are the clauses of these numbers, each by its count of before less the one that is taken now
abbrev pub AreQuietNow : Clauses → List ℕ → List ℕ → List Literal → List Literal → Type 0
AreQuietNow clauses numbers counts old new = All (λ n. IsQuietNow (slice_index_or clauses n [])
    (slice_index counts n - 1) old new) numbers

-- the same of each clause that has l and these two beside it, with no count
abbrev pub IsRestQuiet : Literal → List Literal → List Literal → Rest → Type 0
IsRestQuiet l old new rest = (clause : List Literal) → IsRest clause l rest → (done : LiteralSet)
    → Includes (has old) done → IsQuiet done (has new) clause

-- the new trail is the old one and negations of some of the literals behind it
pub record Assumes (lits old new : List Literal) : Type 0 where
  pub front : take (length old) new ≡ old
  pub longer : length old ≤ length new
  pub keeps : Includes (has new) (has old)
  pub only : (l : Literal) → IsIn (has new) l → IsIn (has old) l ⊎ IsIn (negations lits) l

-- one of the literals is on the trail
pub record HasTrueLiteral (lits trail : List Literal) : Type 0 where
  pub literal : Literal
  pub among : Contains lits literal
  pub true_now : IsIn (has trail) literal

-- a clause of this number stands behind the others in the lists of each of the literals
pub record Lists (lits : List Literal) (number : ℕ) (clause : List Literal) (old new : List Entries) : Type 0 where
  pub size : length new ≡ length old
  pub each : (l : Literal) → word_of l < length old → slice_index_or new (word_of l) no_entries
      ≡ cond (has lits l) (with_entry number clause l (slice_index_or old (word_of l) no_entries))
      (slice_index_or old (word_of l) no_entries)

-- each literal of the trail is the negation of one of these, or some clause makes it true
abbrev pub AreExplained : Clauses → List Literal → List Literal → Type 0
AreExplained clauses lits trail = (l : Literal) → IsIn (has trail) l → IsIn (negations lits) l
    ⊎ HasReason clauses (has trail) l
