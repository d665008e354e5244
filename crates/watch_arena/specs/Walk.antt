-- Looks at clauses, and what a walk of rows adds to a trail.
-- A walk goes through the row of a literal that became false. Where the entry's literal isn't true, the clause is
-- looked at: where the other watch isn't true and a further literal isn't false, that one changes places with the false
-- one, and its row gets the entry; where there is none, the other watch becomes true, or the clause is falsified.
use Rattle.std.specs.Prelude.{◌≡◌, ◌≢◌, ◌≤◌, ◌<◌, ◌⊎◌, ◌↔◌, take, ℕ, zero, suc, ◌+◌, ◌*◌, ◌/◌, Option, Some, None}
use Rattle.std.specs.Prelude.{List, [], ◌∷◌, ◌++◌, Contains, length, slice_index, slice_index_or}
use Rattle.cnf_core.specs.Lit.{Literal, negate, literal_at, has}
use Rattle.cnf_core.specs.Clause.{Clauses}
use Rattle.cnf_core.specs.Propagation.{LiteralSet, IsIn, IsUnit, Falsifies, IsClosure}
use Rattle.cnf_core.specs.Trail.{Grows}
use Rattle.watch_arena.specs.Words.{arena_word, lit_of, other_of}
use Rattle.watch_arena.specs.Trail.{IsUnset, Marks, IsLonger}
use Rattle.watch_arena.specs.declared.looks.Look.{Look}
use Rattle.watch_arena.specs.declared.looks.Look.TheVariants.{True, Move, Unit as Alone, Falsified}

abbrev pub lit_at : List ℕ → ℕ → Literal
lit_at ws i = literal_at (arena_word ws i)

-- the first n literals of the clause at a place, and all of them, in their present order
abbrev pub lits_upto : List ℕ → ℕ → ℕ → List Literal
lits_upto ws p zero = []
lits_upto ws p (suc n) = lits_upto ws p n ++ lit_at ws (p + 3 + n) ∷ []

abbrev pub lits_at : List ℕ → ℕ → List Literal
lits_at ws p = lits_upto ws p (arena_word ws p)

-- all literals of the clause behind its two watches are false
abbrev pub RestFalse : List ℕ → LiteralSet → ℕ → Type 0
RestFalse ws set p = (k : ℕ) → 2 ≤ k → k < arena_word ws p → IsIn set (negate (lit_at ws (p + 3 + k)))

-- the clause's literal at this place isn't false, and is no watch
pub record IsMove (ws : List ℕ) (set : LiteralSet) (p k : ℕ) : Type 0 where
  pub from : 2 ≤ k
  pub below : k < arena_word ws p
  pub open_ : IsIn set (negate (lit_at ws (p + 3 + k))) → ⊥

abbrev pub FindsMove : List ℕ → LiteralSet → ℕ → Option ℕ → Type 0
FindsMove ws set p (Some k) = IsMove ws set p k
FindsMove ws set p None = RestFalse ws set p

pub record IsAlone (ws : List ℕ) (lits : List Literal) (s : ℕ) (l : Literal) : Type 0 where
  pub is : l ≡ lit_at ws (other_of s)
  pub unset : IsUnset lits l
  pub rest : RestFalse ws (has lits) (s / 2)

pub record IsFalsified (ws : List ℕ) (set : LiteralSet) (s : ℕ) : Type 0 where
  pub other : IsIn set (negate (lit_at ws (other_of s)))
  pub rest : RestFalse ws set (s / 2)

-- the literal is that of the clause's other watch
abbrev pub IsOther : List ℕ → ℕ → Literal → Type 0
IsOther ws s l = l ≡ lit_at ws (other_of s)

abbrev pub IsLook : List ℕ → List Literal → ℕ → Look → Type 0
IsLook ws lits s (True l) = IsOther ws s l × IsIn (has lits) l
IsLook ws lits s (Move k l) = IsOther ws s l × IsMove ws (has lits) (s / 2) k
IsLook ws lits s (Alone l) = IsAlone ws lits s l
IsLook ws lits s Falsified = IsFalsified ws (has lits) s

-- the second literal is true, and was so at each time at which the first was, where a level began
pub record IsTrueNoLater (m : Marks) (f l : Literal) : Type 0 where
  pub now : IsIn (has m.lits) l
  pub back : (n : ℕ) → Contains m.cuts n → IsIn (has (take n m.lits)) f → IsIn (has (take n m.lits)) l

-- the clause at a place has this literal, wherever it stands
abbrev pub HasLit : List ℕ → ℕ → Literal → Type 0
HasLit ws p l = (k : ℕ) × (k < arena_word ws p) × (lit_at ws (p + 3 + k) ≡ l)

-- where a literal is false by those that are done, one of the clause is true at no later level
pub record IsQuiet (ws : List ℕ) (done : LiteralSet) (m : Marks) (p : ℕ) (a : Literal) : Type 0 where
  pub held : IsIn done (negate a) → (l : Literal) × HasLit ws p l × IsTrueNoLater m (negate a) l

-- each watch is quiet
abbrev pub AreGuarded : List ℕ → List ℕ → LiteralSet → Marks → Type 0
AreGuarded ws places done m = (s : ℕ) → Contains places (s / 2) → IsQuiet ws done m (s / 2) (lit_at ws (lit_of s))

-- the literals of the clause at a place, in any order
abbrev pub IsClauseAt : List ℕ → ℕ → List Literal → Type 0
IsClauseAt ws p c = (l : Literal) → Contains c l ↔ HasLit ws p l

-- the words hold these clauses and no others
pub record HoldsClauses (clauses : Clauses) (ws places : List ℕ) : Type 0 where
  pub held : (p : ℕ) → Contains places p → (c : List Literal) × Contains clauses c × IsClauseAt ws p c
  pub stored : (c : List Literal) → Contains clauses c → (p : ℕ) × Contains places p × IsClauseAt ws p c

-- each clause's literals are the same, in any order
abbrev pub KeepsClauses : List ℕ → List ℕ → List ℕ → Type 0
KeepsClauses places old new = (p : ℕ) (c : List Literal) → Contains places p → IsClauseAt old p c → IsClauseAt new p c

-- the clause at the place holds the literal, and its others were false before
pub record IsReasonFor (ws places : List ℕ) (before : List Literal) (l : Literal) (p : ℕ) : Type 0 where
  pub place : Contains places p
  pub unit : IsUnit (has before) (lits_at ws p) l

-- each literal with a reason stands behind the negations of the other literals of that clause; the
-- others begin a level, or are of level 0
pub record IsReasoned (m : Marks) (ws places : List ℕ) : Type 0 where
  pub reason : (i : ℕ) (l : Literal) → i < length m.lits → slice_index_or m.lits i l ≡ l →
      slice_index m.reasons l.var ≢ 0 → IsReasonFor ws places (take i m.lits) l (slice_index m.reasons l.var)
  pub decided : (i : ℕ) (l : Literal) → i < length m.lits → slice_index_or m.lits i l ≡ l → slice_index m.reasons l.var
      ≡ 0 → Contains m.cuts i ⊎ ((n : ℕ) → Contains m.cuts n → i < n)
  pub begins : (n : ℕ) (l : Literal) → Contains m.cuts n → slice_index_or m.lits n l ≡ l → slice_index m.reasons l.var
      ≡ 0

abbrev pub GrowsBy : List ℕ → List ℕ → List Literal → List Literal → Type 0
GrowsBy places ws old new = (clauses : Clauses) → HoldsClauses clauses ws places → Grows clauses old new

-- the literals that are propagated once the next one is
abbrev pub done_of : Marks → LiteralSet
done_of m = has (take (m.front + 1) m.lits)

-- the literals that were propagated
abbrev pub past_of : Marks → LiteralSet
past_of m = has (take m.front m.lits)

-- the reasons of the old trail's variables stay
abbrev pub KeepsReasons : Marks → Marks → Type 0
KeepsReasons old new = (i : ℕ) (d : Literal) → i < length old.lits →
    slice_index new.reasons (slice_index_or old.lits i d).var
    ≡ slice_index old.reasons (slice_index_or old.lits i d).var

-- the clause that the table has as reason of each further literal holds it, and its others were false
-- before
abbrev pub AddsReasons : Marks → Marks → List ℕ → List ℕ → Type 0
AddsReasons old new ws places = (i : ℕ) (d : Literal) → length old.lits ≤ i → i < length new.lits →
    IsReasonFor ws places (take i new.lits) (slice_index_or new.lits i d)
    (slice_index new.reasons (slice_index_or new.lits i d).var)

-- what a walk adds to the trail, and leaves of the words
pub record HasWalked (old new : Marks) (ws now places : List ℕ) : Type 0 where
  pub longer : IsLonger old new
  pub propagated : old.front ≤ new.front
  pub because : AddsReasons old new now places
  pub grows : GrowsBy places ws old.lits new.lits
  pub text : KeepsClauses places ws now
  pub reasoned : IsReasoned old ws places → IsReasoned new now places
  pub reasons : KeepsReasons old new

-- all literals of the clause at the place are false
abbrev pub AreFalse : List ℕ → LiteralSet → ℕ → Type 0
AreFalse ws set p = (k : ℕ) → k < arena_word ws p → IsIn set (negate (lit_at ws (p + 3 + k)))

-- the clauses' literals stand where they stood
pub record KeepsLits (places old new : List ℕ) : Type 0 where
  pub size : (p : ℕ) → Contains places p → arena_word new p ≡ arena_word old p
  pub lits : (p k : ℕ) → Contains places p → k < arena_word old p → arena_word new (p + 3 + k)
      ≡ arena_word old (p + 3 + k)

-- an attached clause all of whose literals are false
pub record IsClash (ws places : List ℕ) (set : LiteralSet) (p : ℕ) : Type 0 where
  pub place : Contains places p
  pub false_all : AreFalse ws set p

-- of whichever clauses the words hold, the new literals are the closure of the old ones
abbrev pub Closes : List ℕ → List ℕ → List Literal → List Literal → Type 0
Closes places ws old new = (clauses : Clauses) → HoldsClauses clauses ws places → IsClosure clauses (has old) (has new)

-- of whichever clauses the words hold, one is falsified by what follows
abbrev pub Clashes : List ℕ → List ℕ → List Literal → Type 0
Clashes places ws old = (clauses : Clauses) → HoldsClauses clauses ws places → Falsifies clauses (has old)

-- two literals may be watched: where one is false and propagated, the other one is true at no later
-- level. Where the first two of a clause may be, the arena stays watched when `attach` takes it
pub record AreRight (m : Marks) (a b : Literal) : Type 0 where
  pub first : IsIn (past_of m) (negate a) → IsTrueNoLater m (negate a) b
  pub second : IsIn (past_of m) (negate b) → IsTrueNoLater m (negate b) a
