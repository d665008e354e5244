-- Clauses by number beside an arena that propagates over them, and what was found on a trail.
use Rattle.std.specs.Prelude.{◌≡◌, ◌≤◌, ◌<◌, ◌⊎◌, ℕ, ◌+◌, Bool, true, false, Option, List, [], All, Any, Contains}
use Rattle.std.specs.Prelude.{MatchOption, length, map, reverse, slice_index, slice_index_or, take, ◌∷◌}
use Rattle.cnf_core.specs.declared.limits.TheConstants.{VARS}
use Rattle.cnf_core.specs.Lit.{Literal, negate, positive_of, negative_of, has}
use Rattle.cnf_core.specs.Clause.{Clauses, AreThere, AreDistinct}
use Rattle.cnf_core.specs.Propagation.{LiteralSet, IsIn, Includes, IsClosed, Falsified, Rup, negations}
use Rattle.watch_arena.specs.Trail.{Marks}
use Rattle.watch_arena.specs.Walk.{IsReasonFor}
use Rattle.watch_arena.specs.Arena.{Attached, AreWatched, attached_at}
use Rattle.refute_check.specs.Kept.{IsKnownClause}
use Rattle.hint_log.specs.Hint.{numbered, NamesClause, Shows, IsGoodHint}
use Rattle.log_trim.specs.Trimmed.{IsInNamed, AreLean}
use Rattle.log_trim.specs.declared.finder.Finder.{Finder}

-- two further variables are assumed to be true; a short clause has their negations besides, so that
-- each clause has two literals
pub record IsPadded (vars : ℕ) (c d : List Literal) : Type 0 where
  pub whole : (k : Literal) → Contains c k → Contains d k
  pub only : (k : Literal) → Contains d k → Contains c k ⊎ ((k ≡ negative_of (vars + 1)) ⊎ (k ≡ negative_of (vars + 2)))

-- the number of the clause at a place of the arena
abbrev pub number_of_place : List ℕ → ℕ → ℕ
number_of_place numbers p = slice_index numbers p

-- the clause at a place of the arena is one of those that were taken, and has this number among all
pub record IsNumberedPlace (vars : ℕ) (all taken : Clauses) (a : Attached) (numbers : List ℕ) (p : ℕ) : Type 0 where
  pub from : 1 ≤ p
  pub valid : NamesClause all (number_of_place numbers p)
  pub among : Contains taken (numbered all (number_of_place numbers p))
  pub padded : IsPadded vars (numbered all (number_of_place numbers p)) (attached_at a p)

-- c has this number among all; d is c, with negations of the further variables where c is short
pub record IsNumberedClause (vars : ℕ) (all : Clauses) (n : ℕ) (c d : List Literal) : Type 0 where
  pub valid : NamesClause all n
  pub is : numbered all n ≡ c
  pub padded : IsPadded vars c d
  pub there : AreThere vars c
  pub distinct : AreDistinct c

-- a clause stands in the arena
pub record StandsInArena (vars : ℕ) (a : Attached) (c : List Literal) : Type 0 where
  pub place : ℕ
  pub among : Contains a.places place
  pub padded : IsPadded vars c (attached_at a place)
  pub there : AreThere vars c
  pub distinct : AreDistinct c

-- the arena has the clauses that were taken, and each has a number among all
pub record AreClauses (vars : ℕ) (all taken : Clauses) (a : Attached) (numbers : List ℕ) : Type 0 where
  pub vars_are : a.vars ≡ vars + 2
  pub limit : vars + 2 ≤ VARS
  pub known : (p : ℕ) → Contains a.places p → IsNumberedPlace vars all taken a numbers p
  pub held : (c : List Literal) → Contains taken c → StandsInArena vars a c

-- what is assumed: the two further variables, and that the literals of a clause are false
abbrev pub assumed : ℕ → List Literal → List Literal
assumed vars lits = positive_of (vars + 1) ∷ positive_of (vars + 2) ∷ map negate lits

-- a literal at a place of the trail has the clause of its reason, whose other literals were false before, or it
-- has no reason and is one of these
abbrev pub HasReasonAt : Attached → Marks → List Literal → ℕ → Literal → Type 0
HasReasonAt a m given i l = IsReasonFor a.words a.places (take i m.lits) l (slice_index m.reasons l.var)
    ⊎ ((slice_index m.reasons l.var ≡ 0) × IsIn (has given) l)

abbrev pub HaveReasons : Attached → Marks → List Literal → Type 0
HaveReasons a m given = (i : ℕ) (d : Literal) → i < length m.lits → HasReasonAt a m given i (slice_index_or m.lits i d)

-- the variables of these literals have no reason
abbrev pub HaveNoReason : Marks → List Literal → Type 0
HaveNoReason m ls = (k : Literal) → IsIn (has ls) k → slice_index m.reasons k.var ≡ 0

-- no literal is on the trail
pub record IsEmptyTrail (m : Marks) : Type 0 where
  pub lits : m.lits ≡ []
  pub cuts : m.cuts ≡ []
  pub front : m.front ≡ 0

-- one level has the two further variables and what follows, and all of it is propagated
pub record IsOpenTrail (a : Attached) (vars : ℕ) (m : Marks) : Type 0 where
  pub cuts : m.cuts ≡ 0 ∷ []
  pub front : m.front ≡ length m.lits
  pub further : Includes (has m.lits) (has (assumed vars []))
  pub reasons : HaveReasons a m (assumed vars [])

-- the trail between two calls
pub record IsAtRest (a : Attached) (vars : ℕ) (m : Marks) : Type 0 where
  pub all_vars : m.vars ≡ a.vars
  pub watched : AreWatched a m
  pub state : IsEmptyTrail m ⊎ IsOpenTrail a vars m

-- there are two levels, and the first has the two further variables, and none of the negations of a clause's literals
pub record HasTwoLevels (vars : ℕ) (lits : List Literal) (m : Marks) : Type 0 where
  pub start : ℕ
  pub cuts : m.cuts ≡ 0 ∷ start ∷ []
  pub within : start ≤ length m.lits
  pub front : start ≤ m.front
  pub further : Includes (has (take start m.lits)) (has (assumed vars []))
  pub apart : (k : Literal) → IsIn (has (take start m.lits)) k → IsIn (has (map negate lits)) k → ⊥

-- the trail while it is assumed that the literals of a clause are false
pub record IsDenying (a : Attached) (vars : ℕ) (lits : List Literal) (m : Marks) : Type 0 where
  pub all_vars : m.vars ≡ a.vars
  pub watched : AreWatched a m
  pub whole : Includes (has m.lits) (has (assumed vars lits))
  pub reasons : HaveReasons a m (assumed vars lits)
  pub bare : HaveNoReason m (map negate lits)
  pub levels : (m.cuts ≡ 0 ∷ []) ⊎ HasTwoLevels vars lits m

abbrev pub is_needed : List Bool → ℕ → Bool
is_needed needed x = slice_index_or needed x false

abbrev pub NoneNeeded : List Bool → Type 0
NoneNeeded needed = (x : ℕ) → is_needed needed x ≡ false

-- clauses were taken, and hints name clauses by their numbers among all, which may have some that come later
pub record IsFinder (all taken : Clauses) (f : Finder) : Type 0 where
  pub clauses : AreClauses f.vars all taken f.arena f.numbers.items
  pub idle : IsAtRest f.arena f.vars f.trail
  pub size : length f.needed.items ≡ f.vars + 1
  pub unneeded : NoneNeeded f.needed.items

-- clauses were taken, and it is assumed that the literals of a clause are false
pub record IsSupposing (all taken : Clauses) (lits : List Literal) (f : Finder) : Type 0 where
  pub clauses : AreClauses f.vars all taken f.arena f.numbers.items
  pub denying : IsDenying f.arena f.vars lits f.trail
  pub size : length f.needed.items ≡ f.vars + 1
  pub unneeded : NoneNeeded f.needed.items

-- propagation of the negations of a clause's literals has come to its end without a false clause: the set is closed,
-- has them, and falsifies none
pub record IsUnfalsifiedEnd (clauses : Clauses) (lits : List Literal) (set : LiteralSet) : Type 0 where
  pub closed : IsClosed clauses set
  pub includes : Includes set (negations lits)
  pub unfalsified : Falsified clauses set → ⊥

-- the hints show the clause, and are lean
pub record IsLeanHint (clauses : Clauses) (c : List Literal) (hints : List ℕ) : Type 0 where
  pub good : IsGoodHint clauses c hints
  pub lean : AreLean clauses (map negate c) hints

-- the hints show the clause, which follows; or there are none, and it doesn't follow
abbrev pub ShowsOrNone : (all taken : Clauses) → List Literal → Option (List ℕ) → Type 0
ShowsOrNone all taken c found = MatchOption found (Rup taken c → ⊥) (λ hints. Rup taken c × IsLeanHint all c hints)

-- the hints show the clause, which follows and isn't known yet; or there are none, and if it follows it is known
abbrev pub ShowsNewOrNone : (all taken : Clauses) → List Literal → Option (List ℕ) → Type 0
ShowsNewOrNone all taken c found = MatchOption found (Rup taken c → IsKnownClause taken c)
    (λ hints. Rup taken c × (IsKnownClause taken c → ⊥) × IsLeanHint all c hints)

-- the set has the literals of the front of the trail whose variables are needed
abbrev pub HasNeeded : List Literal → ℕ → List Bool → List Literal → Type 0
HasNeeded trail i needed set = (j : ℕ) (d : Literal) → j < i → is_needed needed (slice_index_or trail j d).var ≡ true →
    IsIn (has set) (slice_index_or trail j d)

-- the set has the literals of the trail without a reason, but for those of further variables
abbrev pub HasAssumed : ℕ → Marks → List Literal → Type 0
HasAssumed vars m set = (j : ℕ) (d : Literal) → j < length m.lits
    → slice_index m.reasons (slice_index_or m.lits j d).var ≡ 0 → (slice_index_or m.lits j d).var ≤ vars
    → IsIn (has set) (slice_index_or m.lits j d)

-- whatever set has only literals of the trail, those without a reason, and the needed ones of the front of the
-- trail, from there the hints, last one first, show what they have to
abbrev pub ShowsFromFront : Clauses → ℕ → Marks → ℕ → List Bool → List ℕ → Type 0
ShowsFromFront clauses vars m i needed hints = (set : List Literal) → Includes (has m.lits) (has set) →
    HasAssumed vars m set → HasNeeded m.lits i needed set → Shows clauses set (reverse hints)

-- each literal of the set is on the front of the trail, or has no reason
abbrev pub IsBefore : Marks → ℕ → List Literal → Type 0
IsBefore m i set = (k : Literal) → IsIn (has set) k → IsIn (has (take i m.lits)) k ⊎ (slice_index m.reasons k.var ≡ 0)

-- the negation of each needed literal of the front of the trail stands in a clause that a hint names
abbrev pub AreNeededByHints : Clauses → List Literal → ℕ → List Bool → List ℕ → Type 0
AreNeededByHints clauses trail i needed hints = (j : ℕ) (d : Literal) → j < i →
    is_needed needed (slice_index_or trail j d).var ≡ true →
    IsInNamed clauses (negate (slice_index_or trail j d)) (reverse hints)

-- whatever such set has no later literal of the trail with a reason, from there the hints are lean
abbrev pub AreLeanFromFront : Clauses → ℕ → Marks → ℕ → List Bool → List ℕ → Type 0
AreLeanFromFront clauses vars m i needed hints = (set : List Literal) → Includes (has m.lits) (has set) →
    HasAssumed vars m set → HasNeeded m.lits i needed set → IsBefore m i set → AreLean clauses set (reverse hints)

pub record IsFoundFromFront (clauses : Clauses) (vars : ℕ) (m : Marks) (i : ℕ) (needed : List Bool) (hints : List ℕ) :
    Type 0 where
  pub shows : ShowsFromFront clauses vars m i needed hints
  pub named : AreNeededByHints clauses m.lits i needed hints
  pub lean : AreLeanFromFront clauses vars m i needed hints

-- where the later hints are found from the next place of the trail on, so are these from this place on, with what is
-- needed then
abbrev pub GoOn : (vars : ℕ) (all : Clauses) → Marks → ℕ → (old new : List Bool) → (before after : List ℕ) → Type 0
GoOn vars all m i old new before after = length old ≡ vars + 1 → IsFoundFromFront all vars m (i + 1) old before →
    IsFoundFromFront all vars m i new after

-- the variable is that of one of the literals
abbrev pub HasVar : List Literal → ℕ → Type 0
HasVar lits x = Any (λ k. k.var ≡ x) lits

abbrev pub AreOnTrail : List Bool → List Literal → Type 0
AreOnTrail needed trail = (x : ℕ) → is_needed needed x ≡ true → HasVar trail x

-- further variables are needed, those of these literals that the table has
pub record NeedsWithin (lits : List Literal) (old new : List Bool) : Type 0 where
  pub size : length new ≡ length old
  pub keeps : (x : ℕ) → is_needed old x ≡ true → is_needed new x ≡ true
  pub only : (x : ℕ) → is_needed new x ≡ true → (is_needed old x ≡ true) ⊎ HasVar lits x
  pub each : All (λ k. k.var < length new → is_needed new k.var ≡ true) lits
