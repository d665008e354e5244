-- The working clause: the false literals on the conflict side of a cut through the trail.
use Rattle.std.specs.Prelude.{◌≡◌, ◌≢◌, ◌≤◌, ◌<◌, ◌⊎◌, ℕ, zero, suc, ◌+◌, ◌-◌, slice_index, Bool, true, false, cond}
use Rattle.std.specs.Prelude.{nat_eq, List, [], ◌∷◌, ◌++◌, All, Contains, length, slice_index_or, slice_set, take}
use Rattle.std.specs.List.{sum_by}
use Rattle.cnf_core.specs.Lit.{Literal, negate, has}
use Rattle.cnf_core.specs.Clause.{AreDistinct, IsNamed}
use Rattle.cnf_core.specs.Propagation.{LiteralSet, IsIn, Falsifies, Rup}
use Rattle.cnf_core.specs.Trail.{weight}
use Rattle.cnf_core.specs.declared.limits.TheConstants.{VARS}
use Rattle.cdcl_learn.specs.Sight.{Sight, nth, level_of, clause_in, clauses_in, known, IsSetAbove}

-- which variables are seen, and these in order; the literals of lower levels so far, and how many
-- literals of the present level are to be resolved
pub record Cut : Type 0 where
  pub vars : ℕ
  pub seen : List Bool
  pub met : List ℕ
  pub rest : List Literal
  pub pending : ℕ

abbrev pub is_seen : List Bool → ℕ → Bool
is_seen seen v = slice_index_or seen v false

abbrev pub IsSeen : Cut → ℕ → Type 0
IsSeen w v = is_seen w.seen v ≡ true

-- one more variable of the present level, one more literal of a lower one
abbrev pub with_open : Cut → Literal → Cut
with_open w k = record {
  vars = w.vars;
  seen = slice_set w.seen k.var true;
  met = w.met ++ k.var ∷ [];
  rest =
      w.rest;
  pending = w.pending + 1;
}

abbrev pub with_lower : Cut → Literal → Cut
with_lower w k = record {
  vars = w.vars;
  seen = slice_set w.seen k.var true;
  met = w.met ++ k.var ∷ [];
  rest = w.rest
      ++ k ∷ [];
  pending = w.pending;
}

-- one literal of the present level is resolved
abbrev pub with_resolved : Cut → Cut
with_resolved w = record { vars = w.vars; seen = w.seen; met = w.met; rest = w.rest; pending = w.pending - 1 }

-- no variable is seen
abbrev pub IsBlank : Cut → Type 0
IsBlank w = (v : ℕ) → is_seen w.seen v ≡ false

-- the cut with one more false literal; one that is seen or of level 0 is passed over
abbrev pub cut_with : Sight → Cut → Literal → Cut
cut_with s w k = cond (is_seen w.seen k.var) w
    (cond (nat_eq (level_of s k) 0) w
    (cond (nat_eq (level_of s k) s.level) (with_open w k) (with_lower w k)))

-- the cut with all literals of a clause, one after another
abbrev pub cut_with_all : Sight → Cut → List Literal → Cut
cut_with_all s w [] = w
cut_with_all s w (k ∷ ks) = cut_with_all s (cut_with s w k) ks

-- 1 where the literal at this place is seen and of the present level
abbrev pub weight_at : Sight → List Bool → ℕ → ℕ
weight_at s seen i = cond (nat_eq (level_of s (nth s i)) s.level) (cond (is_seen seen (nth s i).var) 1 0) 0

-- how many seen literals of the present level stand before this place
abbrev pub open_below : Sight → List Bool → ℕ → ℕ
open_below s seen zero = 0
open_below s seen (suc n) = open_below s seen n + weight_at s seen n

-- false, seen, and of a level above 0 and below the present one
pub record IsLower (s : Sight) (w : Cut) (k : Literal) : Type 0 where
  pub falsified : IsIn (has s.lits) (negate k)
  pub above : 0 < level_of s k
  pub below : level_of s k < s.level
  pub seen : IsSeen w k.var

-- the cut fits the trail; the literals before this place are still to be looked at
pub record IsCut (s : Sight) (w : Cut) (end : ℕ) : Type 0 where
  pub size : length w.seen ≡ s.vars + 1
  pub lower : All (IsLower s w) w.rest
  pub all : (l : Literal) → IsIn (has s.lits) l → IsSeen w l.var → level_of s l < s.level → Contains w.rest (negate l)
  pub distinct : AreDistinct w.rest
  pub count : w.pending ≡ open_below s w.seen end
  pub named : (v : ℕ) → IsSeen w v → IsNamed (clauses_in s) v
  pub above : (v : ℕ) → IsSeen w v → IsSetAbove s v

-- those literals before a place whose variables are seen
abbrev pub working : Sight → Cut → ℕ → LiteralSet
working s w end l = cond (has (take end s.lits) l) (is_seen w.seen l.var) false

-- seen, or false by a literal before this place
abbrev pub IsReached : Sight → Cut → ℕ → Literal → Type 0
IsReached s w end k = IsSeen w k.var ⊎ IsIn (has (take end s.lits)) (negate k)

-- of level 0, or seen
abbrev pub IsCovered : Sight → Cut → Literal → Type 0
IsCovered s w k = (level_of s k ≡ 0) ⊎ IsSeen w k.var

-- the last seen literal before a place
pub record IsLast (s : Sight) (w : Cut) (end i : ℕ) : Type 0 where
  pub below : i < end
  pub seen : IsSeen w (nth s i).var
  pub none : (j : ℕ) → i < j → j < end → is_seen w.seen (nth s j).var ≡ false

-- the last literal of the working clause is at this place; what the clause says follows by unit
-- propagation
pub record IsStage (s : Sight) (w : Cut) (i : ℕ) : Type 0 where
  pub cut : IsCut s w (i + 1)
  pub below : i < length s.lits
  pub seen : IsSeen w (nth s i).var
  pub present : level_of s (nth s i) ≡ s.level
  pub some : 1 ≤ w.pending
  pub rup : Falsifies (known s) (working s w (i + 1))

-- the learnt clause: all literals false, none of level 0, the first alone of the present level; the
-- clause follows by unit propagation
pub record IsLearnt (s : Sight) (first : Literal) (rest : List Literal) : Type 0 where
  pub falsified : All (λ k. IsIn (has s.lits) (negate k)) (first ∷ rest)
  pub above : All (λ k. 0 < level_of s k) (first ∷ rest)
  pub present : level_of s first ≡ s.level
  pub lower : All (λ k. level_of s k < s.level) rest
  pub distinct : AreDistinct (first ∷ rest)
  pub named : All (λ k. IsNamed (clauses_in s) k.var) (first ∷ rest)
  pub rup : Rup (known s) (first ∷ rest)

-- the latest level among the literals, which the first of them has; 0 where there is none
pub record IsBack (s : Sight) (rest : List Literal) (back : ℕ) : Type 0 where
  pub first : (l : Literal) (ls : List Literal) → rest ≡ l ∷ ls → level_of s l ≡ back
  pub none : rest ≡ [] → back ≡ 0
  pub latest : All (λ k. level_of s k ≤ back) rest

-- the working clause before this place; some of its literals are of the present level
pub record IsResolving (s : Sight) (w : Cut) (end : ℕ) : Type 0 where
  pub cut : IsCut s w end
  pub within : end ≤ length s.lits
  pub some : 1 ≤ w.pending
  pub rup : Falsifies (known s) (working s w end)

-- a clause all of whose literals are false, one of them at the present level
pub record IsConflict (s : Sight) (p : ℕ) : Type 0 where
  pub place : Contains s.places p
  pub falsified : All (λ k. IsIn (has s.lits) (negate k)) (clause_in s p)
  pub lit : Literal
  pub among : Contains (clause_in s p) lit
  pub present : level_of s lit ≡ s.level
  pub above : 0 < s.level

abbrev pub working_cut : ℕ → List Bool → List ℕ → ℕ → List Literal → ℕ → ℕ → Cut
working_cut vars seen touched count rest len pending =
    record { vars = vars; seen = seen; met = take count touched; rest = take len rest; pending = pending }

-- each seen variable stands once among those that were touched
pub record IsWork (vars : ℕ) (seen : List Bool) (touched : List ℕ) (count : ℕ) (rest : List Literal) (len pending : ℕ) :
    Type 0 where
  pub limit : vars ≤ VARS
  pub seen_size : length seen ≡ vars + 1
  pub touched_size : length touched ≡ vars + 1
  pub rest_size : length rest ≡ vars + 1
  pub marks : count ≡ sum_by weight seen
  pub all : (v : ℕ) → is_seen seen v ≡ true → (i : ℕ) × (i < count) × (slice_index touched i ≡ v)
  pub within : (i : ℕ) → i < count → slice_index touched i ≤ vars
  pub marked : (i : ℕ) → i < count → is_seen seen (slice_index touched i) ≡ true
  pub apart : (i j : ℕ) → i < j → j < count → slice_index touched i ≢ slice_index touched j
  pub short : len ≤ count
  pub few : pending ≤ count

-- none of the first so many literals is of a later level than the one at this place
abbrev pub IsLatest : List ℕ → List Literal → ℕ → ℕ → Type 0
IsLatest levels rest len best = (i : ℕ) (d : Literal) → i < len →
    slice_index levels (slice_index_or rest i d).var ≤ slice_index levels (slice_index_or rest best d).var

-- the same literals at other places
pub record IsShuffle (old now : List Literal) : Type 0 where
  pub size : length now ≡ length old
  pub to : ℕ → ℕ
  pub within : (i : ℕ) → i < length old → to i < length old
  pub again : (i : ℕ) → i < length old → to (to i) ≡ i
  pub same : (i : ℕ) (d : Literal) → i < length old → slice_index_or now i d ≡ slice_index_or old (to i) d

-- the clause that an analysis leaves, and the level to jump back to with it
abbrev pub IsLearntOf : Sight → List Literal → ℕ → Type 0
IsLearntOf s [] back = ⊥
IsLearntOf s (first ∷ rest) back = IsLearnt s first rest × IsBack s rest back
