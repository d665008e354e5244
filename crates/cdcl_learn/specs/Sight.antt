-- What learning sees of an arena and a trail: the literals that are true, in the order in which they
-- became so, their levels and reasons by variable, and the clauses by their places.
use Rattle.std.specs.Prelude.{◌≡◌, ◌≤◌, ◌<◌, ℕ, true, cond, nat_eq, List, [], ◌∷◌, ◌++◌, Contains, length, map}
use Rattle.std.specs.Prelude.{slice_index, slice_index_or, take}
use Rattle.cnf_core.specs.Lit.{Literal, literal, has}
use Rattle.cnf_core.specs.Clause.{Clauses, AreDistinct, AreThere}
use Rattle.cnf_core.specs.Propagation.{IsIn, IsUnit}
use Rattle.watch_arena.specs.Trail.{Marks}
use Rattle.watch_arena.specs.Arena.{Attached, attached_at}

-- a reason is the place of a clause, or 0
pub record Sight : Type 0 where
  pub vars : ℕ
  pub lits : List Literal
  pub levels : List ℕ
  pub reasons : List ℕ
  pub level : ℕ
  pub places : List ℕ
  pub text : ℕ → List Literal

-- what is seen of this arena and this trail
abbrev pub sight : Attached → Marks → Sight
sight a m = record {
  vars = m.vars;
  lits = m.lits;
  levels = m.levels;
  reasons = m.reasons;
  level =
      length m.cuts;
  places = a.places;
  text = attached_at a;
}

-- the literal at a place of the trail
abbrev pub nth : Sight → ℕ → Literal
nth s i = slice_index_or s.lits i (literal 0 true)

abbrev pub level_of : Sight → Literal → ℕ
level_of s l = slice_index s.levels l.var

abbrev pub reason_of : Sight → Literal → ℕ
reason_of s l = slice_index s.reasons l.var

-- the clause at a place of the arena, and all clauses
abbrev pub clause_in : Sight → ℕ → List Literal
clause_in s p = s.text p

abbrev pub clauses_in : Sight → Clauses
clauses_in s = map s.text s.places

-- the clause at place p of the arena made the literal at place i of the trail true, by literals in
-- front of it
pub record IsReasonAt (s : Sight) (i p : ℕ) : Type 0 where
  pub place : Contains s.places p
  pub unit : IsUnit (has (take i s.lits)) (clause_in s p) (nth s i)

-- the variable is set, at a level above 0
pub record IsSetAbove (s : Sight) (v : ℕ) : Type 0 where
  pub lit : Literal
  pub var : lit.var ≡ v
  pub on : IsIn (has s.lits) lit
  pub above : 0 < level_of s lit

-- what the proofs of learning use of a reasoned trail (`AreReasoned`): levels never fall, and of two
-- literals of one level above 0 the later one has a reason
pub record IsSound (s : Sight) : Type 0 where
  pub distinct : AreDistinct s.lits
  pub there : AreThere s.vars s.lits
  pub clauses : (p : ℕ) → Contains s.places p → AreThere s.vars (clause_in s p)
  pub present : (i : ℕ) → i < length s.lits → level_of s (nth s i) ≤ s.level
  pub rise : (i j : ℕ) → i < j → j < length s.lits → level_of s (nth s i) ≤ level_of s (nth s j)
  pub reason : (i p : ℕ) → i < length s.lits → reason_of s (nth s i) ≡ p → 1 ≤ p → IsReasonAt s i p
  pub decided : (i j : ℕ) → i < j → j < length s.lits → level_of s (nth s i) ≡ level_of s (nth s j) →
      0 < level_of s (nth s j) → 1 ≤ reason_of s (nth s j)

-- the literals of level 0, each as a clause
abbrev pub roots : Sight → List Literal → Clauses
roots s [] = []
roots s (l ∷ ls) = cond (nat_eq (level_of s l) 0) ((l ∷ []) ∷ roots s ls) (roots s ls)

-- the clauses, and each literal of level 0 as one
abbrev pub known : Sight → Clauses
known s = clauses_in s ++ roots s s.lits
