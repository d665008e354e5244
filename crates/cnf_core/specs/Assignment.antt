-- Assignments, what they satisfy, and how one differs from another.
use Rattle.std.specs.Prelude.{◌≡◌, ◌<◌, ◌≤◌, ◌+◌, ◌⊎◌, ⊤, ℕ, Bool, true, List, [], ◌∷◌}
use Rattle.cnf_core.specs.Lit.{Literal, same_sign}
use Rattle.cnf_core.specs.Clause.{Clauses}

-- a truth value for each variable
abbrev pub Assignment : Type 0
Assignment = ℕ → Bool

-- the truth value of a literal
abbrev pub truth : Assignment → Literal → Bool
truth v l = same_sign l.positive (v l.var)

-- it makes one of the literals true
abbrev pub Satisfies : Assignment → List Literal → Type 0
Satisfies v [] = ⊥
Satisfies v (l ∷ ls) = (truth v l ≡ true) ⊎ Satisfies v ls

-- it satisfies each of the clauses
abbrev pub SatisfiesAll : Assignment → Clauses → Type 0
SatisfiesAll v [] = ⊤
SatisfiesAll v (c ∷ cs) = Satisfies v c × SatisfiesAll v cs

-- w gives each variable the truth value of v, but for the count variables from first on
pub record SameOutside (first count : ℕ) (v w : Assignment) : Type 0 where
  pub below : (x : ℕ) → x < first → w x ≡ v x
  pub above : (x : ℕ) → first + count ≤ x → w x ≡ v x

-- the count variables from first on can be given truth values so that P holds
pub record Extends (first count : ℕ) (v : Assignment) (P : Assignment → Type 0) : Type 0 where
  pub to : Assignment
  pub same : SameOutside first count v to
  pub holds : P to
