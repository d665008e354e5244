-- The selecting variables: each stands in a clause, and they rise with the laws' places.
use Rattle.std.proofs.Common.{◌≢◌, ◌⊎◌, ℕ, zero, suc, ◌+◌, ◌≤◌, ◌<◌, List, [], ◌∷◌, length, inl, inr, refl, arith}
use Rattle.drawing_cnf.proofs.BoundNames.{in_front, behind}
use Rattle.plan_core.specs.Graph.{Graph}
use Rattle.plan_core.specs.Grid.{GridSize}
use Rattle.plan_core.specs.Lawful.{Instance}
use Rattle.cnf_core.specs.Lit.{positive_of, negative_of}
use Rattle.cnf_core.specs.Clause.{IsNamed}
use Rattle.drawing_cnf.specs.Stands.{DrawingVars}
use Rattle.drawing_cnf.specs.Expected.{drawing_vars, laws_first, base_clauses}
use Rattle.law_core.specs.Choices.{choice_size, choice_clauses, choices_size, choices_clauses, loose_clauses, loose_size}
use Rattle.law_core.specs.Chosen.{selector_at}
use Rattle.law_core.proofs.ChoiceLemmas.{selector}

choice_named : (g : Graph) (x : DrawingVars) (width : ℕ) (i : Instance) (first : ℕ) → IsNamed (choice_clauses g x width i first) first
choice_named g x width i first = record {
  clause = negative_of first ∷ positive_of (first + 1) ∷ [];
  among = (0, omega arith, refl);
  lit = negative_of first;
  inside = (0, omega arith, refl);
  var = refl;
}

choices_named : (g : Graph) (x : DrawingVars) (width first : ℕ) (laws : List Instance) (n : ℕ) → n < length laws →
    IsNamed (choices_clauses g x width first laws) (selector first laws n)
choices_named g x width first [] n lt = absurd (omega (arith, lt))
choices_named g x width first (i ∷ rest) zero lt =
    in_front (choice_clauses g x width i first) (choices_clauses g x width (first + choice_size i) rest) first (choice_named g x width i first)
choices_named g x width first (i ∷ rest) (suc n) lt =
    behind (choice_clauses g x width i first) (choices_clauses g x width (first + choice_size i) rest) (selector (first + choice_size i) rest n)
    (choices_named g x width (first + choice_size i) rest n (omega (arith, lt)))

pub selectors_named : (g : Graph) (grid : GridSize) (laws : List Instance) (n : ℕ) → n < length laws →
    IsNamed (loose_clauses g grid laws) (selector_at g grid laws n)
selectors_named g grid laws n lt =
    let x = drawing_vars g grid in
    behind (base_clauses g x grid) (choices_clauses g x grid.width (laws_first g grid) laws) (selector_at g grid laws n)
    (choices_named g x grid.width (laws_first g grid) laws n lt)

from_first : (first : ℕ) (laws : List Instance) (n : ℕ) → n < length laws →
    (first ≤ selector first laws n) × (selector first laws n < first + choices_size laws)
from_first first [] n lt = absurd (omega (arith, lt))
from_first first (i ∷ rest) zero lt = (omega arith, omega arith)
from_first first (i ∷ rest) (suc n) lt =
    let more = from_first (first + choice_size i) rest n (omega (arith, lt)) in
    let low = more.0 in
    let high = more.1 in
    (omega arith, omega arith)

rising : (first : ℕ) (laws : List Instance) (m n : ℕ) → m < n → n < length laws → selector first laws m < selector first laws n
rising first [] m n lt within = absurd (omega (arith, within))
rising first (i ∷ rest) zero zero lt within = absurd (omega (arith, lt))
rising first (i ∷ rest) zero (suc n) lt within = let low = (from_first (first + choice_size i) rest n (omega (arith, within))).0 in omega (arith, low)
rising first (i ∷ rest) (suc m) zero lt within = absurd (omega (arith, lt))
rising first (i ∷ rest) (suc m) (suc n) lt within = rising (first + choice_size i) rest m n (omega (arith, lt)) (omega (arith, within))

pub selectors_there : (g : Graph) (grid : GridSize) (laws : List Instance) (n : ℕ) → n < length laws →
    (laws_first g grid ≤ selector_at g grid laws n) × (selector_at g grid laws n ≤ loose_size g grid laws)
selectors_there g grid laws n lt =
    let both = from_first (laws_first g grid) laws n lt in
    let low = both.0 in
    let high = both.1 in
    (low, omega (arith, high))

pub selectors_apart : (g : Graph) (grid : GridSize) (laws : List Instance) (m n : ℕ) → m < length laws → n < length laws → m ≢ n →
    selector_at g grid laws m ≢ selector_at g grid laws n
selectors_apart g grid laws m n lm ln apart e = elim (split m n apart) [
  | inl less ↦ let lt = rising (laws_first g grid) laws m n less ln in omega (arith, lt, e)
  | inr more ↦ let lt = rising (laws_first g grid) laws n m more lm in omega (arith, lt, e)
]
  where
    split : (m n : ℕ) → m ≢ n → (m < n) ⊎ (n < m)
    split m n ne = grind (arith, ne)
