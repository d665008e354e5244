-- Sets of the words of literals.
-- No public clause names this.
use Rattle.std.specs.Prelude.{◌≡◌, ℕ, List}
use Rattle.std.specs.Ordering.{nat_cmp}
use Rattle.std.specs.BTreeSet.{BTreeSet, contains}
use Rattle.cnf_core.specs.Lit.{Literal, word_of, has}

-- the set has a literal's word exactly where the list has the literal
abbrev pub HasWords : BTreeSet ℕ → List Literal → Type 0
HasWords words lits = (l : Literal) → contains nat_cmp words (word_of l) ≡ has lits l
