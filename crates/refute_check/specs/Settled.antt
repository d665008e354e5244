-- Tables between two lines: what is true without assumptions.
-- No public clause names this.
use Rattle.std.specs.Prelude.{◌≡◌, ◌⊎◌, ℕ, List, [], length, take, All, Contains}
use Rattle.cnf_core.specs.Lit.{Literal, has}
use Rattle.cnf_core.specs.Clause.{Clauses}
use Rattle.cnf_core.specs.Propagation.{IsIn, nothing, HasReason, Closure}
use Rattle.refute_check.specs.declared.tables.Tables.{Tables}
use Rattle.refute_check.specs.Tables.{AreOccurrences, IsCountedTo, AreQuiet, IsQuiet}

-- the trail is the closure of nothing, each of its literals has a clause that makes it true, no
-- clause is falsified, all is counted, and nothing is to be given back
pub record AreSettled (vars : ℕ) (clauses : Clauses) (t : Tables) : Type 0 where
  pub occurrences : AreOccurrences vars clauses t.occurrences.items
  pub counted : IsCountedTo vars clauses t.truth.items t.trail.items t.counts.items (length t.trail.items)
  pub within : (l : Literal) → IsIn (has t.trail.items) l → Closure clauses nothing l
  pub reasoned : (l : Literal) → IsIn (has t.trail.items) l → HasReason clauses (has t.trail.items) l
  pub quiet : AreQuiet clauses t.trail.items (length t.trail.items)
  pub unnoted : t.noted.items ≡ []

-- the tables know the clause, and it alone wasn't looked at
pub record IsListed (vars : ℕ) (clauses : Clauses) (c : List Literal) (t : Tables) : Type 0 where
  pub among : Contains clauses c
  pub occurrences : AreOccurrences vars clauses t.occurrences.items
  pub counted : IsCountedTo vars clauses t.truth.items t.trail.items t.counts.items (length t.trail.items)
  pub within : (l : Literal) → IsIn (has t.trail.items) l → Closure clauses nothing l
  pub reasoned : (l : Literal) → IsIn (has t.trail.items) l → HasReason clauses (has t.trail.items) l
  pub quiet : All (λ d. (d ≡ c) ⊎ IsQuiet (has (take (length t.trail.items) t.trail.items)) (has t.trail.items) d)
      clauses
  pub unnoted : t.noted.items ≡ []
