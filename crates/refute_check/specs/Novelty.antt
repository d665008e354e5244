-- What a Learnt line's clause is: whether it follows, and whether it says more than is known.
use Rattle.std.specs.Prelude.{◌⊎◌, List, ◌∷◌}
use Rattle.cnf_core.specs.Lit.{Literal}
use Rattle.cnf_core.specs.Clause.{Clauses}
use Rattle.cnf_core.specs.Propagation.{Closure, Falsifies, Rup, negations}
use Rattle.refute_log.specs.Log.{IsNewClause}
use Rattle.refute_check.specs.declared.novelty.Novelty.{Novelty}
use Rattle.refute_check.specs.declared.novelty.Novelty.TheVariants.{Unproved, Known, New}
use Rattle.refute_check.specs.Kept.{IsKnownClause}

-- of its first literal and the others
abbrev pub IsNovelty : Clauses → Literal → List Literal → Novelty → Type 0
IsNovelty clauses first others Unproved = Rup clauses (first ∷ others) → ⊥
IsNovelty clauses first others Known = Rup clauses (first ∷ others)
    × (Falsifies clauses (negations others) ⊎ Closure clauses (negations others) first)
IsNovelty clauses first others New = Rup clauses (first ∷ others) × (Falsifies clauses (negations others) → ⊥)
    × (Closure clauses (negations others) first → ⊥)

-- of the whole clause
abbrev pub HasNovelty : Clauses → List Literal → Novelty → Type 0
HasNovelty clauses c Unproved = Rup clauses c → ⊥
HasNovelty clauses c Known = Rup clauses c × IsKnownClause clauses c
HasNovelty clauses c New = Rup clauses c × IsNewClause clauses c
