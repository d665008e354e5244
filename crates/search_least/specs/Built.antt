-- The clauses of one criterion, told whole or not at all.
use Rattle.std.specs.Prelude.{◌≡◌, ◌<◌, ◌+◌, ◌⊎◌, ℕ, [], ◌++◌, flat_map}
use Rattle.plan_core.specs.declared.criterion.Criterion.{Criterion}
use Rattle.cnf_core.specs.declared.limits.TheConstants.{VARS}
use Rattle.cnf_core.specs.Clause.{words_of}
use Rattle.refute_log.specs.Told.{Lines}
use Rattle.refute_log.specs.Log.{given, learnt, clause_lines}
use Rattle.refute_log.specs.Expected.{sum_lines, sum_vars_of, with_cap}
use Rattle.search_least.specs.declared.oracle.Built.{Built}
use Rattle.search_least.specs.declared.oracle.Built.TheVariants.{Whole, NoRoom}
use Rattle.search_least.specs.Task.{Task}

-- with the lines of c up to the cap there are too many variables, or the words pass the room
abbrev pub SumPasses : Task → ℕ → Criterion → ℕ → Lines → Type 0
SumPasses p vars c cap lines = (VARS < vars + sum_vars_of p.encoding vars c cap)
    ⊎ (p.room < words_of (flat_map given (clause_lines lines ++ sum_lines p.encoding vars c cap)) + words_of
    (flat_map learnt lines))

-- all lines of c up to the cap; or none, where they pass
abbrev pub IsBuild : Task → ℕ → Criterion → ℕ → Built → Lines → Lines → Type 0
IsBuild p vars c cap Whole lines more = more ≡ sum_lines p.encoding vars c cap
IsBuild p vars c cap NoRoom lines more = (more ≡ []) × SumPasses p vars c cap lines

-- the caps and variables behind it
abbrev pub AreBuiltTo : Task → (Criterion → ℕ) → ℕ → Criterion → ℕ → Built → (Criterion → ℕ) → ℕ → Type 0
AreBuiltTo p caps vars c cap Whole new_caps new_vars =
    (new_caps ≡ with_cap caps c cap) × (new_vars ≡ vars + sum_vars_of p.encoding vars c cap)
AreBuiltTo p caps vars c cap NoRoom new_caps new_vars = (new_caps ≡ caps) × (new_vars ≡ vars)
