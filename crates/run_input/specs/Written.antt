-- Which files a search and a picture are written to, and when they couldn't be written.
use Rattle.std.specs.Prelude.{◌≢◌, ◌⊎◌, ℕ, List, [], ◌∷◌, AllPairs, None, Some}
use Rattle.std.specs.declared.option.Option.{Option}
use Rattle.outside_io.specs.Counts.{Rose}
use Rattle.run_input.specs.Met.{Met}

-- the file that is named, where one is
abbrev pub file_named : Option (List ℕ) → List (List ℕ)
file_named None = []
file_named (Some name) = name ∷ []

-- no two of the files have one name
abbrev pub AreFilesApart : (names : List (List ℕ)) → Type 0
AreFilesApart names = AllPairs (λ a b. a ≢ b) names

-- the lines of a search, or a picture, couldn't be written: a write of the command's files failed, or the trace did,
-- where the lines go to it
abbrev pub FailsToWrite : (outputs : List (List ℕ)) → (ToTrace : Type 0) → Met → (trace_rose : Type 0) → Type 0
FailsToWrite outputs ToTrace met trace_rose =
    ((outputs ≢ []) × Rose met.before.write_faults met.after.write_faults) ⊎ (ToTrace × trace_rose)
