-- The words of the criteria.
use Rattle.std.specs.Prelude.{ℕ, List, codes}
use Rattle.plan_core.specs.declared.criterion.Criterion.{Criterion}
use Rattle.plan_core.specs.declared.criterion.Criterion.TheVariants.{Height, Bends, Diagonal, Width}

-- the word of a criterion
abbrev pub criterion_word : Criterion → List ℕ
criterion_word Height = codes "height"
criterion_word Bends = codes "bends"
criterion_word Diagonal = codes "diagonal"
criterion_word Width = codes "width"
