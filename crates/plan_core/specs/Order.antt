-- The order in which criteria are made least.
use Rattle.std.specs.Prelude.{◌≢◌, ◌≤◌, List, length, AllPairs}
use Rattle.plan_core.specs.declared.criterion.Criterion.{Criterion}

-- one criterion or more, each once; so there are at most four
pub record IsOrder (list : List Criterion) : Type 0 where
  pub some : 1 ≤ length list
  pub each_once : AllPairs (λ c d. c ≢ d) list
