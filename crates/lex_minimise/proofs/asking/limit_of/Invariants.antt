use Rattle.std.proofs.Common.{take}
use Rattle.std.specs.Prelude.{All}
use Rattle.lex_minimise.specs.Asking.{HasLimit}
use Rattle.lex_minimise.proofs.asking.limit_of.Given as goal

abbrev pub invariant-loop-bounds : goal.invariant-loop-bounds
invariant-loop-bounds l = All (λ t. HasLimit l.bound t → ⊥) (take l.bounds-index l.told)
