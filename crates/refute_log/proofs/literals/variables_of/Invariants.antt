use Rattle.std.proofs.Common.{◌≡◌, ◌++◌, map, drop}
use Rattle.refute_log.proofs.literals.variables_of.Given as goal

-- the numbers so far, with those of what is left, are all of them
abbrev pub invariant-loop-literal : goal.invariant-loop-literal
invariant-loop-literal l = l.variables.items ++ map (λ k. k.var) (drop l.literal-index l.literals) ≡ map (λ k. k.var) l.literals
