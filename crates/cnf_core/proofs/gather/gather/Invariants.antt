use Rattle.std.proofs.Common.{◌≡◌, ◌++◌, drop}
use Rattle.std.specs.Prelude.{map}
use Rattle.cnf_core.specs.declared.literal.LitOrTruth.TheVariants.{Lit as OfLit}
use Rattle.cnf_core.specs.LitOrTruth.{flip, gathered, clause_of}
use Rattle.cnf_core.proofs.gather.gather.Given as goal

abbrev pub invariant-loop-l : goal.invariant-loop-l
invariant-loop-l l = gathered l.lits.items (map OfLit (drop l.l-index l.unless) ++ (map flip l.premises ++ l.conclusions))
    ≡ clause_of l.unless (map flip l.premises ++ l.conclusions)

abbrev pub invariant-loop-p : goal.invariant-loop-p
invariant-loop-p l = gathered l.lits.items (map flip (drop l.p-index l.premises) ++ l.conclusions)
    ≡ clause_of l.unless (map flip l.premises ++ l.conclusions)
