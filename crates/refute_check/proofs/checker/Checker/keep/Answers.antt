use Rattle.refute_check.proofs.checker.Checker.keep.Goals as goal

pub invariant_of-self : goal.invariant_of-self
invariant_of-self c = tt
