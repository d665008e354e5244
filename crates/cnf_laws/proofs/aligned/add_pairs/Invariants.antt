use Rattle.cnf_laws.proofs.PairCode.{IsPairing}
use Rattle.cnf_laws.proofs.aligned.add_pairs.Given as goal

abbrev pub invariant-loop-list : goal.invariant-loop-list
invariant-loop-list l = IsPairing l.unless l.fn.f l.f l.lists l.list-index
