use Rattle.cnf_core.specs.Propagation.{negations}
use Rattle.refute_check.proofs.CheckerLemmas.{contradicted_any}
use Rattle.refute_check.specs.Standing.{IsOpenChecker, is_lost}
use Rattle.refute_check.proofs.checker.Checker.follows.Goals as goal

pub returns-in-Contradiction-clause-yes : goal.returns-in-Contradiction-clause-yes
returns-in-Contradiction-clause-yes c = λ _. contradicted_any c.self.inside.room c.self.inside.formula c.self.inside.query c.self.inside.refuted.items
    (is_lost c.self.inside.standing) c.args.self.now (negations c.args.lits.now) (rw c.in-Contradiction.is at c.self.invariant) c.self.view_is

pub follows-requires-clause-settled : goal.follows-requires-clause-settled
follows-requires-clause-settled c = let open_now : IsOpenChecker c.self.inside.formula c.self.inside.tables = rw c.in-Open.is at c.self.invariant in
    open_now.settled
