use Rattle.std.proofs.Common.{◌≤◌, subst, sym}
use Rattle.plan_core.specs.Values.{values_of, value_of}
use Rattle.plan_core.proofs.LimitLemmas.{value-le-limit}
use Rattle.drawing_cnf.proofs.values.greatest.Goals as goal

pub returns-clause-most : goal.returns-clause-most
returns-clause-most c = λ above d h.
    subst (λ n. value_of (values_of d) c.args.c ≤ n) (sym c.limit_for.ensures) (value-le-limit c.args.g.now above c.args.grid.now d h c.args.c)
