use Rattle.std.proofs.Common.{sym, subst}
use Rattle.cnf_core.specs.Clause.{IsThere}
use Rattle.cnf_core.proofs.TrailLemmas.{there_get}
use Rattle.cdcl_core.proofs.choices.past_true.Goals as goal

pub is_false-requires : goal.is_false-requires
is_false-requires c = subst (IsThere c.args.trail.now.vars) (sym c.negated.ensures)
    (subst (IsThere c.args.trail.now.vars) (sym c.index-query-i.is) (there_get c.args.trail.now.vars c.args.query.now c.loop-i.i c.index-query-i.result
    c.loop-i-test.true c.requires.there))
