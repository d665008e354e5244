use Rattle.std.proofs.Common.{sym, subst}
use Rattle.cnf_core.specs.Clause.{IsThere}
use Rattle.cnf_core.proofs.TrailLemmas.{there_get}
use Rattle.cdcl_core.proofs.given.open_place.Goals as goal

pub is_false-requires : goal.is_false-requires
is_false-requires c = subst (IsThere c.args.trail.now.vars) (sym c.index-lits-i.is)
    (there_get c.args.trail.now.vars c.args.lits.now c.loop-i.i c.index-lits-i.result c.loop-i-test.true c.requires.there)
