use Rattle.std.proofs.Common.{sym, subst, length, ◌<◌}
use Rattle.cnf_core.specs.Lit.{Literal}
use Rattle.cnf_core.specs.Clause.{IsThere}
use Rattle.watch_arena.specs.Trail.{Marks}
use Rattle.watch_arena.proofs.TrailLemmas.{kept_there}
use Rattle.watch_arena.proofs.trail.Trail.lit.Goals as goal

pub returns-clause-there : goal.returns-clause-there
returns-clause-there c =
    subst (λ (m : Marks). IsThere m.vars c.index.result.now) c.self.view_is (subst (λ (l : Literal). IsThere c.self.inside.vars l) (sym c.index.ensures)
    (kept_there _ _ _ _ _ _ _ _ _ c.self.invariant c.args.i c.index.result.now (subst (λ (m : Marks). c.args.i < length m.lits) (sym c.self.view_is)
    c.requires)))
