use Rattle.std.proofs.Common.{◌≡◌, List, None, [], sym, subst}
use Rattle.cnf_core.specs.Lit.{Literal}
use Rattle.cdcl_core.specs.Kept.{with_more_vars}
use Rattle.cdcl_core.specs.Search.{kept_of}
use Rattle.cdcl_core.proofs.ViewLemmas.{idle_now, wide_view, wide_given, wide_belongs}
use Rattle.cdcl_core.proofs.solver.Solver.add_vars.Goals as goal

pub add_vars-requires : goal.add_vars-requires
add_vars-requires c = idle_now c.self.inside.search c.self.inside.model c.self.inside.refuted.items c.self.inside.failed c.args.self.now c.self.invariant
    c.self.view_is c.requires

pub invariant_of-self : goal.invariant_of-self
invariant_of-self c = λ _. c.in-Ok.ensures.idle

pub returns-in-Ok-clause-more : goal.returns-in-Ok-clause-more
returns-in-Ok-clause-more c = subst (λ (ls : List Literal). kept_of c.add_vars.new.self None ls c.self.inside.failed ≡ with_more_vars c.args.self.now c.args.n)
    (sym c.clear.ensures.items) (wide_view c.self.inside.search c.add_vars.new.self c.self.inside.model c.self.inside.refuted.items c.self.inside.failed
    c.args.self.now c.args.n c.self.view_is c.requires c.in-Ok.ensures.more)

pub returns-in-Ok-clause-given : goal.returns-in-Ok-clause-given
returns-in-Ok-clause-given c = wide_given c.args.self.now (kept_of c.add_vars.new.self None [] c.self.inside.failed) c.args.n
    (wide_view c.self.inside.search c.add_vars.new.self c.self.inside.model c.self.inside.refuted.items c.self.inside.failed c.args.self.now c.args.n
    c.self.view_is c.requires c.in-Ok.ensures.more)

pub returns-in-Ok-clause-belongs : goal.returns-in-Ok-clause-belongs
returns-in-Ok-clause-belongs c = wide_belongs c.args.self.now (kept_of c.add_vars.new.self None [] c.self.inside.failed) c.args.n
    (wide_view c.self.inside.search c.add_vars.new.self c.self.inside.model c.self.inside.refuted.items c.self.inside.failed c.args.self.now c.args.n
    c.self.view_is c.requires c.in-Ok.ensures.more)
