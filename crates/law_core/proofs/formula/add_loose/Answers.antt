use Rattle.std.proofs.Common.{map, rules}
use Rattle.law_core.specs.Law.{instance_of}
use Rattle.law_core.proofs.FillLemmas.{loose_refused, loose_after}
use Rattle.law_core.proofs.formula.add_loose.Goals as goal

pub returns-in_err-add_base : goal.returns-in_err-add_base
returns-in_err-add_base c = loose_refused c.add_base.result c.from_residual.result c.args.f.now c.add_base.new.f c.args.g.now c.args.grid.now
    (map instance_of c.args.laws.now) c.from_residual.ensures.0 (λ k. search (rules, k)) c.add_base.ensures.adds

pub returns : goal.returns
returns c = loose_after _ c.add_choices.result c.args.f.now c.add_base.new.f c.add_choices.new.f c.args.g.now c.args.grid.now (map instance_of c.args.laws.now)
    c.requires.empty c.in_ok-add_base.ensures.adds c.add_choices.ensures
