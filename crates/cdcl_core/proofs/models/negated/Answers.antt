use Rattle.std.proofs.Common.{◌∙◌, map, ap}
use Rattle.std.proofs.lemmas.List.{take_all}
use Rattle.cnf_core.specs.Lit.{negate}
use Rattle.cdcl_core.proofs.StepLemmas.{mapped_more}
use Rattle.cdcl_core.proofs.models.negated.Goals as goal

pub loop-l-preserved : goal.loop-l-preserved
loop-l-preserved c = mapped_more negate c.args.lits.now c.loop-l.others.items c.push.new.self.items c.loop-l.l-index c.l-item.result c.negated.result
    c.loop-l-test.true c.l-item.is c.negated.ensures c.loop-l.invariant c.in_ok-push.ensures.items

pub returns : goal.returns
returns c = c.loop-l.invariant ∙ ap (map negate) (take_all c.loop-l.l-index c.args.lits.now c.loop-l-test.false)
