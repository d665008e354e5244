use Rattle.cdcl_core.proofs.RefuteLemmas.{denied_skip, denied_more, no_arena}
use Rattle.cdcl_core.proofs.endings.push_denied.Goals as goal

pub returns-else-is_decision : goal.returns-else-is_decision
returns-else-is_decision c = λ d. denied_skip c.args.trail.now c.args.i c.lit-l.result c.args.lits.now.items c.requires c.lit-l.ensures.value
    (c.is_decision.ensures.no c.if-is_decision.false) d

pub returns-in_ok-push : goal.returns-in_ok-push
returns-in_ok-push c = λ d. denied_more no_arena c.args.trail.now c.args.i c.lit-l.result c.negated.result c.args.lits.now.items c.push.new.self.items
    c.vars-marks.ensures.marks c.requires c.lit-l.ensures.value c.negated.ensures (c.is_decision.ensures.yes c.if-is_decision.true).0
    (c.is_decision.ensures.yes c.if-is_decision.true).1 c.in_ok-push.ensures.items d
