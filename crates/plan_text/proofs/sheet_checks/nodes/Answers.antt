use Rattle.std.proofs.Common.{true, refl, sym, ◌∙◌}
use Rattle.plan_write.specs.SheetLine.{NodesLine}
use Rattle.plan_text.specs.SheetFaults.{BodyDue}
use Rattle.plan_text.proofs.CheckLemmas.{not_of_graph}
use Rattle.plan_text.proofs.sheet_checks.nodes.Goals as goal

pub returns-else-count-nodes : goal.returns-else-count-nodes
returns-else-count-nodes c = λ edition before. (
  refl,
  not_of_graph c.args.g.now before (BodyDue edition true) c.args.text.now c.in-Some.rest.now
      (NodesLine c.in-Some.count) tt c.in-Some.ensures.0 c.in-Some.ensures.1 (λ is. c.if-count-nodes.false (is ∙ sym c.nodes.ensures.value)),
)
