use Rattle.std.proofs.Common.{refl, sym, ◌∙◌}
use Rattle.plan_write.specs.SheetLine.{EdgesLine}
use Rattle.plan_text.specs.SheetFaults.{EdgesDue}
use Rattle.plan_text.proofs.CheckLemmas.{not_of_graph}
use Rattle.plan_text.proofs.sheet_checks.edges.Goals as goal

pub returns-else-count-edges : goal.returns-else-count-edges
returns-else-count-edges c = λ edition before. (
  refl,
  not_of_graph c.args.g.now before (EdgesDue edition) c.args.text.now c.in-Some.rest.now
      (EdgesLine c.in-Some.count) tt c.in-Some.ensures.0 c.in-Some.ensures.1 (λ is. c.if-count-edges.false (is ∙ sym c.edges.ensures.value)),
)
