use Rattle.std.proofs.Common.{refl, sym, ◌∙◌}
use Rattle.std.specs.Option.{option_copied}
use Rattle.std.proofs.lemmas.Bool.{false≢true}
use Rattle.plan_write.specs.SheetLine.{NodeLine}
use Rattle.plan_text.specs.SheetFaults.{NodeDue}
use Rattle.plan_text.proofs.CheckLemmas.{not_of_graph}
use Rattle.plan_text.proofs.sheet_checks.node.Goals as goal

pub returns-else-is_its_line : goal.returns-else-is_its_line
returns-else-is_its_line c = let t = c.in-Some.told in λ before. (
  refl,
  not_of_graph c.args.g.now before (NodeDue c.args.edition c.args.n) c.args.text.now
      c.in-Some.rest.now (NodeLine t.number t.name.now t.place (option_copied t.mileage)) c.in-Some.ensures.0 c.in-Some.ensures.1.form
      c.in-Some.ensures.1.spelled
      (λ is. false≢true (sym c.if-is_its_line.false ∙ c.in_ok-is_its_line.ensures.1 is)),
)
