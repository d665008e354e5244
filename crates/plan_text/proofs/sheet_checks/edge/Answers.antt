use Rattle.std.proofs.Common.{◌≡◌, List, true, refl, sym, ◌∙◌, subst}
use Rattle.std.specs.Option.{option_copied}
use Rattle.std.proofs.lemmas.Bool.{false≢true}
use Rattle.plan_core.specs.declared.point.Point.{Point}
use Rattle.plan_core.specs.Line.{is_line}
use Rattle.plan_write.specs.SheetLine.{EdgeLine}
use Rattle.plan_text.specs.SheetFaults.{EdgeDue}
use Rattle.plan_text.proofs.CheckLemmas.{begins, not_of_graph}
use Rattle.plan_text.proofs.sheet_checks.edge.Goals as goal

pub returns-then-not-is_edge : goal.returns-then-not-is_edge
returns-then-not-is_edge c = let t = c.in-Some.told in λ before. (
  refl,
  not_of_graph c.args.g.now before (EdgeDue c.args.edition c.args.e) c.args.text.now
      c.in-Some.rest.now (EdgeLine t.number (option_copied t.track) t.west t.east t.points.items) c.in-Some.ensures.0 c.in-Some.ensures.1.form
      c.in-Some.ensures.1.spelled (λ is. false≢true (sym c.if-not-is_edge.true ∙ c.is_edge.ensures.1 is)),
)

pub returns-in-None : goal.returns-in-None
returns-in-None c = let t = c.in-Some.told in λ before. (
  refl,
  (
    EdgeLine t.number (option_copied t.track) t.west t.east t.points.items,
    begins (EdgeDue c.args.edition c.args.e) c.args.text.now c.in-Some.rest.now (EdgeLine t.number (option_copied t.track) t.west t.east t.points.items)
        c.in-Some.ensures.0 c.in-Some.ensures.1.form c.in-Some.ensures.1.spelled,
    c.is_edge.ensures.0 c.if-not-is_edge.false,
    λ is. c.in-None.ensures (subst (λ (l : List Point). is_line l ≡ true) (sym c.as_slice.ensures.value) is),
  ),
)
