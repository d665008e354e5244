use Rattle.std.specs.Prelude.{◌≡◌, ◌<◌, ℕ, List}
use Rattle.plan_core.specs.declared.point.Point.{Point}
use Rattle.plan_core.specs.Line.{east_end, height}
use Rattle.plan_core.specs.Drawing.{line}
use Rattle.plan_core.specs.Laws.{AreCompared}
use Rattle.std.proofs.Common.{inl, inr, subst, sym, ap, ◌∙◌, refl, arith}
use Rattle.lawful_check.specs.Columns.{IsHigherAt}
use Rattle.plan_core.proofs.TruthFacts.{below_or_is}
use Rattle.lawful_check.proofs.edge_laws.is_over.Goals as goal

pub loop-x-preserved : goal.loop-x-preserved
loop-x-preserved c x less =
    elim (below_or_is x c.loop-x.x less) [
      | inl before ↦ c.loop-x.invariant x before
      | inr same ↦ subst (λ (y : ℕ). IsHigherAt c.args.g.now c.args.d.now c.args.e.0 c.args.f.0 y) (sym same)
          (c.is_higher_at.ensures.0 c.if-not-is_higher_at.false)
    ]

pub returns-else-not-is_higher_at : goal.returns-else-not-is_higher_at
returns-else-not-is_higher_at c = ((λ t x compared. at_or_before x compared), (λ over. refl))
  where
    last : c.east_end-x-end.result.x ≡ (east_end (line c.args.d.now c.args.e.0)).x
    last = ap (λ (p : Point). p.x) (c.east_end-x-end.ensures ∙ ap (λ (l : List Point). east_end l) c.line-upper.ensures)

    at_or_before : (x : ℕ) → AreCompared c.args.g.now c.args.d.now c.args.e.0 c.args.f.0 x →
        height (line c.args.d.now c.args.f.0) x < height (line c.args.d.now c.args.e.0) x
    at_or_before x compared =
        let to = compared.first.to_east in
        elim (below_or_is x c.loop-x.x (omega (arith, to, last))) [
          | inl before ↦ (c.loop-x.invariant x before).higher compared
          | inr same ↦ (subst (λ (y : ℕ). IsHigherAt c.args.g.now c.args.d.now c.args.e.0 c.args.f.0 y) (sym same)
              (c.is_higher_at.ensures.0 c.if-not-is_higher_at.false)).higher compared
        ]
