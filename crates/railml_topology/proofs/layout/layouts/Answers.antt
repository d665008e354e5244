use Rattle.std.proofs.Common.{◌≡◌, ◌+◌, List, [], ◌∷◌, ◌++◌, subst, sym, ap, ◌∙◌, Vec, Global}
use Rattle.railml_topology.specs.declared.layout.Layout.{Layout as Laid}
use Rattle.railml_topology.proofs.LayoutLemmas.{LaidUpTo, laid_more, laid_passed}
use Rattle.railml_topology.proofs.layout.layouts.Goals as goal
use Rattle.railml_topology.proofs.layout.layouts.Goals.{then-is_kind+in_ok-layout_of+in_ok-push, else-is_kind}

pub loop-i-preserved : goal.loop-i-preserved
loop-i-preserved c = elim c.if-is_kind.branch [
  | then-is_kind+in_ok-layout_of+in_ok-push w ↦
      let list : c.if-is_kind.list.items ≡ c.loop-i.list.items ++ w.in_ok-layout_of.field-0 ∷ [] = ap (λ (v : Vec Laid Global). v.items) w.list-is
      ∙ w.in_ok-push.ensures.items in
      subst (λ (v : List Laid). LaidUpTo c.args.rows.now (c.loop-i.i + 1) v) (sym list)
      (laid_more c.args.rows.now c.loop-i.i c.loop-i.list.items c.index-rows-i.result w.in_ok-layout_of.field-0 c.loop-i.invariant c.loop-i-test.true
      c.index-rows-i.is
      (sym c.is_kind.ensures ∙ w.if-is_kind.true) w.in_ok-layout_of.ensures.track w.in_ok-layout_of.ensures.laid)
  | else-is_kind w ↦
      let list : c.if-is_kind.list.items ≡ c.loop-i.list.items = ap (λ (v : Vec Laid Global). v.items) w.list-is in
      subst (λ (v : List Laid). LaidUpTo c.args.rows.now (c.loop-i.i + 1) v) (sym list)
      (laid_passed c.args.rows.now c.loop-i.i c.loop-i.list.items c.index-rows-i.result c.loop-i.invariant c.loop-i-test.true c.index-rows-i.is
      (sym c.is_kind.ensures ∙ w.if-is_kind.false))
]
