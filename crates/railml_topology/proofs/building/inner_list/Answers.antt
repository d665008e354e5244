use Rattle.std.proofs.Common.{◌+◌, List, get_or, take, subst, sym}
use Rattle.std.specs.List.{AllZip}
use Rattle.std.proofs.lemmas.List.{get_or_default}
use Rattle.plan_core.specs.declared.topology.Inner.{Inner as Part}
use Rattle.railml_topology.specs.Resolved.{IsInnerOf}
use Rattle.railml_topology.proofs.BuildLemmas.{zip_taken}
use Rattle.railml_topology.proofs.building.inner_list.Goals as goal

pub loop-number-preserved : goal.loop-number-preserved
loop-number-preserved c =
    let number = get_or c.args.numbers.now c.loop-number.number-index 0 in
    subst (λ (v : List Part). AllZip (IsInnerOf c.args.site.now.rows.now c.args.site.now.layouts.now c.args.begin.now)
    (take (c.loop-number.number-index + 1) c.args.numbers.now) v) (sym c.in_ok-push.ensures.ok)
    (zip_taken (IsInnerOf c.args.site.now.rows.now c.args.site.now.layouts.now c.args.begin.now) c.args.numbers.now c.loop-number.list
    c.loop-number.number-index number c.in_ok-inner_of.field-0 c.loop-number-test.true
    (get_or_default c.args.numbers.now c.loop-number.number-index 0 number c.loop-number-test.true) c.loop-number.invariant c.in_ok-inner_of.ensures)
