use Rattle.std.proofs.Common.{◌≡◌, length, arith}
use Rattle.railml_faults.proofs.TableLemmas.{none_first, one_first, all_first}
use Rattle.railml_faults.proofs.ChildLemmas.{only_entry}
use Rattle.railml_faults.proofs.children.only_children.Goals as goal

pub loop-list-init : goal.loop-list-init
loop-list-init c = none_first _ c.new-table.result.items c.new-table.ensures.items

pub loop-list-preserved : goal.loop-list-preserved
loop-list-preserved c =
    let only = c.only_of_kind in
    one_first c.loop-list.invariant c.in_ok-push.ensures.items (only_entry c.args.rows.now c.args.children.now c.loop-list.list-index c.list-item.result
    c.args.kind c.deref.result.now only.result c.requires c.loop-list-test.true c.list-item.is c.deref.ensures.value only.ensures)

pub returns : goal.returns
returns c =
    let all : c.loop-list.list-index ≡ length c.args.rows.now = omega (arith, c.requires.whole, c.loop-list-test.false, c.loop-list.auto.list-index-end) in
    all_first c.loop-list.invariant all
