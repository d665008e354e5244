use Rattle.std.proofs.lemmas.Option.{slice_get_read}
use Rattle.railml_faults.proofs.ChildLemmas.{adds_child}
use Rattle.railml_faults.proofs.children.add_child.Goals as goal

pub returns-clause-added : goal.returns-clause-added
returns-clause-added c =
    let table = c.args.table.now in
    let list = c.index_mut.result.now in
    adds_child table.items c.args.parent c.args.child list c.push.new.self (slice_get_read table.items table.len c.args.parent list table.ok.0 c.requires
    c.index_mut.ensures.value) c.in_ok-push.ensures.items
