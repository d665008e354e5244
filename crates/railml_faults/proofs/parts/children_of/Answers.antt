use Rattle.std.proofs.lemmas.Option.{slice_get_read}
use Rattle.railml_faults.proofs.parts.children_of.Goals as goal

pub returns : goal.returns
returns c =
    let table = c.args.tables.now.children in
    (c.index.result.now, slice_get_read table.items table.len c.args.i c.index.result.now table.ok.0 c.requires c.index.ensures, c.deref.ensures.value)
