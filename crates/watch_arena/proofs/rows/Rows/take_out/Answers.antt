use Rattle.watch_arena.proofs.RowLemmas.{out_rows, out_done}
use Rattle.watch_arena.proofs.rows.Rows.take_out.Goals as goal

pub invariant_of-self : goal.invariant_of-self
invariant_of-self c = out_rows c.self.inside.rows.items c.self.inside.spaces.items c.self.inside.entries.items c.args.w c.args.self.now c.self.invariant
    c.self.view_is c.requires.row
    c.index-row.result.now c.index_mut-2.result.now c.index-row.ensures c.index_mut-2.ensures.value c.args.i c.index.result.now c.requires.below c.requires.long
    c.index.ensures

pub returns : goal.returns
returns c = out_done c.self.inside.rows.items c.self.inside.spaces.items c.self.inside.entries.items c.args.w c.args.self.now c.self.invariant c.self.view_is
    c.requires.row
    c.index-row.result.now c.index_mut-2.result.now c.index-row.ensures c.index_mut-2.ensures.value c.args.i c.index.result.now c.requires.below c.requires.long
    c.index.ensures
