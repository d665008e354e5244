use Rattle.watch_arena.proofs.RowLemmas.{push_done}
use Rattle.watch_arena.proofs.rows.Rows.push.Goals as goal

pub returns : goal.returns
returns c = push_done c.self.inside.rows.items c.self.inside.spaces.items c.self.inside.entries.items c.args.w c.args.self.now c.self.invariant c.self.view_is
    c.requires.row
    c.index-row.result.now c.index_mut-2.result.now c.index-row.ensures c.index_mut-2.ensures.value c.args.entry c.requires.place
