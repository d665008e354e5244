use Rattle.watch_arena.proofs.RowLemmas.{set_done}
use Rattle.watch_arena.proofs.rows.Rows.set_other.Goals as goal

pub returns : goal.returns
returns c = set_done c.self.inside.rows.items c.self.inside.spaces.items c.self.inside.entries.items c.args.w c.args.self.now c.self.invariant c.self.view_is
    c.requires.row
    c.index-row.result.now c.index-row.ensures c.args.i c.index_mut.result.now c.args.other c.requires.below c.index_mut.ensures.value
