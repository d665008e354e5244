use Rattle.watch_arena.proofs.RowLemmas.{pair_rows, pair_done}
use Rattle.watch_arena.proofs.rows.Rows.push_pair.Goals as goal

pub invariant_of-self : goal.invariant_of-self
invariant_of-self c = pair_rows c.self.inside.rows.items c.self.inside.spaces.items c.self.inside.entries.items c.args.w c.args.self.now c.self.invariant
    c.self.view_is c.requires.row
    c.index-row.result.now c.index-row.result.now c.index-row.ensures c.index-row.ensures c.args.entry c.index.result.now c.requires.place c.index.ensures

pub returns : goal.returns
returns c = pair_done c.self.inside.rows.items c.self.inside.spaces.items c.self.inside.entries.items c.args.w c.args.self.now c.self.invariant c.self.view_is
    c.requires.row
    c.index-row.result.now c.index-row.result.now c.index-row.ensures c.index-row.ensures c.args.entry c.index.result.now c.requires.place c.index.ensures
