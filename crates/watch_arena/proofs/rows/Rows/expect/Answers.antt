use Rattle.cnf_core.specs.Lit.{word_of}
use Rattle.watch_arena.proofs.RoomLemmas.{expected_all}
use Rattle.watch_arena.proofs.rows.Rows.expect.Goals as goal

pub returns : goal.returns
returns c = expected_all c.self.inside.rows.items c.self.inside.spaces.items c.self.inside.entries.items c.word-2.result (word_of c.args.l)
    c.saturating_add.result c.args.self.now c.index_mut.result.now c.self.invariant c.self.view_is c.word-2.ensures.value c.requires
    c.index_mut.ensures.value
