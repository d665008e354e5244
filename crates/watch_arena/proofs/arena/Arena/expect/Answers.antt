use Rattle.std.proofs.Common.{arith, length, get_or, ap}
use Rattle.cnf_core.proofs.TrailLemmas.{there_get, word_below}
use Rattle.watch_arena.specs.Arena.{Attached}
use Rattle.watch_arena.proofs.arena.Arena.expect.Goals as goal

pub expect_all-requires : goal.expect_all-requires
expect_all-requires c = λ k d lt.
    let f = c.self.invariant.filed in
    let size = f.size in
    let there = there_get c.args.self.now.vars c.args.lits.now k d lt c.requires in
    omega (arith, word_below c.args.self.now.vars (get_or c.args.lits.now k d) there, ap (λ (a : Attached). a.vars) c.self.view_is)
