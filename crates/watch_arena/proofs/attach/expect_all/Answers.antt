use Rattle.std.proofs.Common.{◌<◌, ◌∙◌, length, refl, ap, arith}
use Rattle.cnf_core.specs.Lit.{word_of}
use Rattle.watch_arena.specs.Rows.{Rowed}
use Rattle.watch_arena.proofs.attach.expect_all.Goals as goal

pub expect-requires : goal.expect-requires
expect-requires c =
    let all = c.requires c.loop-l.l-index c.l-item.result c.loop-l-test.true in
    omega (arith, ap word_of c.l-item.is, ap (λ (r : Rowed). length r.lists) c.loop-l.invariant)
