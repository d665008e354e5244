use Rattle.std.proofs.Common.{◌≡◌, refl, subst, arith}
use Rattle.watch_arena.proofs.RowLemmas.{IsCopied, copied_more, copied_all, copied_front}
use Rattle.watch_arena.proofs.rows.copy_to.Goals as goal

pub loop-i-init : goal.loop-i-init
loop-i-init c = record { front = λ j lt. refl; copied = λ k lt. absurd (omega arith) }

pub loop-i-preserved : goal.loop-i-preserved
loop-i-preserved c = copied_more c.args.entries.now c.loop-i.entries c.args.row.from c.args.from c.loop-i.i c.index-entries-row.result c.loop-i.invariant
    (omega arith) (omega arith) c.index-entries-row.is

pub returns-clause-copied : goal.returns-clause-copied
returns-clause-copied c =
    let at_end : c.loop-i.i ≡ c.args.row.len = omega arith in
    copied_all c.args.entries.now c.loop-i.entries c.args.row.from c.args.from c.args.row.len
    (subst (λ n. IsCopied c.args.entries.now c.loop-i.entries c.args.row.from c.args.from n) at_end c.loop-i.invariant) (omega arith) (omega arith)

pub returns-clause-front : goal.returns-clause-front
returns-clause-front c = copied_front c.args.entries.now c.loop-i.entries c.args.row.from c.args.from c.loop-i.i c.loop-i.invariant (omega arith) (omega arith)
