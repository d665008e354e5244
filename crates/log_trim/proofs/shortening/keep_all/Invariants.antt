use Rattle.std.proofs.Common.{◌≡◌, ◌≤◌, ◌+◌, ◌++◌, drop}
use Rattle.log_trim.specs.Shortened.{learnt_among, shortened}
use Rattle.log_trim.proofs.shortening.keep_all.Given as goal

abbrev pub invariant-loop-line : goal.invariant-loop-line
invariant-loop-line l = record {
  same : l.kept ++ shortened l.used l.numbers.items l.last (drop l.line-index l.line-items) ≡ shortened l.used l.fn.numbers.items l.given l.list;
  fits : l.last + learnt_among (drop l.line-index l.line-items) ≤ l.given + learnt_among l.list;
}
