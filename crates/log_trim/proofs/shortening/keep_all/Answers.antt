use Rattle.std.proofs.Common.{◌∙◌, ◌+◌, ◌++◌, drop, sym, ap, arith}
use Rattle.hint_log.specs.HintedLines.{HintLines}
use Rattle.log_trim.specs.Shortened.{shortened}
use Rattle.log_trim.proofs.UsedLemmas.{drop_at, count_at}
use Rattle.log_trim.proofs.shortening.keep_all.Goals as goal

pub keep_line-requires : goal.keep_line-requires
keep_line-requires c =
    let inv = c.loop-line.invariant in
    let items = c.as_slice-line-items.result.now in
    let i = c.loop-line.line-index in
    let here = count_at items i (i + 1) c.line-item.result (omega arith) c.loop-line-test.true c.line-item.is in
    let fits = inv.fits in
    omega (arith, here, fits, c.requires)

pub loop-line-preserved : goal.loop-line-preserved
loop-line-preserved c =
    let inv = c.loop-line.invariant in
    let items = c.as_slice-line-items.result.now in
    let i = c.loop-line.line-index in
    let rest = drop (i + 1) items in
    let here = count_at items i (i + 1) c.line-item.result (omega arith) c.loop-line-test.true c.line-item.is in
    let lines = drop_at items i (i + 1) c.line-item.result (omega arith) c.loop-line-test.true c.line-item.is in
    let took = c.in_ok-keep_line.ensures.kept rest in
    record {
      same = took ∙ ap (λ (ls : HintLines). c.loop-line.kept ++ shortened c.args.used.now c.loop-line.numbers.items c.loop-line.last ls) (sym lines) ∙ inv.same;
      fits = let fits = inv.fits in let more = c.in_ok-keep_line.ensures.last in omega (arith, here, fits, more);
    }
