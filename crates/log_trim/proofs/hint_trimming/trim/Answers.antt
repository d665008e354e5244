use Rattle.std.proofs.Common.{◌≡◌, ◌+◌, length, sym, ◌∙◌, ap, arith}
use Rattle.std.specs.Prelude.{flat_map}
use Rattle.refute_log.specs.Log.{given}
use Rattle.log_trim.specs.Shortened.{learnt_among}
use Rattle.log_trim.proofs.UsedLemmas.{below_good}
use Rattle.log_trim.proofs.KeptLemmas.{trimmed, hinted_count}
use Rattle.log_trim.proofs.HintingLemmas.{given_first, hinting_all}
use Rattle.log_trim.proofs.hint_trimming.trim.Goals as goal

pub shorten-requires-clause-below : goal.shorten-requires-clause-below
shorten-requires-clause-below c =
    let first = given_first c.args.lines.now c.args.wanted.now c.in_ok-hinting.hinting (c.in_ok-hinting.ensures c.args.wanted.now) in
    let hinted = c.loop-i.invariant.hinted in
    below_good (flat_map given c.args.lines.now) c.in_ok-hinting.hinting.learnt c.loop-i.hinting.list first hinted.good

pub shorten-requires-clause-total : goal.shorten-requires-clause-total
shorten-requires-clause-total c =
    let first = given_first c.args.lines.now c.args.wanted.now c.in_ok-hinting.hinting (c.in_ok-hinting.ensures c.args.wanted.now) in
    let inv = c.loop-i.invariant in
    inv.learnt ∙ hinted_count c.args.lines.now c.args.wanted.now c.loop-i.i c.loop-i.hinting.list inv.hinted
    ∙ ap (λ n. n + learnt_among c.loop-i.hinting.list) (sym first)

pub returns : goal.returns
returns c =
    let first = given_first c.args.lines.now c.args.wanted.now c.in_ok-hinting.hinting (c.in_ok-hinting.ensures c.args.wanted.now) in
    let end : c.loop-i.i ≡ length c.args.lines.now = omega (arith, c.loop-i-test.false, c.loop-i.auto.i-end, c.len-i-end.ensures.value) in
    let all = hinting_all c.args.lines.now c.args.wanted.now c.loop-i.i c.loop-i.hinting end c.loop-i.invariant in (
      all.0,
      trimmed c.args.lines.now c.args.wanted.now c.in_ok-hinting.hinting.learnt c.loop-i.hinting.list c.in_ok-kept.kept c.requires first all.1
          c.in_ok-kept.ensures,
    )
