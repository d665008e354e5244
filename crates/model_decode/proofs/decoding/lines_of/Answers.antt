use Rattle.std.proofs.Common.{[], arith}
use Rattle.model_decode.proofs.DecodeLemmas.{one_taken, all_taken}
use Rattle.model_decode.proofs.decoding.lines_of.Goals as goal

pub loop-k-init : goal.loop-k-init
loop-k-init c = λ d is. c.new-lines.ensures.items

pub loop-k-preserved : goal.loop-k-preserved
loop-k-preserved c = λ d is.
    let to = c.loop-k-test.true in
    let end = c.edges-end.ensures.value in
    let size = is.loose.fits.size.lines in
    one_taken d.lines c.loop-k.lines.items c.push.new.self.items c.loop-k.k c.line_of.result [] (omega arith) (c.loop-k.invariant d is)
    c.in_ok-push.ensures.items (c.line_of.ensures d is)

pub returns : goal.returns
returns c = λ d is.
    let end = c.loop-k-test.false in
    let count = c.edges-end.ensures.value in
    let size = is.loose.fits.size.lines in
    all_taken d.lines c.loop-k.lines.items c.loop-k.k (omega arith) (c.loop-k.invariant d is)
