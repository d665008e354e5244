use Rattle.std.proofs.Common.{arith}
use Rattle.plan_core.specs.Line.{origin}
use Rattle.model_decode.proofs.DecodeLemmas.{one_taken, all_taken}
use Rattle.model_decode.proofs.decoding.places_of.Goals as goal

pub loop-n-init : goal.loop-n-init
loop-n-init c = λ d is. c.new-places.ensures.items

pub loop-n-preserved : goal.loop-n-preserved
loop-n-preserved c = λ d is.
    let to = c.loop-n-test.true in
    let end = c.nodes-end.ensures.value in
    let size = is.loose.fits.size.places in
    one_taken d.places c.loop-n.places.items c.push.new.self.items c.loop-n.n c.place_of.result origin (omega arith) (c.loop-n.invariant d is)
    c.in_ok-push.ensures.items (c.place_of.ensures d is)

pub returns : goal.returns
returns c = λ d is.
    let end = c.loop-n-test.false in
    let count = c.nodes-end.ensures.value in
    let size = is.loose.fits.size.places in
    all_taken d.places c.loop-n.places.items c.loop-n.n (omega arith) (c.loop-n.invariant d is)
