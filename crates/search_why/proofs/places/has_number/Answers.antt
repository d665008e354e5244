use Rattle.std.proofs.Common.{refl, sym, ◌∙◌}
use Rattle.search_why.proofs.PlaceLemmas.{number_here, number_later, number_nowhere}
use Rattle.search_why.proofs.places.has_number.Goals as goal

pub loop-x-init : goal.loop-x-init
loop-x-init c = refl

pub loop-x-preserved : goal.loop-x-preserved
loop-x-preserved c = c.loop-x.invariant ∙ number_later c.args.numbers.now c.loop-x.x-index c.args.n c.loop-x-test.true c.if-x-n.false

pub returns-then-x-n : goal.returns-then-x-n
returns-then-x-n c = sym (c.loop-x.invariant ∙ number_here c.args.numbers.now c.loop-x.x-index c.args.n c.loop-x-test.true c.if-x-n.true)

pub returns : goal.returns
returns c = sym (c.loop-x.invariant ∙ number_nowhere c.args.numbers.now c.loop-x.x-index c.args.n c.loop-x-test.false)
