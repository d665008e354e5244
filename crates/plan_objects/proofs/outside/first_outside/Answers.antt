use Rattle.std.proofs.Common.{length, refl}
use Rattle.std.proofs.lemmas.Option.{slice_get_read}
use Rattle.plan_objects.specs.Faults.{LiesOutside}
use Rattle.plan_core.proofs.SearchLemmas.{found_first, none_more_tested}
use Rattle.plan_objects.proofs.outside.first_outside.Goals as goal

pub lies_outside-requires : goal.lies_outside-requires
lies_outside-requires c =
    let signals = c.args.signals.now in
    c.requires.each c.loop-i.i c.index-signals-i.result (slice_get_read signals (length signals) c.loop-i.i c.index-signals-i.result refl c.loop-i-test.true
    c.index-signals-i.is)

pub returns-then-lies_outside : goal.returns-then-lies_outside
returns-then-lies_outside c = found_first {P = λ _ signal. LiesOutside c.args.rows.now c.args.t.now signal} c.loop-i.invariant c.loop-i-test.true
    c.index-signals-i.is (c.lies_outside.ensures.0 c.if-lies_outside.true)

pub loop-i-preserved : goal.loop-i-preserved
loop-i-preserved c = none_more_tested {P = λ _ signal. LiesOutside c.args.rows.now c.args.t.now signal} c.lies_outside.result c.loop-i.invariant
    c.loop-i-test.true c.index-signals-i.is c.lies_outside.ensures.1 c.if-lies_outside.false
