use Rattle.plan_words.proofs.SoundLemmas.{near_at, sound_more, leftmost_at}
use Rattle.plan_words.proofs.leftmost.leftmost_fault.Goals as goal

pub fault_of-requires : goal.fault_of-requires
fault_of-requires c = near_at c.args.command c.args.arguments.now c.loop-i.i c.index-arguments-i.result c.loop-i-test.true c.index-arguments-i.is
    c.loop-i.invariant c.requires

pub returns-in-Some : goal.returns-in-Some
returns-in-Some c = leftmost_at c.args.command c.args.arguments.now c.loop-i.i c.index-arguments-i.result c.in-Some.found.what c.in-Some.found.position
    c.loop-i-test.true c.index-arguments-i.is c.loop-i.invariant c.requires c.in-Some.ensures

pub loop-i-preserved : goal.loop-i-preserved
loop-i-preserved c = sound_more c.args.command c.args.arguments.now c.loop-i.i c.index-arguments-i.result c.loop-i-test.true c.index-arguments-i.is
    c.loop-i.invariant c.in_default.ensures
