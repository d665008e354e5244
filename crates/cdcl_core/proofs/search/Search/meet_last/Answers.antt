use Rattle.std.proofs.Common.{arith}
use Rattle.cdcl_core.proofs.RoundLemmas.{ends_spent}
use Rattle.cdcl_core.proofs.search.Search.meet_last.Goals as goal

pub returns-then-self-level-clause-ends : goal.returns-then-self-level-clause-ends
returns-then-self-level-clause-ends g c = ends_spent (g.L.LogSink.tells c.args.log.now) (g.L.LogSink.learnt c.args.log.now) c.args.query.now c.args.self.now
    c.requires.search c.requires.unrefuted c.requires.asking (let e = c.level.ensures.value in let t = c.if-self-level.true in omega arith)

pub refute-requires-clause-stop : goal.refute-requires-clause-stop
refute-requires-clause-stop g c = (c.requires.clash, (let e = c.level.ensures.value in let f = c.if-self-level.false in omega arith))
