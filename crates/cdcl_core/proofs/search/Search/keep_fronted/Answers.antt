use Rattle.std.proofs.Common.{subst, arith}
use Rattle.cdcl_core.specs.Search.{IsFronted}
use Rattle.cdcl_core.proofs.GivenLemmas.{false_all, silent_two}
use Rattle.cdcl_core.proofs.search.Search.keep_fronted.Goals as goal

pub keep_refuting-requires-clause-falsified : goal.keep_refuting-requires-clause-falsified
keep_refuting-requires-clause-falsified c = false_all c.args.self.now.trail c.args.clause
    (subst (IsFronted c.args.self.now.trail c.args.clause) c.if-front-eq0.true c.requires.fronted)

pub keep_one_open-requires-clause-fronted : goal.keep_one_open-requires-clause-fronted
keep_one_open-requires-clause-fronted c = subst (IsFronted c.args.self.now.trail c.args.clause) c.if-front-eq1.true c.requires.fronted

pub keep_silent-requires-clause-silent : goal.keep_silent-requires-clause-silent
keep_silent-requires-clause-silent c = silent_two c.args.self.now.trail c.args.clause c.args.front c.requires.fronted
    (let z = c.if-front-eq0.false in let o = c.if-front-eq1.false in omega arith)
