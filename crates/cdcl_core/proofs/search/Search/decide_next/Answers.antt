use Rattle.cdcl_core.proofs.AskLemmas.{asking_past}
use Rattle.cdcl_core.proofs.search.Search.decide_next.Goals as goal

pub assume-requires-clause-asking : goal.assume-requires-clause-asking
assume-requires-clause-asking c = asking_past c.args.self.now.arena c.args.self.now.trail c.args.query.now c.args.self.now.levels c.args.self.now.assumed
    c.past_true-self.result c.requires.search.solving.grounded.marks c.past_true-self.ensures.from c.past_true-self.ensures.to c.past_true-self.ensures.before
    c.requires.asking

pub choose-requires-clause-asking : goal.choose-requires-clause-asking
choose-requires-clause-asking c = asking_past c.args.self.now.arena c.args.self.now.trail c.args.query.now c.args.self.now.levels c.args.self.now.assumed
    c.past_true-self.result c.requires.search.solving.grounded.marks c.past_true-self.ensures.from c.past_true-self.ensures.to c.past_true-self.ensures.before
    c.requires.asking

pub returns-then-self-query-clause-more : goal.returns-then-self-query-clause-more
returns-then-self-query-clause-more c = c.assume.ensures.more

pub returns-else-self-query-clause-more : goal.returns-else-self-query-clause-more
returns-else-self-query-clause-more c = c.choose.ensures.more
