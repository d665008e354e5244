use Rattle.cdcl_learn.proofs.WorkLemmas.{met_facts}
use Rattle.cdcl_learn.proofs.work.Work.met_len.Goals as goal

pub returns-clause-value : goal.returns-clause-value
returns-clause-value c = let f = met_facts _ _ _ _ _ _ _ c.args.self.now c.self.view_is c.self.invariant in f.len

pub returns-clause-short : goal.returns-clause-short
returns-clause-short c = let f = met_facts _ _ _ _ _ _ _ c.args.self.now c.self.view_is c.self.invariant in f.short

pub returns-clause-marked : goal.returns-clause-marked
returns-clause-marked c = let f = met_facts _ _ _ _ _ _ _ c.args.self.now c.self.view_is c.self.invariant in f.marked

pub returns-clause-all : goal.returns-clause-all
returns-clause-all c = let f = met_facts _ _ _ _ _ _ _ c.args.self.now c.self.view_is c.self.invariant in f.all

pub returns-clause-apart : goal.returns-clause-apart
returns-clause-apart c = let f = met_facts _ _ _ _ _ _ _ c.args.self.now c.self.view_is c.self.invariant in f.apart
