use Rattle.std.proofs.Common.{sym, ◌∙◌, subst}
use Rattle.cnf_core.specs.Clause.{AreThere}
use Rattle.cdcl_core.proofs.StoreLemmas.{store_itself, store_more}
use Rattle.cdcl_core.proofs.search.Search.descend.Goals as goal

pub loop-clash-init : goal.loop-clash-init
loop-clash-init c = record {
  search = c.requires.search;
  unrefuted = c.requires.unrefuted;
  there = c.requires.there;
  asking = c.requires.asking;
  store = store_itself c.args.self.now;
}

pub returns-in-Some-clause-store : goal.returns-in-Some-clause-store
returns-in-Some-clause-store c = store_more c.args.self.now c.loop-clash.self c.propagate.new.self c.loop-clash.invariant.store c.propagate.ensures.store

pub decide_next-requires-clause-unrefuted : goal.decide_next-requires-clause-unrefuted
decide_next-requires-clause-unrefuted c = c.propagate.ensures.store.refuted ∙ c.loop-clash.invariant.unrefuted

pub decide_next-requires-clause-there : goal.decide_next-requires-clause-there
decide_next-requires-clause-there c = subst (λ v. AreThere v c.args.query.now) (sym c.propagate.ensures.store.vars) c.loop-clash.invariant.there

pub decide_next-requires-clause-asking : goal.decide_next-requires-clause-asking
decide_next-requires-clause-asking c = c.propagate.ensures.asking c.args.query.now c.loop-clash.invariant.asking

pub returns-in-Some-decide_next-clause-store : goal.returns-in-Some-decide_next-clause-store
returns-in-Some-decide_next-clause-store c = store_more c.args.self.now c.propagate.new.self c.decide_next.new.self
    (store_more c.args.self.now c.loop-clash.self c.propagate.new.self c.loop-clash.invariant.store c.propagate.ensures.store) c.decide_next.ensures.store

pub loop-clash-preserved : goal.loop-clash-preserved
loop-clash-preserved c = record {
  search = c.decide_next.ensures.search;
  unrefuted = c.decide_next.ensures.store.refuted ∙ c.propagate.ensures.store.refuted ∙ c.loop-clash.invariant.unrefuted;
  there = subst (λ v. AreThere v c.args.query.now) (sym (c.decide_next.ensures.store.vars ∙ c.propagate.ensures.store.vars)) c.loop-clash.invariant.there;
  asking = c.decide_next.ensures.asking;
  store = store_more c.args.self.now c.propagate.new.self c.decide_next.new.self (store_more c.args.self.now c.loop-clash.self c.propagate.new.self
      c.loop-clash.invariant.store c.propagate.ensures.store) c.decide_next.ensures.store;
}

pub returns-in-Some-clause-asking : goal.returns-in-Some-clause-asking
returns-in-Some-clause-asking c = c.propagate.ensures.asking c.args.query.now c.loop-clash.invariant.asking
