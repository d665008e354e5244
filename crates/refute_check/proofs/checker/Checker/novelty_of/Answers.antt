use Rattle.std.proofs.Common.{◌-◌, length, take, drop, subst}
use Rattle.cnf_core.specs.Clause.{AreDistinct}
use Rattle.refute_check.proofs.CheckerLemmas.{split_first}
use Rattle.refute_check.proofs.NoveltyLemmas.{whole_novelty}
use Rattle.refute_check.proofs.checker.Checker.novelty_of.Goals as goal

pub weigh-requires-clause-distinct : goal.weigh-requires-clause-distinct
weigh-requires-clause-distinct c = subst AreDistinct (split_first c.args.lits.now c.index-lits-0.result c.requires.some c.index-lits-0.is) c.requires.distinct

pub returns-clause-novelty : goal.returns-clause-novelty
returns-clause-novelty c =
    whole_novelty c.args.self.now.facts.clauses c.args.lits.now c.index-lits-0.result (take (length c.args.lits.now - 1) (drop 1 c.args.lits.now))
    c.args.self.now.facts.greatest c.in_ok-novelty.novelty
    (split_first c.args.lits.now c.index-lits-0.result c.requires.some c.index-lits-0.is) c.in_ok-novelty.ensures.greatest c.requires.there
    c.in_ok-novelty.ensures.novelty
