use Rattle.std.proofs.Common.{◌≤◌, ap, subst}
use Rattle.cnf_core.specs.Propagation.{negations, greatest_var}
use Rattle.cnf_core.specs.Clause.{Clauses}
use Rattle.refute_check.specs.Kept.{CheckedFacts}
use Rattle.refute_check.specs.Standing.{IsOpenChecker, is_lost}
use Rattle.refute_check.specs.Novelty.{IsNovelty}
use Rattle.refute_check.proofs.CheckerLemmas.{contradicted_any}
use Rattle.refute_check.proofs.NoveltyLemmas.{known_by_clash}
use Rattle.refute_check.proofs.checker.Checker.weigh.Goals as goal

pub returns-in-Contradiction-clause-novelty : goal.returns-in-Contradiction-clause-novelty
returns-in-Contradiction-clause-novelty c =
    known_by_clash c.args.self.now.facts.clauses c.args.first c.args.others.now (contradicted_any c.self.inside.room c.self.inside.formula c.self.inside.query
    c.self.inside.refuted.items (is_lost c.self.inside.standing) c.args.self.now (negations c.args.others.now) (rw c.in-Contradiction.is at c.self.invariant)
    c.self.view_is)

pub returns-in_ok-novelty-in-Open-clause-novelty : goal.returns-in_ok-novelty-in-Open-clause-novelty
returns-in_ok-novelty-in-Open-clause-novelty c =
    subst (λ (cs : Clauses). IsNovelty cs c.args.first c.args.others.now c.in_ok-novelty-in-Open.novelty)
    (ap (λ (k : CheckedFacts). k.facts.clauses) c.self.view_is) c.in_ok-novelty-in-Open.ensures.novelty

pub returns-in_ok-novelty-in-Open-clause-greatest : goal.returns-in_ok-novelty-in-Open-clause-greatest
returns-in_ok-novelty-in-Open-clause-greatest c = λ _.
    let open_now : IsOpenChecker c.self.inside.formula c.self.inside.tables = rw c.in-Open.is at c.self.invariant in
    subst (λ (k : CheckedFacts). k.facts.greatest ≤ greatest_var k.facts.clauses) c.self.view_is open_now.greatest
