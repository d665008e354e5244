use Rattle.std.proofs.Common.{◌≡◌, ◌+◌, List, Bool, length, subst, refl}
use Rattle.cnf_core.specs.Trail.{marked}
use Rattle.refute_check.specs.Tables.{Lists, false_count}
use Rattle.refute_check.proofs.AddLemmas.{listed}
use Rattle.refute_check.proofs.tables.Tables.list.Goals as goal

pub returns : goal.returns
returns c =
    let clauses = c.args.formula.now.clauses in
    let lists = subst (λ n. Lists c.args.lits.now n c.args.lits.now c.args.self.now.occurrences.items c.list_clause.new.occurrences.items)
    c.clauses.ensures.value c.in_ok-list_clause.ensures in
    let count = subst (λ (bs : List Bool). c.count_open-count.result + false_count (marked bs) c.args.lits.now ≡ length c.args.lits.now) c.deref.ensures.value
    c.count_open-count.ensures in
    listed c.args.formula.now.vars clauses c.args.lits.now c.count_open-count.result c.args.self.now (record {
      occurrences = c.list_clause.new.occurrences;
      counts = c.push.new.self;
      noted = c.args.self.now.noted;
      truth = c.args.self.now.truth;
      trail = c.args.self.now.trail;
      ahead = c.args.self.now.ahead;
    })
    c.requires.settled lists count c.in_ok-push.ensures.items refl refl refl
