use Rattle.std.proofs.lemmas.List.Elements.{All-contains}
use Rattle.cnf_core.specs.Clause.{IsThere}
use Rattle.cnf_core.proofs.TrailLemmas.{there_all}
use Rattle.refute_check.proofs.GrowthLemmas.{unset_by_marks}
use Rattle.refute_check.proofs.AddLemmas.{unit_quiet, settled_unit, falsified_unit}
use Rattle.refute_check.proofs.tables.Tables.settle_unit.Goals as goal

pub mark_and_propagate-requires-clause-there : goal.mark_and_propagate-requires-clause-there
mark_and_propagate-requires-clause-there c = All-contains (IsThere c.args.formula.now.vars) c.args.lits.now c.args.l
    (there_all c.args.formula.now.vars c.args.lits.now c.requires.there) c.requires.unset.unit.among

pub mark_and_propagate-requires-clause-quiet : goal.mark_and_propagate-requires-clause-quiet
mark_and_propagate-requires-clause-quiet c =
    let u = unset_by_marks c.args.formula.now.vars c.args.self.now.truth.items c.args.self.now.trail.items c.args.lits.now c.args.l
    c.requires.listed.counted.table c.requires.unset in
    unit_quiet c.args.formula.now.clauses c.args.lits.now c.args.self.now.trail.items c.args.l c.requires.listed.quiet u

pub returns-clause-settled : goal.returns-clause-settled
returns-clause-settled c = λ f.
    let u = unset_by_marks c.args.formula.now.vars c.args.self.now.truth.items c.args.self.now.trail.items c.args.lits.now c.args.l
    c.requires.listed.counted.table c.requires.unset in
    let new = c.mark_and_propagate.new.self in
    settled_unit c.args.formula.now.vars c.args.formula.now.clauses c.args.lits.now c.args.l c.args.self.now (record {
      occurrences = new.occurrences;
      counts = new.counts;
      noted = c.clear.new.self;
      truth = new.truth;
      trail = new.trail;
      ahead = new.ahead;
    })
    c.in_ok-reached.reached.1 c.requires.listed u
    c.in_ok-reached.ensures.same c.in_ok-reached.ensures.counted c.in_ok-reached.ensures.grows (c.in_ok-reached.ensures.all f) (c.in_ok-reached.ensures.quiet f)
    c.clear.ensures.items

pub returns-clause-falsified : goal.returns-clause-falsified
returns-clause-falsified c = λ t.
    let u = unset_by_marks c.args.formula.now.vars c.args.self.now.truth.items c.args.self.now.trail.items c.args.lits.now c.args.l
    c.requires.listed.counted.table c.requires.unset in
    falsified_unit c.args.formula.now.vars c.args.formula.now.clauses c.args.lits.now c.args.l c.args.self.now c.mark_and_propagate.new.self.trail.items
    c.requires.listed u c.in_ok-reached.ensures.grows (c.in_ok-reached.ensures.falsified t)
