use Rattle.std.proofs.Common.{◌≡◌, ◌≤◌, ◌∙◌, Bool, List, true, length, take, ap, sym, subst, arith}
use Rattle.std.proofs.lemmas.List.{take-take}
use Rattle.cnf_core.specs.Lit.{negate}
use Rattle.cnf_core.specs.Trail.{marked}
use Rattle.refute_check.specs.Tables.{AreOccurrences}
use Rattle.refute_check.proofs.NoveltyLemmas.{known_by_clash, known_by_closure, unproved_by_closure}
use Rattle.refute_check.proofs.tables.Tables.weigh.Goals as goal

pub returns-then-falsified-clause-novelty : goal.returns-then-falsified-clause-novelty
returns-then-falsified-clause-novelty c = known_by_clash c.args.formula.now.clauses c.args.first c.args.others.now
    (c.in_ok-falsified.ensures.falsified c.if-falsified.true)

pub returns-in-True-clause-novelty : goal.returns-in-True-clause-novelty
returns-in-True-clause-novelty c =
    let table = c.in_ok-falsified.ensures.counted.table in
    let h = subst (λ (bs : List Bool). marked bs c.args.first ≡ true) c.deref.ensures.value c.in-True.ensures in
    known_by_closure c.args.formula.now.clauses c.args.first c.args.others.now c.suppose.new.self.trail.items c.requires.distinct
    (c.in_ok-falsified.ensures.closed c.if-falsified.false) (c.in_ok-falsified.ensures.reasoned c.if-falsified.false) (sym (table.marks c.args.first) ∙ h)

pub returns-in-False-clause-novelty : goal.returns-in-False-clause-novelty
returns-in-False-clause-novelty c =
    let table = c.in_ok-falsified.ensures.counted.table in
    let h = subst (λ (bs : List Bool). marked bs (negate c.args.first) ≡ true) c.deref.ensures.value c.in-False.ensures in
    unproved_by_closure c.args.formula.now.clauses c.args.first c.args.others.now c.suppose.new.self.trail.items
    (c.in_ok-falsified.ensures.closed c.if-falsified.false) (sym (table.marks (negate c.args.first)) ∙ h)

pub suppose-requires-clause-settled : goal.suppose-requires-clause-settled
suppose-requires-clause-settled c = c.requires.settled

pub suppose-requires-clause-distinct : goal.suppose-requires-clause-distinct
suppose-requires-clause-distinct c = c.requires.distinct.1

pub deny_first-requires-clause-occurrences : goal.deny_first-requires-clause-occurrences
deny_first-requires-clause-occurrences c = subst (AreOccurrences c.args.formula.now.vars c.args.formula.now.clauses) (sym c.in_ok-falsified.ensures.same)
    c.requires.settled.occurrences

pub deny_first-requires-clause-quiet : goal.deny_first-requires-clause-quiet
deny_first-requires-clause-quiet c = c.in_ok-falsified.ensures.quiet c.if-falsified.false

pub deny_first-requires-clause-closure : goal.deny_first-requires-clause-closure
deny_first-requires-clause-closure c = c.in_ok-falsified.ensures.closed c.if-falsified.false

pub returns-in_ok-weighed-in-Unset-clause-front : goal.returns-in_ok-weighed-in-Unset-clause-front
returns-in_ok-weighed-in-Unset-clause-front c =
    let old = c.args.self.now.trail.items in
    let mid = c.suppose.new.self.trail.items in
    let longer : length old ≤ length mid = omega (arith, c.in_ok-falsified.ensures.on, c.in_ok-falsified.ensures.all c.if-falsified.false) in
    sym (take-take (length old) (length mid) c.deny_first.new.self.trail.items longer) ∙ ap (take (length old)) c.in_ok-weighed-in-Unset.ensures.front
    ∙ c.in_ok-falsified.ensures.front

pub returns-in_ok-weighed-in-Unset-clause-same : goal.returns-in_ok-weighed-in-Unset-clause-same
returns-in_ok-weighed-in-Unset-clause-same c = c.in_ok-weighed-in-Unset.ensures.same ∙ c.in_ok-falsified.ensures.same

pub returns-in_ok-weighed-in-Unset-clause-counted : goal.returns-in_ok-weighed-in-Unset-clause-counted
returns-in_ok-weighed-in-Unset-clause-counted c = c.in_ok-weighed-in-Unset.ensures.counted

pub returns-in_ok-weighed-in-Unset-clause-novelty : goal.returns-in_ok-weighed-in-Unset-clause-novelty
returns-in_ok-weighed-in-Unset-clause-novelty c = c.in_ok-weighed-in-Unset.ensures.novelty

pub returns-in_ok-weighed-in-Unset-clause-noted : goal.returns-in_ok-weighed-in-Unset-clause-noted
returns-in_ok-weighed-in-Unset-clause-noted c = λ before h. c.in_ok-weighed-in-Unset.ensures.noted before (c.in_ok-falsified.ensures.noted before h)
