use Rattle.std.proofs.Common.{◌≡◌, ◌∙◌, List, arith, length, subst, drop}
use Rattle.cnf_core.specs.Lit.{Literal}
use Rattle.cnf_core.specs.Trail.{IsTrail, Grows}
use Rattle.refute_check.proofs.SupposeLemmas.{written_back}
use Rattle.refute_check.proofs.NotedLemmas.{notes_written}
use Rattle.refute_check.proofs.AddLemmas.{unit_counted}
use Rattle.refute_check.proofs.tables.Tables.mark_and_propagate.Goals as goal

pub propagate-requires-clause-counted : goal.propagate-requires-clause-counted
propagate-requires-clause-counted c =
    let vars = c.args.formula.now.vars in
    let clauses = c.args.formula.now.clauses in
    let old = c.args.self.now.trail.items in
    let t = subst (λ n. IsTrail n c.mark.new.truth c.mark.new.trail.items) c.vars.ensures.value c.in_ok-mark.ensures.trail in
    let t2 = subst (λ (ls : List Literal). IsTrail vars c.mark.new.truth ls) c.in_ok-mark.ensures.more t in
    let counted = unit_counted vars clauses c.args.self.now.truth.items c.mark.new.truth old c.args.self.now.counts.items c.args.l c.requires.counted t2 in
    let size : length c.mark.new.truth ≡ c.args.self.now.truth.len = c.mark.auto.truth ∙ c.deref_mut.ensures.len in
    let truth_is : c.deref_mut-3.result.now ≡ c.mark.new.truth = c.deref_mut-3.ensures.value
    ∙ written_back c.args.self.now.truth.len c.mark.new.truth (drop (length c.mark.new.truth) c.args.self.now.truth.items) size in
    let level : c.len-level.result ≡ length old = omega (arith, c.len-level.ensures) in
    rw (truth_is, c.deref_mut-2.ensures.value, level, c.in_ok-mark.ensures.more) counted

pub propagate-requires-clause-quiet : goal.propagate-requires-clause-quiet
propagate-requires-clause-quiet c =
    let level : c.len-level.result ≡ length c.args.self.now.trail.items = omega (arith, c.len-level.ensures) in
    rw (level, c.in_ok-mark.ensures.more) c.requires.quiet

pub returns-clause-grows : goal.returns-clause-grows
returns-clause-grows c = subst (λ (ls : List Literal). Grows c.args.formula.now.clauses ls c.propagate.new.trail.items) c.in_ok-mark.ensures.more
    c.in_ok-reached.ensures.grows

pub propagate-requires-clause-occurrences : goal.propagate-requires-clause-occurrences
propagate-requires-clause-occurrences c = rw c.deref.ensures.value c.requires.occurrences

pub returns-clause-falsified : goal.returns-clause-falsified
returns-clause-falsified c = c.in_ok-reached.ensures.falsified

pub returns-clause-all : goal.returns-clause-all
returns-clause-all c = c.in_ok-reached.ensures.all

pub returns-clause-quiet : goal.returns-clause-quiet
returns-clause-quiet c = c.in_ok-reached.ensures.quiet

pub returns-clause-noted : goal.returns-clause-noted
returns-clause-noted c =
    let size : length c.propagate.new.counts ≡ c.args.self.now.counts.len = c.propagate.auto.counts ∙ c.deref_mut-2.ensures.len in
    notes_written c.args.formula.now.clauses c.args.self.now.noted.items c.args.self.now.counts.items c.deref_mut-2.result.now c.propagate.new.noted.items
    c.propagate.new.counts (drop (length c.propagate.new.counts) c.args.self.now.counts.items) c.args.self.now.counts.len c.in_ok-reached.ensures.noted
    c.deref_mut-2.ensures.value size
