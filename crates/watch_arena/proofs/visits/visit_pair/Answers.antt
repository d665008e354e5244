use Rattle.std.proofs.Common.{sym, subst}
use Rattle.cnf_core.specs.Lit.{negate, literal_at}
use Rattle.cnf_core.proofs.TrailLemmas.{has_last}
use Rattle.std.specs.Prelude.{Some}
use Rattle.watch_arena.specs.Trail.{Marks, IsMarks, IsValue, with_lit}
use Rattle.watch_arena.specs.Walk.{HasWalked, IsTrueNoLater}
use Rattle.watch_arena.proofs.WalkLemmas.{held_now, fresh_with}
use Rattle.watch_arena.proofs.PairLemmas.{entry_there, pair_made, pair_clash}
use Rattle.watch_arena.proofs.visits.visit_pair.Goals as goal

pub value-requires : goal.value-requires
value-requires c = entry_there c.args.trail.now.vars c.args.words.now c.args.places.now c.args.w c.args.entry c.requires.store c.requires.entry

pub set-requires-clause-there : goal.set-requires-clause-there
set-requires-clause-there c = entry_there c.args.trail.now.vars c.args.words.now c.args.places.now c.args.w c.args.entry c.requires.store c.requires.entry

pub returns-in-None-clause-made : goal.returns-in-None-clause-made
returns-in-None-clause-made c = subst (λ (m : Marks). HasWalked c.args.trail.now m c.args.words.now c.args.words.now c.args.places.now)
    (sym c.set.ensures.value)
    (pair_made c.args.trail.now c.args.words.now c.args.places.now c.args.w c.args.entry c.requires.store c.requires.entry c.requires.pair
    c.len-trail.ensures.marks c.requires.false_now c.in-None.ensures)

pub returns-in-None-clause-held : goal.returns-in-None-clause-held
returns-in-None-clause-held c = λ _.
    let marks : IsMarks (with_lit c.args.trail.now c.args.entry.other c.args.entry.clause.0) = subst IsMarks c.set.ensures.value c.set.ensures.marks in
    subst (λ (m : Marks). IsTrueNoLater m (negate (literal_at c.args.w)) c.args.entry.other) (sym c.set.ensures.value)
    (held_now (with_lit c.args.trail.now c.args.entry.other c.args.entry.clause.0) c.args.w c.args.entry.other marks
    (fresh_with c.args.trail.now c.args.entry.other (negate (literal_at c.args.w)) c.args.entry.clause.0 c.len-trail.ensures.marks c.requires.fresh)
    (has_last c.args.trail.now.lits c.args.entry.other))

pub returns-in-Some-true-clause-held : goal.returns-in-Some-true-clause-held
returns-in-Some-true-clause-held c = λ _. held_now c.args.trail.now c.args.w c.args.entry.other c.len-trail.ensures.marks c.requires.fresh
    (subst (λ b. IsValue c.args.trail.now.lits c.args.entry.other (Some b)) c.in-Some-true.field-0-test c.in-Some-true.ensures)

pub returns-in-Some-false-clause-clash : goal.returns-in-Some-false-clause-clash
returns-in-Some-false-clause-clash c = λ _. pair_clash c.args.trail.now c.args.words.now c.args.places.now c.args.w c.args.entry c.requires.store
    c.requires.entry c.requires.pair c.len-trail.ensures.marks c.requires.false_now
    (subst (λ b. IsValue c.args.trail.now.lits c.args.entry.other (Some b)) c.in-Some-false.field-0-test c.in-Some-false.ensures)
