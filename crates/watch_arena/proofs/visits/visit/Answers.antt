use Rattle.std.proofs.Common.{◌≡◌, ◌∙◌, ℕ, ◌+◌, length, sym, subst, ap, arith}
use Rattle.cnf_core.specs.Lit.{Literal, negate, has}
use Rattle.cnf_core.specs.Clause.{IsThere}
use Rattle.cnf_core.specs.Propagation.{IsIn}
use Rattle.cnf_core.proofs.PropagationLemmas.{negate-negate}
use Rattle.watch_arena.specs.declared.rows.Entry.{Entry}
use Rattle.watch_arena.specs.Rows.{entry_at, row_of, pairs_of}
use Rattle.watch_arena.specs.Walk.{HasLit}
use Rattle.watch_arena.specs.Filed.{place_at}
use Rattle.watch_arena.proofs.ClosureLemmas.{made_none}
use Rattle.watch_arena.proofs.PairLemmas.{entry_there}
use Rattle.watch_arena.proofs.LookLemmas.{ready, true_walking}
use Rattle.watch_arena.proofs.visits.visit.Goals as goal

pub entry-entry-requires-clause-row : goal.entry-entry-requires-clause-row
entry-entry-requires-clause-row c = let x = c.requires.walking in x.row

pub entry-entry-requires-clause-below : goal.entry-entry-requires-clause-below
entry-entry-requires-clause-below c = let x = c.requires.walking in let within = x.within in omega arith

pub is_false-requires : goal.is_false-requires
is_false-requires c =
    let x = c.requires.walking in
    let f = x.filed in
    let rows = f.entered in
    let within = x.within in
    let e = rows.right c.args.w c.args.i x.row (omega arith) in
    let there : IsThere c.args.trail.now.vars (entry_at (row_of c.args.rows.now c.args.w) c.args.i).other = entry_there c.args.trail.now.vars c.args.words.now
    c.args.places.now c.args.w (entry_at (row_of c.args.rows.now c.args.w) c.args.i) f.store e in
    subst (λ (l : Literal). IsThere c.args.trail.now.vars l) (sym c.negated.ensures)
    (subst (λ (b : Entry). IsThere c.args.trail.now.vars (negate b.other)) (sym c.entry-entry.ensures) there)

pub returns-then-is_false-clause-made : goal.returns-then-is_false-clause-made
returns-then-is_false-clause-made c = made_none c.args.trail.now c.args.words.now c.args.places.now

pub returns-then-is_false-clause-walking : goal.returns-then-is_false-clause-walking
returns-then-is_false-clause-walking c = λ _.
    let x = c.requires.walking in
    let f = x.filed in
    let rows = f.entered in
    let within = x.within in
    let e = rows.right c.args.w c.args.i x.row (omega arith) in
    let o = (entry_at (row_of c.args.rows.now c.args.w) c.args.i).other in
    let has_it : HasLit c.args.words.now (place_at (row_of c.args.rows.now c.args.w) c.args.i) o = subst (λ p. HasLit c.args.words.now p o) (sym e.clause)
    e.other in
    let now : IsIn (has c.args.trail.now.lits) o = ap (has c.args.trail.now.lits) (sym (negate-negate o) ∙ ap (λ (b : Entry). negate (negate b.other))
    (sym c.entry-entry.ensures) ∙ ap negate (sym c.negated.ensures)) ∙ sym c.is_false.ensures ∙ c.if-is_false.true in
    true_walking c.args.trail.now c.args.words.now c.args.places.now c.args.rows.now c.args.w (pairs_of c.args.rows.now c.args.w) c.args.i
    c.requires.walking c.len-trail.ensures.marks c.requires.fresh o has_it now

pub visit_clause-requires-clause-clause : goal.visit_clause-requires-clause-clause
visit_clause-requires-clause-clause c = ap (λ (b : Entry). b.clause.0) (sym c.entry-entry.ensures)
