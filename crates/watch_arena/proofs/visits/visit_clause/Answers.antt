use Rattle.std.proofs.Common.{◌≡◌, ◌≤◌, ◌<◌, ℕ, ◌+◌, ◌*◌, ◌/◌, ◌∙◌, List, length, refl, sym, subst, ap, arith}
use Rattle.std.specs.Prelude.{Contains}
use Rattle.cnf_core.specs.Lit.{Literal}
use Rattle.watch_arena.specs.Words.{arena_word}
use Rattle.watch_arena.specs.Trail.{Marks, IsMarks, with_lit}
use Rattle.watch_arena.specs.Rows.{Rowed, row_of, pairs_of, with_row, with_other}
use Rattle.watch_arena.specs.Walk.{HasLit, HasWalked, done_of}
use Rattle.watch_arena.specs.Filed.{place_at, IsWalking}
use Rattle.watch_arena.proofs.ClosureLemmas.{made_none}
use Rattle.watch_arena.proofs.ReasonWalkLemmas.{alone_made, text_made}
use Rattle.watch_arena.proofs.VisitLemmas.{walking_back}
use Rattle.watch_arena.proofs.LookLemmas.{ready, other_in, other_there, true_changed, set_changed, look_clash}
use Rattle.watch_arena.proofs.visits.visit_clause.Goals as goal

pub watch_of-s-requires-clause-within : goal.watch_of-s-requires-clause-within
watch_of-s-requires-clause-within c =
    let r = ready _ _ _ _ _ _ _ _ _ c.requires.walking c.requires.clause in
    let two = r.two in
    let within = r.within in
    omega arith

pub watch_of-s-requires-clause-limit : goal.watch_of-s-requires-clause-limit
watch_of-s-requires-clause-limit c = let r = ready _ _ _ _ _ _ _ _ _ c.requires.walking c.requires.clause in r.limit

pub watch_of-s-requires-clause-one : goal.watch_of-s-requires-clause-one
watch_of-s-requires-clause-one c = let r = ready _ _ _ _ _ _ _ _ _ c.requires.walking c.requires.clause in r.one

pub look_at-requires-clause-store : goal.look_at-requires-clause-store
look_at-requires-clause-store c = let x = c.requires.walking in let f = x.filed in f.store

pub look_at-requires-clause-place : goal.look_at-requires-clause-place
look_at-requires-clause-place c =
    let r = ready _ _ _ _ _ _ _ _ _ c.requires.walking c.requires.clause in
    subst (Contains c.args.places.now) (sym c.watch_of-s.ensures.place) r.place

pub set_other-requires-clause-row : goal.set_other-requires-clause-row
set_other-requires-clause-row c = let x = c.requires.walking in x.row

pub set_other-requires-clause-below : goal.set_other-requires-clause-below
set_other-requires-clause-below c = let r = ready _ _ _ _ _ _ _ _ _ c.requires.walking c.requires.clause in r.below

pub returns-in-True-clause-made : goal.returns-in-True-clause-made
returns-in-True-clause-made c = made_none c.args.trail.now c.args.words.now c.args.places.now

pub returns-in-True-clause-pairs : goal.returns-in-True-clause-pairs
returns-in-True-clause-pairs c = ap (λ (r : Rowed). r.pairs) c.set_other.ensures

pub returns-in-True-clause-walking : goal.returns-in-True-clause-walking
returns-in-True-clause-walking c = λ _.
    let r = ready _ _ _ _ _ _ _ _ _ c.requires.walking c.requires.clause in
    let place = c.watch_of-s.ensures.place in
    let two : 2 ≤ arena_word c.args.words.now (c.watch_of-s.result / 2) = subst
    (λ p. 2 ≤ arena_word c.args.words.now p) (sym place) r.two in
    let has : HasLit c.args.words.now (place_at (row_of c.args.rows.now c.args.w) c.args.i) c.in-True.l = subst
    (λ p. HasLit c.args.words.now p c.in-True.l) (place ∙ sym c.requires.clause)
    (other_in c.args.words.now c.args.places.now c.watch_of-s.result c.in-True.l two c.in-True.ensures.0) in
    subst (λ (r : Rowed). IsWalking c.args.trail.now c.args.words.now c.args.places.now r (done_of c.args.trail.now) c.args.w
    (pairs_of c.args.rows.now c.args.w) c.args.i) (sym c.set_other.ensures)
    (true_changed c.args.trail.now c.args.words.now c.args.places.now c.args.rows.now c.args.w (pairs_of c.args.rows.now c.args.w) c.args.i
    c.requires.walking c.len-trail.ensures.marks c.requires.fresh c.in-True.l has c.in-True.ensures.1 c.requires.long)

pub move_watch-requires-clause-place : goal.move_watch-requires-clause-place
move_watch-requires-clause-place c = c.requires.clause ∙ sym c.watch_of-s.ensures.place

pub move_watch-requires-clause-lit : goal.move_watch-requires-clause-lit
move_watch-requires-clause-lit c = c.watch_of-s.ensures.lit

pub move_watch-requires-clause-open_ : goal.move_watch-requires-clause-open_
move_watch-requires-clause-open_ c = c.in-Move.ensures.1

pub move_watch-requires-clause-other : goal.move_watch-requires-clause-other
move_watch-requires-clause-other c =
    let r = ready _ _ _ _ _ _ _ _ _ c.requires.walking c.requires.clause in
    let two : 2 ≤ arena_word c.args.words.now (c.watch_of-s.result / 2) = subst
    (λ p. 2 ≤ arena_word c.args.words.now p) (sym c.watch_of-s.ensures.place) r.two in
    other_in c.args.words.now c.args.places.now c.watch_of-s.result c.in-Move.l two c.in-Move.ensures.0

pub returns-in-Move-clause-made : goal.returns-in-Move-clause-made
returns-in-Move-clause-made c = text_made c.args.trail.now c.args.words.now c.move_watch.new.words c.args.places.now c.move_watch.ensures.text

pub returns-in-Move-clause-walking : goal.returns-in-Move-clause-walking
returns-in-Move-clause-walking c = λ _. c.move_watch.ensures.walking

pub set-requires-clause-there : goal.set-requires-clause-there
set-requires-clause-there c =
    let r = ready _ _ _ _ _ _ _ _ _ c.requires.walking c.requires.clause in
    let x = c.requires.walking in
    let f = x.filed in
    other_there c.args.trail.now.vars c.args.words.now c.args.places.now c.watch_of-s.result c.in-Unit.l f.store
    (subst (Contains c.args.places.now) (sym c.watch_of-s.ensures.place) r.place) c.in-Unit.ensures.is

pub set_other-requires-in-Unit-clause-row : goal.set_other-requires-in-Unit-clause-row
set_other-requires-in-Unit-clause-row c = let x = c.requires.walking in x.row

pub set_other-requires-in-Unit-clause-below : goal.set_other-requires-in-Unit-clause-below
set_other-requires-in-Unit-clause-below c = let r = ready _ _ _ _ _ _ _ _ _ c.requires.walking c.requires.clause in r.below

pub returns-in-Unit-clause-made : goal.returns-in-Unit-clause-made
returns-in-Unit-clause-made c =
    let r = ready _ _ _ _ _ _ _ _ _ c.requires.walking c.requires.clause in
    let x = c.requires.walking in
    let f = x.filed in
    let m = c.args.trail.now in
    let here = subst (Contains c.args.places.now) (sym c.watch_of-s.ensures.place) r.place in
    let there = other_there m.vars c.args.words.now c.args.places.now c.watch_of-s.result c.in-Unit.l f.store here c.in-Unit.ensures.is in
    subst (λ (n : Marks). HasWalked c.args.trail.now n c.args.words.now c.args.words.now c.args.places.now) (sym c.set.ensures.value)
    (subst (λ p. HasWalked c.args.trail.now (with_lit c.args.trail.now c.in-Unit.l p) c.args.words.now c.args.words.now c.args.places.now)
    c.watch_of-s.ensures.place
    (alone_made m c.args.words.now c.args.places.now c.args.w c.watch_of-s.result c.in-Unit.l f.store here c.watch_of-s.ensures.lit c.requires.false_now
    c.len-trail.ensures.marks there c.in-Unit.ensures))

pub returns-in-Unit-clause-pairs : goal.returns-in-Unit-clause-pairs
returns-in-Unit-clause-pairs c = ap (λ (r : Rowed). r.pairs) c.set_other-in-Unit.ensures

pub returns-in-Unit-clause-walking : goal.returns-in-Unit-clause-walking
returns-in-Unit-clause-walking c = λ _.
    let r = ready _ _ _ _ _ _ _ _ _ c.requires.walking c.requires.clause in
    let place = c.watch_of-s.ensures.place in
    let two : 2 ≤ arena_word c.args.words.now (c.watch_of-s.result / 2) = subst
    (λ p. 2 ≤ arena_word c.args.words.now p) (sym place) r.two in
    let has : HasLit c.args.words.now (place_at (row_of c.args.rows.now c.args.w) c.args.i) c.in-Unit.l = subst
    (λ p. HasLit c.args.words.now p c.in-Unit.l) (place ∙ sym c.requires.clause)
    (other_in c.args.words.now c.args.places.now c.watch_of-s.result c.in-Unit.l two c.in-Unit.ensures.is) in
    let more : IsMarks (with_lit c.args.trail.now c.in-Unit.l c.args.clause.0) = subst IsMarks c.set.ensures.value c.set.ensures.marks in
    subst (λ (r : Rowed). IsWalking c.set.new.self c.args.words.now c.args.places.now r (done_of c.set.new.self) c.args.w
    (pairs_of c.args.rows.now c.args.w) c.args.i) (sym c.set_other-in-Unit.ensures)
    (subst (λ (n : Marks). IsWalking n c.args.words.now c.args.places.now
    (with_row c.args.rows.now c.args.w (with_other (row_of c.args.rows.now c.args.w) c.args.i c.in-Unit.l)) (done_of n) c.args.w
    (pairs_of c.args.rows.now c.args.w) c.args.i) (sym c.set.ensures.value)
    (set_changed c.args.trail.now c.args.words.now c.args.places.now c.args.rows.now c.args.w (pairs_of c.args.rows.now c.args.w) c.args.i
    c.requires.walking c.len-trail.ensures.marks c.requires.fresh c.in-Unit.l has c.args.clause.0 more c.requires.front c.requires.long))

pub returns-in-Falsified-clause-made : goal.returns-in-Falsified-clause-made
returns-in-Falsified-clause-made c = made_none c.args.trail.now c.args.words.now c.args.places.now

pub returns-in-Falsified-clause-watched : goal.returns-in-Falsified-clause-watched
returns-in-Falsified-clause-watched c = walking_back c.args.trail.now c.args.words.now c.args.places.now c.args.rows.now c.args.w
    (pairs_of c.args.rows.now c.args.w) (c.args.i + 1) c.requires.fresh c.requires.walking

pub returns-in-Falsified-clause-clash : goal.returns-in-Falsified-clause-clash
returns-in-Falsified-clause-clash c =
    let r = ready _ _ _ _ _ _ _ _ _ c.requires.walking c.requires.clause in
    look_clash c.args.words.now c.args.places.now _ c.args.w c.watch_of-s.result c.args.clause.0 r.place c.watch_of-s.ensures.place
    c.watch_of-s.ensures.lit c.requires.false_now c.in-Falsified.ensures
