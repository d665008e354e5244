use Rattle.std.proofs.Common.{rules, ◌≡◌, ◌∙◌, sym, subst, List, ℕ, length, drop, vec_len}
use Rattle.std.proofs.lemmas.List.{take_at}
use Rattle.std.specs.Vec.{with_items}
use Rattle.watch_arena.specs.Walk.{past_of}
use Rattle.watch_arena.specs.Filed.{IsWatched}
use Rattle.watch_arena.proofs.ArenaLemmas.{arena_watched, propagated, closes, falsifies, clash_of, some_weaker}
use Rattle.watch_arena.proofs.arena.Arena.propagate.Goals as goal

pub propagate-requires : goal.propagate-requires
propagate-requires c =
    let m = c.args.trail.now in
    let a = c.self.inside in
    let w = arena_watched a.vars a.room a.words.items a.places.items a.rows a.visits c.args.self.now c.self.invariant c.self.view_is m c.requires.vars
    c.requires.watched in
    subst (λ (x : List ℕ). IsWatched m x c.deref.result.now a.rows (past_of m)) (sym c.deref_mut.ensures.value)
    (subst (λ (x : List ℕ). IsWatched m a.words.items x a.rows (past_of m)) (sym c.deref.ensures.value) w)

pub returns-clause-watched : goal.returns-clause-watched
returns-clause-watched c =
    let size : length c.propagate.new.words ≡ length c.deref_mut.result.now = c.propagate.auto.words in
    let len : length c.deref_mut.result.now ≡ vec_len c.self.inside.words = search rules in
    let words = with_items c.self.inside.words c.propagate.new.words in
    let items : words.items ≡ c.propagate.new.words = take_at c.propagate.new.words (drop (length c.propagate.new.words) c.self.inside.words.items)
    (vec_len c.self.inside.words) (size ∙ len) in
    let x = propagated c.args.self.now c.self.inside.vars c.self.inside.room c.self.inside.visits c.propagate.new.visits c.self.inside.words.items
    c.self.inside.places.items c.deref_mut.result.now c.deref.result.now c.propagate.new.rows c.propagate.new.words words.items c.args.trail.now
    c.propagate.new.trail
    c.self.view_is c.deref_mut.ensures.value c.deref.ensures.value items size c.propagate.ensures.made c.propagate.ensures.watched in
    x.watched

pub returns-clause-reasoned : goal.returns-clause-reasoned
returns-clause-reasoned c =
    let size : length c.propagate.new.words ≡ length c.deref_mut.result.now = c.propagate.auto.words in
    let len : length c.deref_mut.result.now ≡ vec_len c.self.inside.words = search rules in
    let words = with_items c.self.inside.words c.propagate.new.words in
    let items : words.items ≡ c.propagate.new.words = take_at c.propagate.new.words (drop (length c.propagate.new.words) c.self.inside.words.items)
    (vec_len c.self.inside.words) (size ∙ len) in
    let x = propagated c.args.self.now c.self.inside.vars c.self.inside.room c.self.inside.visits c.propagate.new.visits c.self.inside.words.items
    c.self.inside.places.items c.deref_mut.result.now c.deref.result.now c.propagate.new.rows c.propagate.new.words words.items c.args.trail.now
    c.propagate.new.trail
    c.self.view_is c.deref_mut.ensures.value c.deref.ensures.value items size c.propagate.ensures.made c.propagate.ensures.watched in
    x.reasoned

pub returns-clause-because : goal.returns-clause-because
returns-clause-because c =
    let size : length c.propagate.new.words ≡ length c.deref_mut.result.now = c.propagate.auto.words in
    let len : length c.deref_mut.result.now ≡ vec_len c.self.inside.words = search rules in
    let words = with_items c.self.inside.words c.propagate.new.words in
    let items : words.items ≡ c.propagate.new.words = take_at c.propagate.new.words (drop (length c.propagate.new.words) c.self.inside.words.items)
    (vec_len c.self.inside.words) (size ∙ len) in
    let x = propagated c.args.self.now c.self.inside.vars c.self.inside.room c.self.inside.visits c.propagate.new.visits c.self.inside.words.items
    c.self.inside.places.items c.deref_mut.result.now c.deref.result.now c.propagate.new.rows c.propagate.new.words words.items c.args.trail.now
    c.propagate.new.trail
    c.self.view_is c.deref_mut.ensures.value c.deref.ensures.value items size c.propagate.ensures.made c.propagate.ensures.watched in
    x.because

pub returns-clause-text : goal.returns-clause-text
returns-clause-text c =
    let size : length c.propagate.new.words ≡ length c.deref_mut.result.now = c.propagate.auto.words in
    let len : length c.deref_mut.result.now ≡ vec_len c.self.inside.words = search rules in
    let words = with_items c.self.inside.words c.propagate.new.words in
    let items : words.items ≡ c.propagate.new.words = take_at c.propagate.new.words (drop (length c.propagate.new.words) c.self.inside.words.items)
    (vec_len c.self.inside.words) (size ∙ len) in
    let x = propagated c.args.self.now c.self.inside.vars c.self.inside.room c.self.inside.visits c.propagate.new.visits c.self.inside.words.items
    c.self.inside.places.items c.deref_mut.result.now c.deref.result.now c.propagate.new.rows c.propagate.new.words words.items c.args.trail.now
    c.propagate.new.trail
    c.self.view_is c.deref_mut.ensures.value c.deref.ensures.value items size c.propagate.ensures.made c.propagate.ensures.watched in
    x.text

pub returns-clause-grows : goal.returns-clause-grows
returns-clause-grows c =
    let size : length c.propagate.new.words ≡ length c.deref_mut.result.now = c.propagate.auto.words in
    let len : length c.deref_mut.result.now ≡ vec_len c.self.inside.words = search rules in
    let words = with_items c.self.inside.words c.propagate.new.words in
    let items : words.items ≡ c.propagate.new.words = take_at c.propagate.new.words (drop (length c.propagate.new.words) c.self.inside.words.items)
    (vec_len c.self.inside.words) (size ∙ len) in
    let x = propagated c.args.self.now c.self.inside.vars c.self.inside.room c.self.inside.visits c.propagate.new.visits c.self.inside.words.items
    c.self.inside.places.items c.deref_mut.result.now c.deref.result.now c.propagate.new.rows c.propagate.new.words words.items c.args.trail.now
    c.propagate.new.trail
    c.self.view_is c.deref_mut.ensures.value c.deref.ensures.value items size c.propagate.ensures.made c.propagate.ensures.watched in
    x.grows

pub returns-clause-closes : goal.returns-clause-closes
returns-clause-closes c = λ none. closes c.args.self.now _ _ _ _ _ _ _ c.args.trail.now c.propagate.new.trail c.self.view_is c.deref_mut.ensures.value
    c.deref.ensures.value (c.propagate.ensures.closes none)

pub returns-clause-clash : goal.returns-clause-clash
returns-clause-clash c =
    let size : length c.propagate.new.words ≡ length c.deref_mut.result.now = c.propagate.auto.words in
    let len : length c.deref_mut.result.now ≡ vec_len c.self.inside.words = search rules in
    let words = with_items c.self.inside.words c.propagate.new.words in
    let items : words.items ≡ c.propagate.new.words = take_at c.propagate.new.words (drop (length c.propagate.new.words) c.self.inside.words.items)
    (vec_len c.self.inside.words) (size ∙ len) in
    some_weaker c.propagate.result (λ r. clash_of c.self.inside.vars c.self.inside.room c.propagate.new.visits c.self.inside.places.items c.deref.result.now
    c.propagate.new.words words.items c.propagate.new.trail r.0 c.deref.ensures.value items) c.propagate.ensures.clash

pub returns-clause-falsifies : goal.returns-clause-falsifies
returns-clause-falsifies c = some_weaker c.propagate.result (λ r. falsifies c.args.self.now _ _ _ _ _ _ _ c.args.trail.now c.self.view_is
    c.deref_mut.ensures.value c.deref.ensures.value) c.propagate.ensures.clashes
