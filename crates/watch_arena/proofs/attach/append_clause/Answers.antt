use Rattle.std.proofs.Common.{rules, arith, ◌≡◌, ◌≤◌, ◌<◌, ◌∙◌, ◌++◌, ◌∷◌, [], List, ℕ, length, get_or, ap, sym, subst}
use Rattle.std.proofs.lemmas.Bool.Decides.{nat_tests}
use Rattle.cnf_core.proofs.TrailLemmas.{there_get, word_below}
use Rattle.watch_arena.specs.Words.{arena_word, block_of}
use Rattle.watch_arena.specs.Walk.{lits_at}
use Rattle.watch_arena.specs.Filed.{AreFiled}
use Rattle.watch_arena.proofs.AttachLemmas.{behind_lits, behind_length, before}
use Rattle.watch_arena.proofs.EnterLemmas.{entering_at, words_at, length_at, filed_roomier}
use Rattle.watch_arena.proofs.attach.append_clause.Goals as goal

pub make_room_for-requires : goal.make_room_for-requires
make_room_for-requires c = λ k d lt.
    let f = c.requires.filed in
    let size = f.size in
    let there = there_get c.args.trail.now.vars c.args.lits.now k d lt c.requires.there in
    omega (arith, word_below c.args.trail.now.vars (get_or c.args.lits.now k d) there)

pub enter-requires-clause-entering : goal.enter-requires-clause-entering
enter-requires-clause-entering c =
    let old = c.args.words.now.items in
    let vars = c.args.trail.now.vars in
    let n : c.len.result ≡ length old = search rules in
    let ws : c.deref.result.now ≡ old ++ block_of c.args.lits.now = c.deref.ensures.value ∙ c.in_ok-append_placed.ensures.words in
    let places : c.deref-2.result.now ≡ c.args.places.now.items ++ length old ∷ [] = c.deref-2.ensures.value ∙ c.in_ok-append_placed.ensures.places in
    entering_at vars old c.args.places.now.items c.deref.result.now c.deref-2.result.now c.args.rows.now c.make_room_for.new.rows c.args.lits.now c.len.result
    c.requires.filed c.make_room_for.ensures.kept c.in_ok-make_room_for.ensures.more c.requires.room c.requires.two c.requires.there c.requires.distinct ws
    places n

pub enter-requires-clause-words : goal.enter-requires-clause-words
enter-requires-clause-words c =
    let old = c.args.words.now.items in
    let vars = c.args.trail.now.vars in
    let n : c.len.result ≡ length old = search rules in
    let ws : c.deref.result.now ≡ old ++ block_of c.args.lits.now = c.deref.ensures.value ∙ c.in_ok-append_placed.ensures.words in
    let places : c.deref-2.result.now ≡ c.args.places.now.items ++ length old ∷ [] = c.deref-2.ensures.value ∙ c.in_ok-append_placed.ensures.places in
    words_at vars old c.args.places.now.items c.deref.result.now c.deref-2.result.now c.args.rows.now c.make_room_for.new.rows c.args.lits.now c.len.result
    c.requires.filed c.make_room_for.ensures.kept c.in_ok-make_room_for.ensures.more c.requires.room c.requires.two c.requires.there c.requires.distinct ws
    places n
    c.index-lits-0.result c.index-lits-1.result c.index-lits-0.is c.index-lits-1.is

pub enter-requires-clause-pair : goal.enter-requires-clause-pair
enter-requires-clause-pair c = λ t.
    let old = c.args.words.now.items in
    let vars = c.args.trail.now.vars in
    let n : c.len.result ≡ length old = search rules in
    let ws : c.deref.result.now ≡ old ++ block_of c.args.lits.now = c.deref.ensures.value ∙ c.in_ok-append_placed.ensures.words in
    let places : c.deref-2.result.now ≡ c.args.places.now.items ++ length old ∷ [] = c.deref-2.ensures.value ∙ c.in_ok-append_placed.ensures.places in
    let size = length_at vars old c.args.places.now.items c.deref.result.now c.deref-2.result.now c.args.rows.now c.make_room_for.new.rows c.args.lits.now
    c.len.result
    c.requires.filed c.make_room_for.ensures.kept c.in_ok-make_room_for.ensures.more c.requires.room c.requires.two c.requires.there c.requires.distinct ws
    places n in
    let two : length c.args.lits.now ≡ 2 = grind (arith, nat_tests) in
    size ∙ two

pub returns-in_err-make_room_for-clause-filed : goal.returns-in_err-make_room_for-clause-filed
returns-in_err-make_room_for-clause-filed c = filed_roomier _ _ _ _ _ c.requires.filed c.make_room_for.ensures.kept

pub returns-in_err-append_placed-clause-filed : goal.returns-in_err-append_placed-clause-filed
returns-in_err-append_placed-clause-filed c =
    subst (λ (w : List ℕ). AreFiled c.args.trail.now.vars w c.append_placed.new.places.items c.make_room_for.new.rows)
    (sym c.in_err-append_placed.ensures.no_words)
    (subst (λ (q : List ℕ). AreFiled c.args.trail.now.vars c.args.words.now.items q c.make_room_for.new.rows) (sym c.in_err-append_placed.ensures.no_places)
    (filed_roomier _ _ _ _ _ c.requires.filed c.make_room_for.ensures.kept))

pub returns-clause-filed : goal.returns-clause-filed
returns-clause-filed c =
    subst (λ (w : List ℕ). AreFiled c.args.trail.now.vars w c.append_placed.new.places.items c.enter.new.rows) c.deref.ensures.value
    (subst (λ (q : List ℕ). AreFiled c.args.trail.now.vars c.deref.result.now q c.enter.new.rows) c.deref-2.ensures.value c.enter.ensures)

pub returns-clause-clause : goal.returns-clause-clause
returns-clause-clause c = ap (λ (w : List ℕ). lits_at w (length c.args.words.now.items)) c.in_ok-append_placed.ensures.words
    ∙ behind_lits c.args.trail.now.vars c.args.words.now.items c.args.lits.now c.requires.filed.some c.requires.two c.requires.there c.requires.distinct

pub returns-clause-others : goal.returns-clause-others
returns-clause-others c = λ i lt. ap (λ (w : List ℕ). arena_word w i) c.in_ok-append_placed.ensures.words
    ∙ before c.args.trail.now.vars c.args.words.now.items c.args.lits.now c.requires.filed.some c.requires.two c.requires.there c.requires.distinct i lt

pub returns-clause-size : goal.returns-clause-size
returns-clause-size c = ap length c.in_ok-append_placed.ensures.words
    ∙ behind_length c.args.trail.now.vars c.args.words.now.items c.args.lits.now c.requires.filed.some c.requires.two c.requires.there c.requires.distinct
    ∙ omega arith
