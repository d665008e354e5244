use Rattle.std.proofs.Common.{◌≡◌, ◌<◌, ℕ, ◌+◌, ◌∙◌, length, get_or, refl, sym, subst, ap, arith}
use Rattle.cnf_core.specs.Lit.{literal_at, negate, word_of, has}
use Rattle.watch_arena.specs.Trail.{Marks}
use Rattle.watch_arena.specs.Rows.{row_of, pairs_of}
use Rattle.watch_arena.specs.Walk.{HasWalked, done_of, past_of}
use Rattle.watch_arena.specs.Filed.{IsWalking, IsWatched}
use Rattle.watch_arena.proofs.NextLemmas.{next_false, next_fresh, next_word, front_stays}
use Rattle.watch_arena.proofs.ClosureLemmas.{made_more, made_advanced}
use Rattle.watch_arena.proofs.VisitLemmas.{walking_start, walking_end}
use Rattle.watch_arena.proofs.walks.walk.Goals as goal

pub len_of-requires : goal.len_of-requires
len_of-requires c =
    let x = c.requires.watched in
    let f = x.filed in
    let size = f.size in
    let word : c.word-w.result ≡ word_of (negate c.lit-l.result) = c.word-w.ensures.value ∙ ap word_of c.negated.ensures in
    omega (arith, next_word c.args.trail.now.vars c.lit-l.result c.lit-l.ensures.there)

pub walk_pairs-requires-clause-walking : goal.walk_pairs-requires-clause-walking
walk_pairs-requires-clause-walking c =
    let m = c.args.trail.now in
    let x = c.requires.watched in
    let f = x.filed in
    let size = f.size in
    let is : get_or m.lits m.front c.lit-l.result ≡ c.lit-l.result = ap (λ n. get_or m.lits n c.lit-l.result) (sym c.propagated.ensures.value)
    ∙ c.lit-l.ensures.value in
    let word : c.word-w.result ≡ word_of (negate c.lit-l.result) = c.word-w.ensures.value ∙ ap word_of c.negated.ensures in
    walking_start c.args.trail.now c.lit-l.result c.word-w.result c.args.words.now c.args.places.now c.args.rows.now c.propagated.ensures.marks
    c.requires.front is word (omega (arith, next_word m.vars c.lit-l.result c.lit-l.ensures.there)) c.requires.watched

pub walk_pairs-requires-clause-false_now : goal.walk_pairs-requires-clause-false_now
walk_pairs-requires-clause-false_now c =
    let m = c.args.trail.now in
    let is : get_or m.lits m.front c.lit-l.result ≡ c.lit-l.result = ap (λ n. get_or m.lits n c.lit-l.result) (sym c.propagated.ensures.value)
    ∙ c.lit-l.ensures.value in
    let word : c.word-w.result ≡ word_of (negate c.lit-l.result) = c.word-w.ensures.value ∙ ap word_of c.negated.ensures in
    next_false m c.lit-l.result c.word-w.result c.propagated.ensures.marks c.requires.front is word

pub walk_pairs-requires-clause-fresh : goal.walk_pairs-requires-clause-fresh
walk_pairs-requires-clause-fresh c =
    let m = c.args.trail.now in
    let is : get_or m.lits m.front c.lit-l.result ≡ c.lit-l.result = ap (λ n. get_or m.lits n c.lit-l.result) (sym c.propagated.ensures.value)
    ∙ c.lit-l.ensures.value in
    let word : c.word-w.result ≡ word_of (negate c.lit-l.result) = c.word-w.ensures.value ∙ ap word_of c.negated.ensures in
    next_fresh m c.lit-l.result c.word-w.result c.propagated.ensures.marks c.requires.front is word

pub walk_longs-requires-clause-walking : goal.walk_longs-requires-clause-walking
walk_longs-requires-clause-walking c = c.walk_pairs.ensures.walking c.in_default.is

pub walk_longs-requires-clause-false_now : goal.walk_longs-requires-clause-false_now
walk_longs-requires-clause-false_now c =
    let m = c.args.trail.now in
    let longer = c.walk_pairs.ensures.made.longer in
    let is : get_or m.lits m.front c.lit-l.result ≡ c.lit-l.result = ap (λ n. get_or m.lits n c.lit-l.result) (sym c.propagated.ensures.value)
    ∙ c.lit-l.ensures.value in
    let word : c.word-w.result ≡ word_of (negate c.lit-l.result) = c.word-w.ensures.value ∙ ap word_of c.negated.ensures in
    longer.keeps (negate (literal_at c.word-w.result)) (next_false m c.lit-l.result c.word-w.result c.propagated.ensures.marks c.requires.front is word)

pub walk_longs-requires-clause-fresh : goal.walk_longs-requires-clause-fresh
walk_longs-requires-clause-fresh c =
    let m = c.args.trail.now in
    let is : get_or m.lits m.front c.lit-l.result ≡ c.lit-l.result = ap (λ n. get_or m.lits n c.lit-l.result) (sym c.propagated.ensures.value)
    ∙ c.lit-l.ensures.value in
    let word : c.word-w.result ≡ word_of (negate c.lit-l.result) = c.word-w.ensures.value ∙ ap word_of c.negated.ensures in
    front_stays c.args.trail.now c.walk_pairs.new.trail c.walk_pairs.ensures.made.longer c.walk_pairs.ensures.front c.propagated.ensures.marks
    (negate (literal_at c.word-w.result)) ∙ next_fresh m c.lit-l.result c.word-w.result c.propagated.ensures.marks c.requires.front is word

pub walk_longs-requires-clause-front : goal.walk_longs-requires-clause-front
walk_longs-requires-clause-front c =
    let longer = c.walk_pairs.ensures.made.longer in
    let more = longer.longer in
    let same = c.walk_pairs.ensures.front in
    let front = c.requires.front in
    omega arith

pub returns-in-Some-clause-made : goal.returns-in-Some-clause-made
returns-in-Some-clause-made c = c.walk_pairs.ensures.made

pub returns-in-Some-walk_longs-clause-made : goal.returns-in-Some-walk_longs-clause-made
returns-in-Some-walk_longs-clause-made c = made_more c.args.trail.now c.walk_pairs.new.trail c.walk_longs.new.trail _ _ _ _ c.walk_pairs.ensures.made
    c.walk_longs.ensures.made

pub returns-clause-made : goal.returns-clause-made
returns-clause-made c = subst (λ (m : Marks). HasWalked c.args.trail.now m c.args.words.now c.walk_longs.new.words c.args.places.now)
    (sym c.advance.ensures.value)
    (made_advanced _ _ _ _ _ (made_more c.args.trail.now c.walk_pairs.new.trail c.walk_longs.new.trail _ _ _ _ c.walk_pairs.ensures.made
    c.walk_longs.ensures.made))

pub returns-clause-watched : goal.returns-clause-watched
returns-clause-watched c = subst (λ (m : Marks). IsWatched m c.walk_longs.new.words c.args.places.now c.walk_longs.new.rows (past_of m))
    (sym c.advance.ensures.value) (walking_end c.walk_longs.new.trail _ _ _ _ _ (c.walk_longs.ensures.walking c.in_default-walk_longs.is))
