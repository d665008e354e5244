use Rattle.std.proofs.Common.{◌≡◌, ◌<◌, ◌≤◌, ℕ, ◌∙◌, length, refl, sym, subst, ap, arith}
use Rattle.cnf_core.specs.Lit.{literal_at, negate}
use Rattle.watch_arena.specs.Rows.{row_of, pairs_of}
use Rattle.watch_arena.specs.Walk.{done_of}
use Rattle.watch_arena.specs.Filed.{IsWalking}
use Rattle.watch_arena.proofs.ClosureLemmas.{made_none, made_more}
use Rattle.watch_arena.proofs.RowWalkLemmas.{entry_right, entry_pair, pairs_within, fresh_still, pair_walking, pair_back}
use Rattle.watch_arena.proofs.walks.walk_pairs.Goals as goal

pub pairs_of-i-end-requires : goal.pairs_of-i-end-requires
pairs_of-i-end-requires c = let x = c.requires.walking in x.row

pub loop-i-init : goal.loop-i-init
loop-i-init c = record {
  marks = c.len-trail.ensures.marks;
  front = refl;
  below = c.requires.front;
  made = made_none c.args.trail.now c.args.words.now c.args.places.now;
  walking = c.requires.walking;
  false_now = c.requires.false_now;
  fresh = c.requires.fresh;
}

pub entry-entry-requires-clause-row : goal.entry-entry-requires-clause-row
entry-entry-requires-clause-row c = let x = c.requires.walking in x.row

pub entry-entry-requires-clause-below : goal.entry-entry-requires-clause-below
entry-entry-requires-clause-below c =
    let le = pairs_within _ _ _ _ _ _ _ _ c.requires.walking in
    let value = c.pairs_of-i-end.ensures.value in
    let lt = c.loop-i-test.true in
    omega arith

pub visit_pair-requires-clause-store : goal.visit_pair-requires-clause-store
visit_pair-requires-clause-store c = let x = c.loop-i.invariant.walking in let f = x.filed in f.store

pub visit_pair-requires-clause-entry : goal.visit_pair-requires-clause-entry
visit_pair-requires-clause-entry c =
    let le = pairs_within _ _ _ _ _ _ _ _ c.requires.walking in
    let value = c.pairs_of-i-end.ensures.value in
    let lt = c.loop-i-test.true in
    entry_right _ _ _ _ _ _ _ _ c.loop-i.i c.loop-i.invariant.walking c.entry-entry.result c.entry-entry.ensures (omega arith)

pub visit_pair-requires-clause-pair : goal.visit_pair-requires-clause-pair
visit_pair-requires-clause-pair c =
    let value = c.pairs_of-i-end.ensures.value in
    let lt = c.loop-i-test.true in
    entry_pair _ _ _ _ _ _ _ _ c.loop-i.i c.loop-i.invariant.walking c.entry-entry.result c.entry-entry.ensures (omega arith)

pub returns-then-visit_pair-clause-front : goal.returns-then-visit_pair-clause-front
returns-then-visit_pair-clause-front c = c.visit_pair.ensures.front ∙ c.loop-i.invariant.front

pub returns-then-visit_pair-clause-made : goal.returns-then-visit_pair-clause-made
returns-then-visit_pair-clause-made c = made_more c.args.trail.now c.loop-i.trail c.visit_pair.new.trail _ _ _ _ c.loop-i.invariant.made
    c.visit_pair.ensures.made

pub returns-then-visit_pair-clause-watched : goal.returns-then-visit_pair-clause-watched
returns-then-visit_pair-clause-watched c =
    let e = c.visit_pair.ensures in
    let i = c.loop-i.invariant in
    pair_back c.loop-i.trail c.visit_pair.new.trail _ _ _ _ _ _ i.marks e.made.longer e.front i.below i.walking i.fresh

pub returns-then-visit_pair-clause-clash : goal.returns-then-visit_pair-clause-clash
returns-then-visit_pair-clause-clash c = c.visit_pair.ensures.clash c.if-visit_pair.true

pub loop-i-preserved : goal.loop-i-preserved
loop-i-preserved c =
    let i = c.loop-i.invariant in
    let e = c.visit_pair.ensures in
    let longer = e.made.longer in
    let le = pairs_within _ _ _ _ _ _ _ _ c.requires.walking in
    let value = c.pairs_of-i-end.ensures.value in
    let lt = c.loop-i-test.true in
    record {
      marks = e.marks;
      front = e.front ∙ i.front;
      below = let more = longer.longer in let below = i.below in let same = e.front in omega arith;
      made = made_more c.args.trail.now c.loop-i.trail c.visit_pair.new.trail _ _ _ _ i.made e.made;
      walking = pair_walking c.loop-i.trail c.visit_pair.new.trail _ _ _ _ _ _ i.marks longer e.front i.below i.walking c.entry-entry.result
          c.entry-entry.ensures
          (omega arith) (e.held c.if-visit_pair.false);
      false_now = longer.keeps (negate (literal_at c.args.w)) i.false_now;
      fresh = fresh_still c.loop-i.trail c.visit_pair.new.trail _ _ _ _ _ _ i.marks longer e.front i.below i.walking i.fresh;
    }

pub returns-clause-walking : goal.returns-clause-walking
returns-clause-walking c = λ _.
    let value = c.pairs_of-i-end.ensures.value in
    let at_end : c.loop-i.i ≡ pairs_of c.args.rows.now c.args.w = omega arith in
    subst (λ n. IsWalking c.loop-i.trail c.args.words.now c.args.places.now c.args.rows.now (done_of c.loop-i.trail) c.args.w n
    (length (row_of c.args.rows.now c.args.w))) at_end c.loop-i.invariant.walking
