use Rattle.std.proofs.Common.{◌≡◌, ◌<◌, ◌≤◌, ℕ, ◌+◌, ◌-◌, ◌∙◌, List, length, get_or, refl, sym, subst, ap, arith}
use Rattle.cnf_core.specs.Lit.{literal_at, negate}
use Rattle.watch_arena.specs.Rows.{row_of, pairs_of}
use Rattle.watch_arena.specs.Walk.{done_of}
use Rattle.watch_arena.specs.Filed.{IsWalking}
use Rattle.watch_arena.proofs.ClosureLemmas.{made_none, made_more}
use Rattle.watch_arena.proofs.NextLemmas.{front_stays}
use Rattle.watch_arena.proofs.walks.walk_longs.Goals as goal

pub pairs_of-from-requires : goal.pairs_of-from-requires
pairs_of-from-requires c = let x = c.requires.walking in x.row

pub len_of-i-requires : goal.len_of-i-requires
len_of-i-requires c = let x = c.requires.walking in x.row

pub loop-i-init : goal.loop-i-init
loop-i-init c = record {
  marks = c.len-trail.ensures.marks;
  front = refl;
  below = c.requires.front;
  made = made_none c.args.trail.now c.args.words.now c.args.places.now;
  was = c.pairs_of-from.ensures.value;
  pairs = sym c.pairs_of-from.ensures.value;
  low = let value = c.pairs_of-from.ensures.value in let within = c.pairs_of-from.ensures.within in let all = c.len_of-i.ensures in omega arith;
  walking = subst (λ n. IsWalking c.args.trail.now c.args.words.now c.args.places.now c.args.rows.now (done_of c.args.trail.now) c.args.w n
      c.len_of-i.result) (sym c.pairs_of-from.ensures.value)
      (subst (λ n. IsWalking c.args.trail.now c.args.words.now c.args.places.now c.args.rows.now (done_of c.args.trail.now) c.args.w
      (pairs_of c.args.rows.now c.args.w) n) (sym c.len_of-i.ensures) c.requires.walking);
  false_now = c.requires.false_now;
  fresh = c.requires.fresh;
}

pub visit-requires-clause-walking : goal.visit-requires-clause-walking
visit-requires-clause-walking c =
    let i = c.loop-i.invariant in
    let lt = c.loop-i-test.true in
    let at_i : c.loop-i.i ≡ c.loop-i.i - 1 + 1 = omega arith in
    subst (λ n. IsWalking c.loop-i.trail c.loop-i.words c.args.places.now c.loop-i.rows (done_of c.loop-i.trail) c.args.w n (c.loop-i.i - 1 + 1)) (sym i.pairs)
    (subst (λ n. IsWalking c.loop-i.trail c.loop-i.words c.args.places.now c.loop-i.rows (done_of c.loop-i.trail) c.args.w c.pairs_of-from.result n) at_i
    i.walking)

pub visit-requires-clause-long : goal.visit-requires-clause-long
visit-requires-clause-long c = let i = c.loop-i.invariant in let pairs = i.pairs in let lt = c.loop-i-test.true in omega arith

pub returns-in-Some-clause-front : goal.returns-in-Some-clause-front
returns-in-Some-clause-front c = c.visit.ensures.front ∙ c.loop-i.invariant.front

pub returns-in-Some-clause-made : goal.returns-in-Some-clause-made
returns-in-Some-clause-made c = made_more c.args.trail.now c.loop-i.trail c.visit.new.trail _ _ _ _ c.loop-i.invariant.made c.visit.ensures.made

pub loop-i-preserved : goal.loop-i-preserved
loop-i-preserved c =
    let i = c.loop-i.invariant in
    let e = c.visit.ensures in
    let longer = e.made.longer in
    let same : pairs_of c.visit.new.rows c.args.w ≡ pairs_of c.loop-i.rows c.args.w = ap (λ (ns : List ℕ). get_or ns c.args.w 0) e.pairs in
    let lt = c.loop-i-test.true in
    record {
      marks = e.marks;
      front = e.front ∙ i.front;
      below = let more = longer.longer in let below = i.below in let at = e.front in omega arith;
      made = made_more c.args.trail.now c.loop-i.trail c.visit.new.trail _ _ _ _ i.made e.made;
      was = i.was;
      pairs = same ∙ i.pairs;
      low = omega arith;
      walking = subst (λ n. IsWalking c.visit.new.trail c.visit.new.words c.args.places.now c.visit.new.rows (done_of c.visit.new.trail) c.args.w n
          (c.loop-i.i - 1)) i.pairs (e.walking c.in_default.is);
      false_now = longer.keeps (negate (literal_at c.args.w)) i.false_now;
      fresh = front_stays c.loop-i.trail c.visit.new.trail longer e.front i.marks (negate (literal_at c.args.w)) ∙ i.fresh;
    }

pub returns-clause-walking : goal.returns-clause-walking
returns-clause-walking c = λ _.
    let i = c.loop-i.invariant in
    let low = i.low in
    let at_end : c.loop-i.i ≡ c.pairs_of-from.result = omega arith in
    subst (λ n. IsWalking c.loop-i.trail c.loop-i.words c.args.places.now c.loop-i.rows (done_of c.loop-i.trail) c.args.w n n) i.was
    (subst (λ n. IsWalking c.loop-i.trail c.loop-i.words c.args.places.now c.loop-i.rows (done_of c.loop-i.trail) c.args.w c.pairs_of-from.result n) at_end
    i.walking)
