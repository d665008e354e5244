use Rattle.std.proofs.Common.{arith}
use Rattle.watch_arena.proofs.ClosureLemmas.{made_none, made_more, watched_closes, clash_clashes}
use Rattle.watch_arena.proofs.VisitLemmas.{watched_guarded}
use Rattle.watch_arena.proofs.walks.propagate.Goals as goal

pub loop-words-init : goal.loop-words-init
loop-words-init c = record { made = made_none c.args.trail.now c.args.words.now c.args.places.now; counted = omega arith; watched = c.requires }

pub loop-words-preserved : goal.loop-words-preserved
loop-words-preserved c = record {
  made = made_more c.args.trail.now c.loop-words.trail c.walk.new.trail _ _ _ _ c.loop-words.invariant.made c.walk.ensures.made;
  counted = let one = c.walk.ensures.visits in let all = c.loop-words.invariant.counted in omega arith;
  watched = c.walk.ensures.watched;
}

pub returns-in-Some-clause-made : goal.returns-in-Some-clause-made
returns-in-Some-clause-made c = made_more c.args.trail.now c.loop-words.trail c.walk.new.trail _ _ _ _ c.loop-words.invariant.made c.walk.ensures.made

pub returns-in-Some-clause-clashes : goal.returns-in-Some-clause-clashes
returns-in-Some-clause-clashes c =
    clash_clashes c.args.trail.now c.walk.new.trail _ _ _ c.in-Some.clash.0 (made_more c.args.trail.now c.loop-words.trail c.walk.new.trail _ _ _ _
    c.loop-words.invariant.made c.walk.ensures.made) c.in-Some.ensures.clash

pub returns-clause-closes : goal.returns-clause-closes
returns-clause-closes c = λ _.
    let marks = c.len.ensures.marks in
    let front = marks.front in
    let w = c.loop-words.invariant.watched in
    let f = w.filed in
    watched_closes c.args.trail.now c.loop-words.trail _ _ _ marks c.loop-words.invariant.made f.store (watched_guarded c.loop-words.trail _ _ _ _ w)
    (omega arith)
