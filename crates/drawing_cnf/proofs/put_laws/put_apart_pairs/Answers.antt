use Rattle.std.proofs.Common.{◌≡◌, ◌+◌, ◌-◌, [], ◌∷◌, length, refl, ◌∙◌, ap, arith}
use Rattle.plan_core.specs.Lawful.{Apart}
use Rattle.cnf_core.specs.Truths.{assignment}
use Rattle.cnf_core.specs.declared.limits.TheConstants.{VARS}
use Rattle.cnf_laws.specs.Expected.{instances_from, pairs_from, instance_pairs}
use Rattle.drawing_cnf.proofs.PutLaws.{put_to_more, putting_start, putting_room, putting_more, putting_next, putting_done}
use Rattle.drawing_cnf.proofs.put_laws.put_apart_pairs.Goals as goal

pub loop-u-init : goal.loop-u-init
loop-u-init c =
    let s = c.args.s.now in (
      putting_start s.graph.now s.grid.now (pairs_from (length s.graph.now.nodes) (λ a b. Apart a b ∷ []))
          (instance_pairs (length s.graph.now.nodes) (λ a b. Apart a b ∷ [])) c.args.first (assignment c.args.m.now) 0 c.nodes-end.result
          (ap (λ k. instances_from (pairs_from (length s.graph.now.nodes) (λ a b. Apart a b ∷ [])) 0 k)
          (let z : length s.graph.now.nodes ≡ c.nodes-end.result - 0 = omega (arith, c.nodes-end.ensures.value) in z)),
      refl,
    )

pub put_apart_row-next-requires-clause-ordered : goal.put_apart_row-next-requires-clause-ordered
put_apart_row-next-requires-clause-ordered c = λ b pair. c.requires.ordered c.loop-u.u b pair

pub put_apart_row-next-requires-clause-apart : goal.put_apart_row-next-requires-clause-apart
put_apart_row-next-requires-clause-apart c = λ b pair. c.requires.apart c.loop-u.u b pair

pub put_apart_row-next-requires-clause-put : goal.put_apart_row-next-requires-clause-put
put_apart_row-next-requires-clause-put c =
    let s = c.args.s.now in
    put_to_more s.graph.now s.grid.now s.drawing.now (assignment c.args.m.now) (assignment c.loop-u.m) c.args.first c.loop-u.next c.requires.put
    c.loop-u.invariant.0.from c.loop-u.invariant.0.same.below

pub put_apart_row-next-requires-clause-to : goal.put_apart_row-next-requires-clause-to
put_apart_row-next-requires-clause-to c =
    let s = c.args.s.now in
    let room = putting_room s.graph.now s.grid.now (pairs_from (length s.graph.now.nodes) (λ a b. Apart a b ∷ []))
    (instance_pairs (length s.graph.now.nodes) (λ a b. Apart a b ∷ [])) c.args.first (assignment c.args.m.now) (assignment c.loop-u.m) c.loop-u.next c.loop-u.u
    c.nodes-end.result (length c.args.m.now + 1) c.loop-u-test.true c.loop-u.invariant.0 c.requires.to in
    let same = c.loop-u.invariant.1 in
    omega arith

pub put_apart_row-next-requires-clause-small : goal.put_apart_row-next-requires-clause-small
put_apart_row-next-requires-clause-small c =
    let s = c.args.s.now in
    putting_room s.graph.now s.grid.now (pairs_from (length s.graph.now.nodes) (λ a b. Apart a b ∷ []))
    (instance_pairs (length s.graph.now.nodes) (λ a b. Apart a b ∷ [])) c.args.first (assignment c.args.m.now) (assignment c.loop-u.m) c.loop-u.next c.loop-u.u
    c.nodes-end.result (VARS + 1) c.loop-u-test.true c.loop-u.invariant.0 c.requires.small

pub loop-u-preserved : goal.loop-u-preserved
loop-u-preserved c =
    let s = c.args.s.now in (
      putting_more s.graph.now s.grid.now (pairs_from (length s.graph.now.nodes) (λ a b. Apart a b ∷ []))
          (instance_pairs (length s.graph.now.nodes) (λ a b. Apart a b ∷ [])) c.args.first (assignment c.args.m.now) (assignment c.loop-u.m)
          (assignment c.put_apart_row-next.new.m) c.loop-u.next c.put_apart_row-next.result c.loop-u.u c.nodes-end.result c.loop-u-test.true
          c.loop-u.invariant.0
          c.put_apart_row-next.ensures.puts c.put_apart_row-next.ensures.next,
      c.put_apart_row-next.ensures.vars ∙ c.loop-u.invariant.1,
    )

pub returns : goal.returns
returns c =
    let s = c.args.s.now in
    record {
      puts = putting_done s.graph.now s.grid.now (pairs_from (length s.graph.now.nodes) (λ a b. Apart a b ∷ []))
          (instance_pairs (length s.graph.now.nodes) (λ a b. Apart a b ∷ [])) c.args.first (assignment c.args.m.now) (assignment c.loop-u.m) c.loop-u.next
          c.loop-u.u c.nodes-end.result c.loop-u-test.false c.loop-u.invariant.0;
      next = putting_next s.graph.now s.grid.now (pairs_from (length s.graph.now.nodes) (λ a b. Apart a b ∷ []))
          (instance_pairs (length s.graph.now.nodes) (λ a b. Apart a b ∷ [])) c.args.first (assignment c.args.m.now) (assignment c.loop-u.m) c.loop-u.next
          c.loop-u.u c.nodes-end.result c.loop-u-test.false c.loop-u.invariant.0;
      vars = c.loop-u.invariant.1;
    }
