use Rattle.std.proofs.Common.{◌+◌, ◌-◌, [], ◌∷◌, length, refl, sym, ◌∙◌, ap, arith}
use Rattle.plan_core.specs.Lawful.{Apart}
use Rattle.cnf_core.specs.Truths.{assignment}
use Rattle.cnf_core.specs.declared.limits.TheConstants.{VARS}
use Rattle.cnf_laws.specs.Expected.{instances_from, pairs_from}
use Rattle.drawing_cnf.proofs.PutLaws.{put_to_more, putting_start, putting_room, putting_more, putting_next, putting_done}
use Rattle.drawing_cnf.proofs.put_laws.put_apart_row.Goals as goal

pub loop-v-init : goal.loop-v-init
loop-v-init c =
    let s = c.args.s.now in (
      putting_start s.graph.now s.grid.now (λ b. Apart c.args.u b ∷ []) (pairs_from (length s.graph.now.nodes) (λ a b. Apart a b ∷ []) c.args.u) c.args.first
          (assignment c.args.m.now) (c.args.u + 1) c.nodes-end.result (ap (λ k. instances_from (λ b. Apart c.args.u b ∷ []) (c.args.u + 1) (k - (c.args.u + 1)))
          (sym c.nodes-end.ensures.value)),
      refl,
    )

pub put_apart_pair-next-requires-clause-pair : goal.put_apart_pair-next-requires-clause-pair
put_apart_pair-next-requires-clause-pair c =
    let from = c.loop-v.auto.v in
    let to = c.loop-v-test.true in
    let is = c.nodes-end.ensures.value in
    record { rising = omega arith; within = omega arith }

pub put_apart_pair-next-requires-clause-ordered : goal.put_apart_pair-next-requires-clause-ordered
put_apart_pair-next-requires-clause-ordered c =
    let from = c.loop-v.auto.v in
    let to = c.loop-v-test.true in
    let is = c.nodes-end.ensures.value in
    c.requires.ordered c.loop-v.v (record { rising = omega arith; within = omega arith })

pub put_apart_pair-next-requires-clause-apart : goal.put_apart_pair-next-requires-clause-apart
put_apart_pair-next-requires-clause-apart c =
    let from = c.loop-v.auto.v in
    let to = c.loop-v-test.true in
    let is = c.nodes-end.ensures.value in
    c.requires.apart c.loop-v.v (record { rising = omega arith; within = omega arith })

pub put_apart_pair-next-requires-clause-put : goal.put_apart_pair-next-requires-clause-put
put_apart_pair-next-requires-clause-put c =
    let s = c.args.s.now in
    put_to_more s.graph.now s.grid.now s.drawing.now (assignment c.args.m.now) (assignment c.loop-v.m) c.args.first c.loop-v.next c.requires.put
    c.loop-v.invariant.0.from c.loop-v.invariant.0.same.below

pub put_apart_pair-next-requires-clause-to : goal.put_apart_pair-next-requires-clause-to
put_apart_pair-next-requires-clause-to c =
    let s = c.args.s.now in
    let room = putting_room s.graph.now s.grid.now (λ b. Apart c.args.u b ∷ []) (pairs_from (length s.graph.now.nodes) (λ a b. Apart a b ∷ []) c.args.u)
    c.args.first (assignment c.args.m.now) (assignment c.loop-v.m) c.loop-v.next c.loop-v.v c.nodes-end.result (length c.args.m.now + 1) c.loop-v-test.true
    c.loop-v.invariant.0 c.requires.to in
    let same = c.loop-v.invariant.1 in
    omega arith

pub put_apart_pair-next-requires-clause-small : goal.put_apart_pair-next-requires-clause-small
put_apart_pair-next-requires-clause-small c =
    let s = c.args.s.now in
    putting_room s.graph.now s.grid.now (λ b. Apart c.args.u b ∷ []) (pairs_from (length s.graph.now.nodes) (λ a b. Apart a b ∷ []) c.args.u) c.args.first
    (assignment c.args.m.now) (assignment c.loop-v.m) c.loop-v.next c.loop-v.v c.nodes-end.result (VARS + 1) c.loop-v-test.true c.loop-v.invariant.0
    c.requires.small

pub loop-v-preserved : goal.loop-v-preserved
loop-v-preserved c =
    let s = c.args.s.now in (
      putting_more s.graph.now s.grid.now (λ b. Apart c.args.u b ∷ []) (pairs_from (length s.graph.now.nodes) (λ a b. Apart a b ∷ []) c.args.u) c.args.first
          (assignment c.args.m.now) (assignment c.loop-v.m) (assignment c.put_apart_pair-next.new.m) c.loop-v.next c.put_apart_pair-next.result c.loop-v.v
          c.nodes-end.result c.loop-v-test.true c.loop-v.invariant.0 c.put_apart_pair-next.ensures.puts c.put_apart_pair-next.ensures.next,
      c.put_apart_pair-next.ensures.vars ∙ c.loop-v.invariant.1,
    )

pub returns : goal.returns
returns c =
    let s = c.args.s.now in
    record {
      puts = putting_done s.graph.now s.grid.now (λ b. Apart c.args.u b ∷ []) (pairs_from (length s.graph.now.nodes) (λ a b. Apart a b ∷ []) c.args.u)
          c.args.first (assignment c.args.m.now) (assignment c.loop-v.m) c.loop-v.next c.loop-v.v c.nodes-end.result c.loop-v-test.false c.loop-v.invariant.0;
      next = putting_next s.graph.now s.grid.now (λ b. Apart c.args.u b ∷ []) (pairs_from (length s.graph.now.nodes) (λ a b. Apart a b ∷ []) c.args.u)
          c.args.first (assignment c.args.m.now) (assignment c.loop-v.m) c.loop-v.next c.loop-v.v c.nodes-end.result c.loop-v-test.false c.loop-v.invariant.0;
      vars = c.loop-v.invariant.1;
    }
