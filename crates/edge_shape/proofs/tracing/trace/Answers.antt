use Rattle.std.proofs.Common.{◌≡◌, ◌+◌, ◌-◌, ◌<◌, List, [], ◌∷◌, ◌++◌, sym, ◌∙◌, ap, subst, lit<, arith}
use Rattle.plan_core.specs.declared.point.Point.{Point}
use Rattle.plan_core.specs.Line.{is_line}
use Rattle.edge_shape.specs.Track.{over, line_over}
use Rattle.edge_shape.specs.Columns.{listed_height}
use Rattle.edge_shape.proofs.ShapeLemmas.{track_is_line}
use Rattle.edge_shape.proofs.TraceLemmas.{IsTracing, tracing_turn, tracing_straight, tracing_last, tracing_room}
use Rattle.edge_shape.proofs.tracing.trace.Goals.{then-turns, else-turns}
use Rattle.edge_shape.proofs.tracing.trace.Goals as goal

pub push-requires-then-turns : goal.push-requires-then-turns
push-requires-then-turns c = (
  lit< tt,
  tracing_room (listed_height c.args.heights.now) c.args.west (c.args.east - c.args.west - 1) c.loop-c.c
      c.loop-c.points.items c.requires.track c.loop-c.invariant,
)

pub loop-c-preserved : goal.loop-c-preserved
loop-c-preserved c =
    let y = listed_height c.args.heights.now in
    let w = c.args.west in
    let n = c.args.east - c.args.west - 1 in
    let to : c.loop-c.c < w + n = omega arith in
    elim c.if-turns.branch [
      | then-turns b ↦
          let is : c.if-turns.points.items ≡ c.loop-c.points.items ++ over y (c.loop-c.c + 1) ∷ [] = ap (λ p. p.items) b.points-is
          ∙ b.push-then-turns.ensures.items in
          subst (λ (l : List Point). IsTracing y w n (c.loop-c.c + 1) l) (sym is)
          (tracing_turn y w n c.loop-c.c c.loop-c.points.items to (sym c.turns.ensures ∙ b.if-turns.true) c.loop-c.invariant)
      | else-turns b ↦
          let is : c.if-turns.points.items ≡ c.loop-c.points.items = ap (λ p. p.items) b.points-is in
          subst (λ (l : List Point). IsTracing y w n (c.loop-c.c + 1) l) (sym is)
          (tracing_straight y w n c.loop-c.c c.loop-c.points.items to (sym c.turns.ensures ∙ b.if-turns.false) c.loop-c.invariant)
    ]

pub push-requires-2 : goal.push-requires-2
push-requires-2 c = (
  lit< tt,
  tracing_room (listed_height c.args.heights.now) c.args.west (c.args.east - c.args.west - 1) c.loop-c.c c.loop-c.points.items
      c.requires.track c.loop-c.invariant,
)

pub unreachable-requires : goal.unreachable-requires
unreachable-requires c =
    let y = listed_height c.args.heights.now in
    let w = c.args.west in
    let n = c.args.east - c.args.west - 1 in
    let end : c.loop-c.c ≡ w + n = omega arith in
    let east : c.args.east ≡ c.loop-c.c + 1 = omega arith in
    let all : c.as_slice.result.now ≡ line_over y w n =
    c.as_slice.ensures.value ∙ c.push-2.ensures.items ∙ ap (λ k. c.loop-c.points.items ++ over y k ∷ []) east
    ∙ tracing_last y w n c.loop-c.c c.loop-c.points.items end c.loop-c.invariant in
    c.in-None.ensures (ap is_line all ∙ track_is_line y w n c.requires.track)
