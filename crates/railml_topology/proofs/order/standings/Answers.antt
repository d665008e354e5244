use Rattle.std.proofs.Common.{◌≡◌, ◌+◌, List, [], ◌∷◌, ◌++◌, map, filter, drop, All, subst, sym, ap, ◌∙◌, Vec, Global}
use Rattle.std.proofs.lemmas.List.Elements.{All-push}
use Rattle.railml_topology.specs.declared.order.Standing.{Standing as Placed}
use Rattle.railml_topology.specs.Plans.{is_inner as passes_inner, IsStanding}
use Rattle.railml_topology.proofs.OrderLemmas.{one_kept, one_passed}
use Rattle.railml_topology.proofs.order.standings.Goals as goal
use Rattle.railml_topology.proofs.order.standings.Goals.{then-is_inner+in_ok-push, else-is_inner}

pub loop-number-preserved : goal.loop-number-preserved
loop-number-preserved c = elim c.if-is_inner.branch [
  | then-is_inner+in_ok-push w ↦
      let list : c.if-is_inner.list.items ≡ c.loop-number.list.items ++ w.standing_at.result ∷ [] = ap (λ (v : Vec Placed Global). v.items) w.list-is
      ∙ w.in_ok-push.ensures.items in
      record {
        rows = subst (λ (v : List Placed). map (λ (s : Placed). s.row) v ++ filter (passes_inner c.args.rows.now)
            (drop (c.loop-number.number-index + 1) c.args.numbers.now) ≡ filter (passes_inner c.args.rows.now) c.args.numbers.now) (sym list)
            (one_kept (passes_inner c.args.rows.now) c.loop-number.list.items c.args.numbers.now c.loop-number.number-index w.standing_at.result
            c.loop-number-test.true (sym c.is_inner.ensures ∙ w.if-is_inner.true) w.standing_at.ensures.row c.loop-number.invariant.rows);
        standing = subst (λ (v : List Placed). All (IsStanding c.args.rows.now) v) (sym list)
            (All-push (IsStanding c.args.rows.now) c.loop-number.list.items w.standing_at.result c.loop-number.invariant.standing
            w.standing_at.ensures.standing);
      }
  | else-is_inner w ↦
      let list : c.if-is_inner.list.items ≡ c.loop-number.list.items = ap (λ (v : Vec Placed Global). v.items) w.list-is in
      record {
        rows = subst (λ (v : List Placed). map (λ (s : Placed). s.row) v ++ filter (passes_inner c.args.rows.now)
            (drop (c.loop-number.number-index + 1) c.args.numbers.now) ≡ filter (passes_inner c.args.rows.now) c.args.numbers.now) (sym list)
            (one_passed (passes_inner c.args.rows.now) c.loop-number.list.items c.args.numbers.now c.loop-number.number-index c.loop-number-test.true
            (sym c.is_inner.ensures ∙ w.if-is_inner.false) c.loop-number.invariant.rows);
        standing = subst (λ (v : List Placed). All (IsStanding c.args.rows.now) v) (sym list) c.loop-number.invariant.standing;
      }
]
