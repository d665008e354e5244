use Rattle.std.proofs.Common.{◌++◌, List, Bool, map, refl, ◌∙◌, ap}
use Rattle.plan_core.specs.Lawful.{Instance}
use Rattle.track_order.specs.Order.{is_above, is_overlap}
use Rattle.drawing_cnf.specs.Expected.{pairs_from, pair_by, edge_pair}
use Rattle.law_core.specs.Law.{instance_of}
use Rattle.law_core.proofs.ListLemmas.{listing_more}
use Rattle.law_core.proofs.listing.list_edge_row.Goals as goal

pub loop-h-init : goal.loop-h-init
loop-h-init c = refl

pub loop-h-preserved : goal.loop-h-preserved
loop-h-preserved c =
    let t = c.args.t.now in
    let e = c.args.e in
    let h = c.loop-h.h in
    let is = ap (λ (b : Bool). pair_by b c.above-in-loop-h.result c.overlap.result e h) c.above.ensures
    ∙ ap (λ (b : Bool). pair_by (is_above t e h) b c.overlap.result e h) c.above-in-loop-h.ensures
    ∙ ap (λ (b : Bool). pair_by (is_above t e h) (is_above t h e) b e h) c.overlap.ensures in
    listing_more (edge_pair (is_above t) (is_overlap t) e) c.args.laws.now.items c.loop-h.laws.items c.list_pair.new.laws.items
    (pairs_from c.args.end (edge_pair (is_above t) (is_overlap t)) e) h c.args.end c.loop-h-test.true c.loop-h.invariant
    (c.in_ok-list_pair.ensures ∙ ap (λ (xs : List Instance). map instance_of c.loop-h.laws.items ++ xs) is)
