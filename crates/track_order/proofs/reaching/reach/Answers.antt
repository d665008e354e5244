use Rattle.std.specs.Prelude.{List, Bool, take, slice_index_or}
use Rattle.std.proofs.lemmas.Option.{slice_get-get_or}
use Rattle.std.proofs.Common.{subst, sym}
use Rattle.track_order.specs.Filling.{IsReachRow}
use Rattle.track_order.proofs.FillingLemmas.{entry_there, filling_on, filling_whole}
use Rattle.track_order.proofs.reaching.reach.Goals as goal

pub go_over-requires-clause-edge : goal.go_over-requires-clause-edge
go_over-requires-clause-edge c = entry_there c.args.g.now c.args.way c.args.order.now c.loop-e.e-index c.requires.order c.loop-e-test.true

pub loop-e-preserved : goal.loop-e-preserved
loop-e-preserved c =
    filling_on c.args.g.now c.args.way c.args.start c.args.order.now c.loop-e.e-index c.go_over.new.self.edges.items c.go_over.new.self.nodes.items
    c.requires.order c.loop-e-test.true
    (c.go_over.ensures c.args.start (take c.loop-e.e-index c.args.order.now) c.requires.start
    (c.requires.order.behind c.loop-e.e-index (slice_index_or c.args.order.now c.loop-e.e-index 0)
    (slice_get-get_or c.args.order.now c.loop-e.e-index 0 c.loop-e-test.true))
    c.loop-e.invariant)

pub returns : goal.returns
returns c = subst (λ (row : List Bool). IsReachRow c.args.g.now c.args.way c.args.start row) (sym c.from_vec.ensures)
    (filling_whole c.args.g.now c.args.way c.args.start c.args.order.now c.loop-e.e-index c.loop-e.filling.edges.items c.loop-e.filling.nodes.items
    c.requires.order c.loop-e-test.false c.loop-e.invariant)
