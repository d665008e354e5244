use Rattle.std.proofs.Common.{subst, arith}
use Rattle.std.specs.Prelude.{ℕ, ◌<◌, length}
use Rattle.track_order.specs.Tables.{IsMarked}
use Rattle.track_order.proofs.FillingLemmas.{filling_steps, filling_passes_over, read_marked, read_unmarked}
use Rattle.track_order.proofs.reaching.Filling.go_over.Goals as goal

pub returns-then-index : goal.returns-then-index
returns-then-index c start done start_there behind so_far =
    let within : c.begin_of.result.0 < length c.args.self.now.nodes.items = omega (arith, c.begin_of.ensures.there, c.requires.nodes) in
    filling_steps c.args.g.now c.args.way start done c.args.self.now.edges.items c.args.self.now.nodes.items c.args.e c.end_of.result.0 c.end_of.ensures.value
    c.requires.edge c.end_of.ensures.there so_far
    (subst (λ (n : ℕ). IsMarked c.args.self.now.nodes.items n) c.begin_of.ensures.value
    (read_marked c.args.self.now.nodes.items c.begin_of.result.0 c.index.result.now within c.index.ensures c.if-index.true))

pub returns-else-index : goal.returns-else-index
returns-else-index c start done start_there behind so_far =
    let within : c.begin_of.result.0 < length c.args.self.now.nodes.items = omega (arith, c.begin_of.ensures.there, c.requires.nodes) in
    filling_passes_over c.args.g.now c.args.way start done c.args.self.now.edges.items c.args.self.now.nodes.items c.args.e start_there behind so_far
    (subst (λ (n : ℕ). IsMarked c.args.self.now.nodes.items n → ⊥) c.begin_of.ensures.value
    (read_unmarked c.args.self.now.nodes.items c.begin_of.result.0 c.index.result.now within c.index.ensures c.if-index.false))
