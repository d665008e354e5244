use Rattle.std.specs.Prelude.{length}
use Rattle.track_order.specs.Splits.{forks_before}
use Rattle.track_order.proofs.SplitLemmas.{splits_fit, above_by_splits}
use Rattle.track_order.proofs.tables.is_above.Goals as goal

pub are_split-requires : goal.are_split-requires
are_split-requires c = splits_fit c.args.g.now (forks_before c.args.g.now (length c.args.g.now.nodes)) c.args.splits.now c.args.e c.args.f c.requires.splits
    c.requires.first c.requires.second

pub returns-then-are_overlapping : goal.returns-then-are_overlapping
returns-then-are_overlapping c =
    let above = above_by_splits c.args.g.now c.args.splits.now c.args.e c.args.f c.requires.splits c.requires.first c.requires.second
    (c.are_overlapping.ensures.0 c.if-are_overlapping.true) in
    ((λ t. above.0 (c.are_split.ensures.0 t)), (λ a. c.are_split.ensures.1 (above.1 a)))
