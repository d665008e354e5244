use Rattle.std.specs.Prelude.{ℕ, replicate, false}
use Rattle.std.proofs.Common.{ap, ◌∙◌}
use Rattle.track_order.proofs.FillingLemmas.{filling_starts}
use Rattle.track_order.proofs.reaching.Filling.new.Goals as goal

pub returns : goal.returns
returns c =
    filling_starts c.args.g.now c.args.way c.args.start c.end_of.result.0 c.in_ok-edges.edges.items c.in_ok-nodes.nodes.items c.end_of.ensures.value c.requires
    c.end_of.ensures.there
    (c.in_ok-edges.ensures ∙ ap (λ (n : ℕ). replicate n false) c.edges.ensures.value)
    (c.in_ok-nodes.ensures ∙ ap (λ (n : ℕ). replicate n false) c.nodes.ensures.value)
