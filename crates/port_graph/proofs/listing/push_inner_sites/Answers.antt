use Rattle.std.proofs.Common.{ℕ, ◌++◌, ◌∷◌, [], length, ap, ◌∙◌, arith}
use Rattle.plan_core.specs.declared.topology.Inner.{Inner}
use Rattle.port_graph.specs.Sites.{inner_site}
use Rattle.port_graph.proofs.EdgeLemmas.{counted_over}
use Rattle.port_graph.proofs.NumberLemmas.{piece_few}
use Rattle.port_graph.proofs.listing.push_inner_sites.Goals as goal

pub inner_site-requires-clause-few : goal.inner_site-requires-clause-few
inner_site-requires-clause-few c = piece_few c.args.t.now c.args.number _ c.args.track.now c.requires.there
    (omega (arith, ap length c.as_slice-inner-items.ensures)) c.requires.numbering.few

pub loop-place-preserved : goal.loop-place-preserved
loop-place-preserved c = counted_over (λ (ix : ℕ × Inner). inner_site c.args.t.now c.args.number ix.0 ix.1) _ _ _ c.as_slice-inner-items.result.now
    c.loop-place.place c.inner-item.result c.loop-place-test.true c.inner-item.is c.loop-place.invariant
    (c.in_ok-push.ensures.items ∙ ap (λ x. c.loop-place.sites.items ++ x ∷ []) c.in_ok-site.ensures)
