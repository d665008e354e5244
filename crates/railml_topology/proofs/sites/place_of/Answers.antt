use Rattle.railml_topology.proofs.SiteLemmas.{place_read, place_missing}
use Rattle.railml_topology.proofs.sites.place_of.Goals as goal

pub unreachable-requires : goal.unreachable-requires
unreachable-requires c = place_missing c.args.site.now.rows.now c.args.site.now.layouts.now c.requires.ready.sound c.requires.ready.laid_out
    c.args.site.now.places.now c.requires.ready.placed c.args.number c.requires.a_connection c.in-None.is

pub returns : goal.returns
returns c = place_read c.args.site.now.rows.now c.args.site.now.layouts.now c.args.site.now.places.now c.requires.ready.placed c.args.number c.in-Some.place
    c.in-Some.is
