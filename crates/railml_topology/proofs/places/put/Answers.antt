use Rattle.railml_topology.proofs.PlaceLemmas.{put_one}
use Rattle.railml_topology.proofs.places.put.Goals as goal

pub returns : goal.returns
returns c = put_one c.args.table.now.items c.args.row c.args.place c.requires
