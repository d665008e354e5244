use Rattle.railml_topology.proofs.PositionLemmas.{metres_within, kept_within}
use Rattle.railml_topology.proofs.order.metres_in.Goals as goal

pub returns-clause-within : goal.returns-clause-within
returns-clause-within c = kept_within c.in-Some-read_metres.metres.0 (metres_within _ _ c.in-Some-read_metres.ensures.only)
