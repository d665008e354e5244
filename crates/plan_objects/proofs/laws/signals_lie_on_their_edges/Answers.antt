use Rattle.plan_objects.proofs.AlongLemmas.{lies_on}
use Rattle.plan_objects.proofs.laws.signals_lie_on_their_edges.Goals as goal

pub returns : goal.returns
returns c = lies_on
