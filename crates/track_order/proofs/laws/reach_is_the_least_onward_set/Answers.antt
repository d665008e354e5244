use Rattle.track_order.proofs.ReachLemmas.{is_kept}
use Rattle.track_order.proofs.laws.reach_is_the_least_onward_set.Goals as goal

pub returns-clause-least : goal.returns-clause-least
returns-clause-least c = is_kept
