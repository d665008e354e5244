use Rattle.track_order.proofs.TurnedLemmas.{above_turned, turned_above}
use Rattle.track_order.proofs.laws.order_turns_round.Goals as goal

pub returns : goal.returns
returns c g e f = (above_turned g e f, turned_above g e f)
