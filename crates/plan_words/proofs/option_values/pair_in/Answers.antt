use Rattle.std.proofs.Common.{[], ◌∷◌, arith}
use Rattle.plan_words.proofs.OrderTextLemmas.{pair_or_none}
use Rattle.plan_words.proofs.option_values.pair_in.Goals as goal

pub returns-in-Some : goal.returns-in-Some
returns-in-Some c = pair_or_none c.args.text.now c.in-Some.list.items c.pair_of.result c.in-Some.ensures (rw (c.deref.ensures.0) at c.pair_of.ensures)

pub returns-in-None : goal.returns-in-None
returns-in-None c = λ a b p. c.in-None.ensures (a ∷ b ∷ []) (omega arith) (omega arith) p.written
