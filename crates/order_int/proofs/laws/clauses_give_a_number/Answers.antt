use Rattle.order_int.proofs.IntLemmas.{int_means, int_holds}
use Rattle.order_int.proofs.laws.clauses_give_a_number.Goals as goal

pub returns-clause-number : goal.returns-clause-number
returns-clause-number c = int_means

pub returns-clause-clauses : goal.returns-clause-clauses
returns-clause-clauses c = int_holds
