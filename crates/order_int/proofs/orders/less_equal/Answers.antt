use Rattle.std.proofs.Common.{arith}
use Rattle.order_int.proofs.OrderLemmas.{le_means, le_holds, le_words}
use Rattle.order_int.proofs.orders.less_equal.Goals as goal

pub returns-clause-size : goal.returns-clause-size
returns-clause-size c = omega (arith, c.add_order.ensures.words, le_words c.args.a.now c.args.b.now c.args.plus c.args.unless.now)

pub returns-clause-means : goal.returns-clause-means
returns-clause-means c = λ v m n ra rb.
    (le_means v c.args.a.now c.args.b.now m n c.args.plus c.args.unless.now ra rb, le_holds v c.args.a.now c.args.b.now m n c.args.plus c.args.unless.now ra rb)
