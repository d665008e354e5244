use Rattle.std.proofs.Common.{arith}
use Rattle.order_int.proofs.OrderLemmas.{equal_means, equal_holds, equal_words}
use Rattle.order_int.proofs.orders.equal.Goals as goal

pub returns-clause-size : goal.returns-clause-size
returns-clause-size c = omega (arith, c.add_orders.ensures.words, equal_words c.args.a.now c.args.b.now c.args.unless.now)

pub returns-clause-means : goal.returns-clause-means
returns-clause-means c = λ v m n ra rb.
    (equal_means v c.args.a.now c.args.b.now m n c.args.unless.now ra rb, equal_holds v c.args.a.now c.args.b.now m n c.args.unless.now ra rb)
