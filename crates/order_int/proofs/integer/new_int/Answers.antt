use Rattle.std.proofs.Common.{◌+◌, ◌-◌, arith}
use Rattle.order_int.specs.IntVars.{int_vars}
use Rattle.order_int.proofs.IntLemmas.{int_means, int_extends_model, chain_words}
use Rattle.order_int.proofs.integer.new_int.Goals as goal

pub returns-clause-size : goal.returns-clause-size
returns-clause-size c = omega (arith, c.make_int.ensures.adds.words, chain_words (c.args.f.now.vars + 1) (c.args.high - c.args.low))

pub returns-clause-means : goal.returns-clause-means
returns-clause-means c = λ v h. int_means v (int_vars c.args.low c.args.high (c.args.f.now.vars + 1)) c.requires.order h

pub returns-clause-extends : goal.returns-clause-extends
returns-clause-extends c = λ v n low high. int_extends_model v (int_vars c.args.low c.args.high (c.args.f.now.vars + 1)) n low high
