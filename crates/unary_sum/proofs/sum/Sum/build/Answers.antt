use Rattle.std.proofs.Common.{arith}
use Rattle.unary_sum.proofs.SizeLemmas.{sum_words, sum_count}
use Rattle.unary_sum.proofs.SumLemmas.{sum_means, sum_extends}
use Rattle.unary_sum.proofs.sum.Sum.build.Goals as goal

pub returns-clause-words : goal.returns-clause-words
returns-clause-words c = omega (arith, c.make_sum.ensures.adds.words, sum_words c.args.cap c.args.f.now.vars c.args.inputs.now)

pub returns-clause-vars : goal.returns-clause-vars
returns-clause-vars c = omega (arith, c.make_sum.ensures.adds.vars, sum_count c.args.cap c.args.inputs.now)

pub returns-clause-means : goal.returns-clause-means
returns-clause-means c = λ v h k le. sum_means v c.args.cap c.args.f.now.vars c.args.inputs.now h k le

pub returns-clause-extends : goal.returns-clause-extends
returns-clause-extends c = λ v. sum_extends v c.args.cap c.args.f.now.vars c.args.inputs.now c.requires.inputs
