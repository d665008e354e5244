use Rattle.drawing_cnf.proofs.BoundLemmas.{sum_bound_means, sum_bound_extends}
use Rattle.drawing_cnf.proofs.sum_bounds.add_sum_bound.Goals as goal

pub returns-clause-exact : goal.returns-clause-exact
returns-clause-exact c = λ v h. sum_bound_means v c.args.inputs.now c.args.last c.args.cap c.args.f.now.vars h

pub returns-clause-extends : goal.returns-clause-extends
returns-clause-extends c = λ v exact. sum_bound_extends v c.args.inputs.now c.args.last c.args.cap c.args.f.now.vars c.requires.inputs c.requires.before exact
