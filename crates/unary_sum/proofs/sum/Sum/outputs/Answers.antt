use Rattle.std.proofs.Common.{◌≡◌, ◌+◌, IfOk, sym, ◌∙◌, ap, subst, arith}
use Rattle.std.proofs.lemmas.Result.{IfOk-weaker}
use Rattle.cnf_core.specs.Clause.{AreThere}
use Rattle.unary_sum.specs.Part.{part_outputs}
use Rattle.unary_sum.specs.Sum.{SumVars, sum_vars, sum_count, sum_outputs}
use Rattle.unary_sum.proofs.OutputLemmas.{sum_outputs_true, sum_outputs_whole, sum_outputs_there}
use Rattle.unary_sum.proofs.sum.Sum.outputs.Goals as goal

pub returns-clause-value : goal.returns-clause-value
returns-clause-value c =
    let i = c.self.inside in
    let top = c.self.invariant.is_top in
    let some = c.if-self-eq0.false in
    let whole = sum_outputs_whole i.cap i.vars i.inputs.items (omega arith) in
    subst (λ (s : SumVars). IfOk c.outputs.result (λ v. v.items ≡ sum_outputs s)) c.self.view_is
    (IfOk-weaker c.outputs.result (λ v. v.items ≡ part_outputs i.top) (λ v. v.items ≡ sum_outputs (sum_vars i.inputs.items i.cap i.vars))
    (λ v e. e ∙ ap part_outputs top ∙ sym whole) c.outputs.ensures)

pub returns-clause-there : goal.returns-clause-there
returns-clause-there c =
    let i = c.self.inside in
    subst (λ (s : SumVars). AreThere (s.vars + sum_count s) (sum_outputs s)) c.self.view_is
    (sum_outputs_there i.cap i.vars i.inputs.items c.self.invariant.sum.there)

pub returns-clause-means : goal.returns-clause-means
returns-clause-means c = λ v h. sum_outputs_true v c.args.self.now.most c.args.self.now.vars c.args.self.now.inputs h
