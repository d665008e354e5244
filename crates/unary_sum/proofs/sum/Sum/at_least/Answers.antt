use Rattle.std.proofs.Common.{rules, ◌≡◌, ◌∙◌, ap, sym, subst, length, arith}
use Rattle.cnf_core.specs.declared.literal.LitOrTruth.{LitOrTruth}
use Rattle.cnf_core.specs.LitOrTruth.{value}
use Rattle.unary_sum.specs.Part.{IsLit}
use Rattle.unary_sum.specs.Sum.{sum_at_least}
use Rattle.unary_sum.proofs.SumLemmas.{sum_means}
use Rattle.unary_sum.proofs.TopLemmas.{top_above, top_between}
use Rattle.unary_sum.proofs.sum.Sum.at_least.Goals as goal

pub returns-clause-above : goal.returns-clause-above
returns-clause-above c = λ above.
    let s = c.args.self.now in
    let is : c.at.result ≡ sum_at_least s c.args.k = search rules in
    is ∙ top_above s.most s.vars c.args.k s.inputs above

pub returns-clause-between : goal.returns-clause-between
returns-clause-between c = λ some within.
    let s = c.args.self.now in
    let is : c.at.result ≡ sum_at_least s c.args.k = search rules in
    subst (λ (t : LitOrTruth). IsLit t) (sym is) (top_between s.most s.vars (length s.inputs) c.args.k s.inputs (omega arith) some c.requires within)

pub returns-clause-means : goal.returns-clause-means
returns-clause-means c = λ v h.
    let s = c.args.self.now in
    let is : c.at.result ≡ sum_at_least s c.args.k = search rules in
    ap (value v) is ∙ sum_means v s.most s.vars s.inputs h c.args.k c.requires
