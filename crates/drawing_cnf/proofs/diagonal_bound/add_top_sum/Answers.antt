use Rattle.std.proofs.Common.{◌≡◌, refl, ◌∙◌, ap}
use Rattle.std.specs.List.{flat_map}
use Rattle.cnf_core.proofs.BlockLemmas.{block_same}
use Rattle.unary_sum.specs.Sum.{sum_outputs}
use Rattle.drawing_cnf.proofs.DiagonalCode.{top_at}
use Rattle.drawing_cnf.proofs.diagonal_bound.add_top_sum.Goals as goal

pub returns-clause-adds : goal.returns-clause-adds
returns-clause-adds c =
    let a = c.args in
    let all = flat_map sum_outputs a.sums.now.items in
    let is : c.deref-2.result.now ≡ all = c.deref-2.ensures.value ∙ c.in_ok-outputs.ensures ∙ ap (flat_map sum_outputs) c.deref.ensures.value in
    block_same _ tt a.f.now c.add_sum_bound.new.f _ _ 3 _ refl (top_at _ a.f.now c.add_sum_bound.new.f c.deref-2.result.now all a.cap a.last a.f.now.vars is
    refl c.in_ok-sum.ensures.adds)
