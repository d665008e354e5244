use Rattle.std.proofs.Common.{◌≡◌, List, ℕ, refl, ◌∙◌, subst, arith, Ok}
use Rattle.cnf_core.specs.Added.{AddsBlock}
use Rattle.cnf_core.proofs.BlockLemmas.{block_same, block_longer}
use Rattle.cnf_laws.specs.Expected.{drawing_vars}
use Rattle.drawing_cnf.specs.Bounds.{west_first, bends_bound, bends_bound_size}
use Rattle.drawing_cnf.specs.Bounded.{longest_of_bound}
use Rattle.drawing_cnf.proofs.bounds.add_bends.Goals as goal

pub returns-clause-adds : goal.returns-clause-adds
returns-clause-adds c =
    let a = c.args in
    let x = drawing_vars a.g.now a.grid.now in
    let new = c.add_bends_bound.new.f in
    let is : c.deref.result.now ≡ west_first a.g.now = c.deref.ensures.value ∙ c.in_ok-edges.ensures in
    block_longer _ a.f.now new _ _ 3 (longest_of_bound a.g.now a.grid.now) (omega arith)
    (block_same _ _ a.f.now new _ _ 3 _ refl (subst (λ (es : List ℕ). AddsBlock (Ok c.in_ok-sum.sum) a.f.now new (bends_bound_size x es a.f.now.vars a.cap)
    (bends_bound x es a.f.now.vars a.cap) 3) is c.in_ok-sum.ensures.adds))
