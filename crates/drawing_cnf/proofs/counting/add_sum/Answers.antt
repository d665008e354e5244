use Rattle.std.proofs.Common.{rules, ◌∙◌}
use Rattle.cnf_core.proofs.BlockLemmas.{block_fault, block_same}
use Rattle.unary_sum.specs.Part.{block}
use Rattle.unary_sum.specs.Sum.{sum_vars, sum_count}
use Rattle.drawing_cnf.specs.Bounds.{sum_bound}
use Rattle.drawing_cnf.proofs.CodeLemmas.{inputs_there, inputs_few, block_summed}
use Rattle.drawing_cnf.proofs.counting.add_sum.Goals as goal

pub add_sum_bound-requires-clause-inputs : goal.add_sum_bound-requires-clause-inputs
add_sum_bound-requires-clause-inputs c = inputs_there c.args.first c.args.count c.args.f.now.vars c.deref.result.now
    (c.deref.ensures.value ∙ c.in_ok-lits.ensures) c.requires.from c.requires.to

pub add_sum_bound-requires-clause-few : goal.add_sum_bound-requires-clause-few
add_sum_bound-requires-clause-few c = inputs_few c.args.first c.args.count 65535 c.deref.result.now
    (c.deref.ensures.value ∙ c.in_ok-lits.ensures) c.requires.few

pub returns-in_err-add_sum_bound : goal.returns-in_err-add_sum_bound
returns-in_err-add_sum_bound c =
    let s = sum_vars (block c.args.first c.args.count) c.args.count c.args.f.now.vars in
    block_fault c.add_sum_bound.result c.from_residual-in_err-add_sum_bound.result c.args.f.now c.add_sum_bound.new.f (sum_count s) (sum_bound s c.args.last) 3
    c.from_residual-in_err-add_sum_bound.ensures.0 (λ k. search (rules, k))
    (block_summed c.add_sum_bound.result c.args.f.now c.add_sum_bound.new.f c.deref.result.now c.args.first c.args.count c.args.last
    (c.deref.ensures.value ∙ c.in_ok-lits.ensures) c.add_sum_bound.ensures.adds)

pub returns : goal.returns
returns c =
    let s = sum_vars (block c.args.first c.args.count) c.args.count c.args.f.now.vars in
    block_same c.add_sum_bound.result tt c.args.f.now c.add_sum_bound.new.f (sum_count s) (sum_bound s c.args.last) 3 c.in_ok-add_sum_bound.field-0
    (search rules)
    (block_summed c.add_sum_bound.result c.args.f.now c.add_sum_bound.new.f c.deref.result.now c.args.first c.args.count c.args.last
    (c.deref.ensures.value ∙ c.in_ok-lits.ensures) c.add_sum_bound.ensures.adds)
