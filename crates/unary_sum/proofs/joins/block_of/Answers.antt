use Rattle.std.proofs.Common.{rules, ◌≡◌, ◌+◌, ◌-◌, List, [], ◌∷◌, ◌++◌, sym, ◌∙◌, ap}
use Rattle.cnf_core.specs.Lit.{Literal, positive_of}
use Rattle.unary_sum.specs.Part.{block}
use Rattle.unary_sum.proofs.OutputLemmas.{block_next}
use Rattle.unary_sum.proofs.joins.block_of.Goals as goal

pub loop-k-preserved : goal.loop-k-preserved
loop-k-preserved c =
    let first = c.args.first in
    let count = c.args.count in
    let k = c.loop-k.k in
    let e : c.push.new.self.items ≡ c.loop-k.outputs.items ++ positive_of (first + k) ∷ [] = search rules in
    ap (λ (ls : List Literal). ls ++ block (first + (k + 1)) (count - (k + 1))) e ∙ sym (block_next first count k c.loop-k.outputs.items c.loop-k-test.true)
    ∙ c.loop-k.invariant
