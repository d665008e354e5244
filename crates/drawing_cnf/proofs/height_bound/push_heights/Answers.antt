use Rattle.std.proofs.Common.{◌≡◌, ◌+◌, ◌-◌, ◌++◌, [], ◌∷◌, ◌∙◌, ap}
use Rattle.cnf_core.specs.Lit.{Literal, positive_of}
use Rattle.order_int.specs.IntVars.{IntVars}
use Rattle.order_int.specs.OrderInt.{int_at_least}
use Rattle.edge_shape.specs.EdgeVars.{lits_of}
use Rattle.drawing_cnf.specs.Bounds.{column_lits}
use Rattle.drawing_cnf.proofs.ListCode.{column_next, at_least_is}
use Rattle.drawing_cnf.proofs.height_bound.push_heights.Goals as goal

pub loop-c-preserved : goal.loop-c-preserved
loop-c-preserved c =
    let e = c.args.e.now in
    let k = c.args.k in
    let i = (lits_of e).height c.loop-c.c in
    let front = c.loop-c.lits.items in
    let lit : c.literal_of.result ≡ positive_of (i.first + (k - 1)) = c.literal_of.ensures (i.first + (k - 1))
    (c.at_least.ensures ∙ ap (λ (z : IntVars). int_at_least z k) c.height.ensures.value ∙ at_least_is e.high i.first k c.requires.from c.requires.to) in
    let grown : c.push.new.self.items ≡ front ++ c.literal_of.result ∷ [] = c.in_ok-push.ensures.items in
    column_next (lits_of e) k c.loop-c.c (c.args.width + 1) front c.push.new.self.items
    (c.args.lits.now.items ++ column_lits (lits_of e) k 0 (c.args.width + 1)) c.loop-c-test.true (grown ∙ ap (λ (l : Literal). front ++ l ∷ []) lit)
    c.loop-c.invariant
