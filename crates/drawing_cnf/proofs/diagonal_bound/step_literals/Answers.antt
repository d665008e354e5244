use Rattle.std.proofs.Common.{◌≡◌, ◌++◌, [], ◌∷◌, ◌∙◌, sym, ap, subst, true, arith}
use Rattle.std.specs.Prelude.{nat_lt, cond}
use Rattle.std.proofs.lemmas.Bool.Decides.{nat_tests}
use Rattle.cnf_core.specs.declared.literal.LitOrTruth.TheVariants.{False}
use Rattle.cnf_core.specs.Lit.{Literal, positive_of}
use Rattle.cnf_core.specs.LitOrTruth.{yes}
use Rattle.unary_sum.specs.Part.{IsLit}
use Rattle.edge_shape.specs.EdgeVars.{lits_of}
use Rattle.drawing_cnf.specs.Bounds.{step_lits}
use Rattle.drawing_cnf.proofs.ListCode.{steps_next, steps_done}
use Rattle.drawing_cnf.proofs.diagonal_bound.step_literals.Goals as goal

pub loop-c-preserved : goal.loop-c-preserved
loop-c-preserved c =
    let e = c.args.e.now in
    let x = lits_of e in
    let k = c.loop-c.c in
    let test = c.loop-c-test.true in
    let width = c.requires in
    let there : nat_lt k e.width ≡ true = grind (arith, nat_tests) in
    let front = c.loop-c.lits.items in
    let up : c.literal_of.result ≡ positive_of (x.up k) = c.literal_of.ensures (x.up k) (c.up.ensures.value ∙ ap (λ b. cond b (yes (x.up k)) False) there) in
    let down : c.literal_of-in-loop-c.result ≡ positive_of (x.down k) = c.literal_of-in-loop-c.ensures (x.down k)
    (c.down.ensures.value ∙ ap (λ b. cond b (yes (x.down k)) False) there) in
    let one : c.push.new.self.items ≡ front ++ c.literal_of.result ∷ [] = c.in_ok-push.ensures.items in
    let two : c.push-in-loop-c.new.self.items ≡ c.push.new.self.items ++ c.literal_of-in-loop-c.result ∷ [] = c.in_ok-push-2.ensures.items in
    steps_next x k c.args.width front c.push.new.self.items c.push-in-loop-c.new.self.items (step_lits x 0 c.args.width) c.loop-c-test.true
    (one ∙ ap (λ (l : Literal). front ++ l ∷ []) up) (two ∙ ap (λ (l : Literal). c.push.new.self.items ++ l ∷ []) down) c.loop-c.invariant

pub literal_of-requires : goal.literal_of-requires
literal_of-requires c =
    let e = c.args.e.now in
    let k = c.loop-c.c in
    let test = c.loop-c-test.true in
    let width = c.requires in
    let there : nat_lt k e.width ≡ true = grind (arith, nat_tests) in
    subst IsLit (sym (c.up.ensures.value ∙ ap (λ b. cond b (yes ((lits_of e).up k)) False) there)) tt

pub literal_of-requires-in-loop-c : goal.literal_of-requires-in-loop-c
literal_of-requires-in-loop-c c =
    let e = c.args.e.now in
    let k = c.loop-c.c in
    let test = c.loop-c-test.true in
    let width = c.requires in
    let there : nat_lt k e.width ≡ true = grind (arith, nat_tests) in
    subst IsLit (sym (c.down.ensures.value ∙ ap (λ b. cond b (yes ((lits_of e).down k)) False) there)) tt

pub returns : goal.returns
returns c = steps_done (lits_of c.args.e.now) c.loop-c.c c.args.width c.loop-c.lits.items (step_lits (lits_of c.args.e.now) 0 c.args.width) c.loop-c-test.false
    c.loop-c.invariant
