use Rattle.std.proofs.Common.{rules, ◌≡◌, ◌+◌, ◌*◌, ◌++◌, List, [], ◌∷◌, length, sym, ◌∙◌, ap, subst}
use Rattle.cnf_core.specs.Lit.{Literal, negative_of}
use Rattle.cnf_core.specs.Clause.{AreDistinct, AreThere}
use Rattle.cnf_core.proofs.StepLemmas.{adds_same, adds_fault}
use Rattle.cnf_laws.specs.Expected.{drawing_vars}
use Rattle.drawing_cnf.specs.Bounds.{height_lits}
use Rattle.drawing_cnf.proofs.ListCode.{long_distinct, long_there}
use Rattle.drawing_cnf.proofs.BoundCode.{some_adds}
use Rattle.drawing_cnf.proofs.height_bound.add_some_height.Goals as goal

pub add-requires-clause-distinct : goal.add-requires-clause-distinct
add-requires-clause-distinct c =
    let g = c.args.g.now in
    let d = c.args.grid.now in
    let b = c.args.b in
    let k = c.args.k in
    let all = height_lits (drawing_vars g d) d.width k 0 (length g.edges) in
    let grown : c.push.new.self.items ≡ c.in_ok-lits.lits.items ++ c.new.result ∷ [] = c.in_ok-push.ensures.items in
    let is : c.deref.result.now ≡ all ++ negative_of b ∷ [] = c.deref.ensures.value ∙ grown
    ∙ ap (λ (ls : List Literal). ls ++ c.new.result ∷ []) c.in_ok-lits.ensures ∙ ap (λ (l : Literal). all ++ l ∷ []) c.new.ensures in
    subst (λ (ls : List Literal). AreDistinct ls) (sym is) (long_distinct g d b k c.requires.some c.requires.few c.requires.there)

pub add-requires-clause-there : goal.add-requires-clause-there
add-requires-clause-there c =
    let g = c.args.g.now in
    let d = c.args.grid.now in
    let b = c.args.b in
    let k = c.args.k in
    let all = height_lits (drawing_vars g d) d.width k 0 (length g.edges) in
    let grown : c.push.new.self.items ≡ c.in_ok-lits.lits.items ++ c.new.result ∷ [] = c.in_ok-push.ensures.items in
    let is : c.deref.result.now ≡ all ++ negative_of b ∷ [] = c.deref.ensures.value ∙ grown
    ∙ ap (λ (ls : List Literal). ls ++ c.new.result ∷ []) c.in_ok-lits.ensures ∙ ap (λ (l : Literal). all ++ l ∷ []) c.new.ensures in
    subst (λ (ls : List Literal). AreThere c.args.f.now.vars ls) (sym is) (long_there g d b k c.args.f.now.vars c.requires.some c.requires.few c.requires.there
    c.requires.to)

pub returns-in_err-add : goal.returns-in_err-add
returns-in_err-add c =
    let g = c.args.g.now in
    let d = c.args.grid.now in
    let b = c.args.b in
    let k = c.args.k in
    let all = height_lits (drawing_vars g d) d.width k 0 (length g.edges) in
    let grown : c.push.new.self.items ≡ c.in_ok-lits.lits.items ++ c.new.result ∷ [] = c.in_ok-push.ensures.items in
    let is : c.deref.result.now ≡ all ++ negative_of b ∷ [] = c.deref.ensures.value ∙ grown
    ∙ ap (λ (ls : List Literal). ls ++ c.new.result ∷ []) c.in_ok-lits.ensures ∙ ap (λ (l : Literal). all ++ l ∷ []) c.new.ensures in
    adds_fault c.add.result c.from_residual-in_err-add.result _ _ _ (length g.edges * (d.width + 1) + 3) c.from_residual-in_err-add.ensures.0
    (λ k. search (rules, k))
    (some_adds c.add.result c.args.f.now c.add.new.self g d b k c.deref.result.now is c.requires.some c.requires.few c.requires.there c.add.ensures.ok
    c.add.ensures.room.0 c.add.ensures.err)

pub returns : goal.returns
returns c =
    let g = c.args.g.now in
    let d = c.args.grid.now in
    let b = c.args.b in
    let k = c.args.k in
    let all = height_lits (drawing_vars g d) d.width k 0 (length g.edges) in
    let grown : c.push.new.self.items ≡ c.in_ok-lits.lits.items ++ c.new.result ∷ [] = c.in_ok-push.ensures.items in
    let is : c.deref.result.now ≡ all ++ negative_of b ∷ [] = c.deref.ensures.value ∙ grown
    ∙ ap (λ (ls : List Literal). ls ++ c.new.result ∷ []) c.in_ok-lits.ensures ∙ ap (λ (l : Literal). all ++ l ∷ []) c.new.ensures in
    adds_same c.add.result tt _ _ _ (length g.edges * (d.width + 1) + 3) c.in_ok-add.field-0 (search rules)
    (some_adds c.add.result c.args.f.now c.add.new.self g d b k c.deref.result.now is c.requires.some c.requires.few c.requires.there c.add.ensures.ok
    c.add.ensures.room.0 c.add.ensures.err)
