use Rattle.std.proofs.Common.{◌≤◌, ◌<◌, ◌++◌, List, map, length, sym, ap, subst, arith}
use Rattle.plan_core.specs.Lawful.{Lawful}
use Rattle.cnf_core.specs.Assignment.{SatisfiesAll}
use Rattle.cnf_core.specs.Clause.{Clauses}
use Rattle.cnf_core.specs.Truths.{assignment}
use Rattle.track_order.specs.Order.{is_above, is_overlap}
use Rattle.drawing_cnf.specs.declared.kept_bound.KeptBound.{KeptBound}
use Rattle.cnf_laws.specs.Stands.{StandsFor}
use Rattle.cnf_laws.specs.Expected.{drawing_vars, formula_clauses, formula_size}
use Rattle.drawing_cnf.specs.Bounded.{bounds_clauses, AreBehind}
use Rattle.drawing_cnf.specs.Encoding.{Encoding, encoded_vars}
use Rattle.drawing_cnf.specs.Kept.{bound_of}
use Rattle.drawing_cnf.specs.Whole.{bounds_last, IsWhole}
use Rattle.drawing_cnf.proofs.encoded.Encoded.put.Goals as goal

pub put_all-requires-clause-order : goal.put_all-requires-clause-order
put_all-requires-clause-order c = (subst (λ (e : Encoding). IsWhole e) (sym c.self.view_is) c.requires.whole).order

pub put_all-requires-clause-lawful : goal.put_all-requires-clause-lawful
put_all-requires-clause-lawful c = subst (λ (e : Encoding). Lawful e.graph (is_above e.order) e.grid c.args.d.now) (sym c.self.view_is) c.requires.lawful

pub put_all-requires-clause-behind : goal.put_all-requires-clause-behind
put_all-requires-clause-behind c =
    let g = c.self.inside.graph.now in
    let t = c.self.inside.order.now in
    let grid = c.self.inside.grid.now in
    subst (λ (ks : List KeptBound). AreBehind g (drawing_vars g grid) grid (formula_size g (is_above t) (is_overlap t) grid) (map bound_of ks))
    (sym c.deref.ensures.value)
    (subst (λ (e : Encoding). IsWhole e) (sym c.self.view_is) c.requires.whole).behind

pub put_all-requires-clause-there : goal.put_all-requires-clause-there
put_all-requires-clause-there c =
    let g = c.self.inside.graph.now in
    let t = c.self.inside.order.now in
    let grid = c.self.inside.grid.now in
    let same = ap (λ (ks : List KeptBound). bounds_last g (drawing_vars g grid) grid (formula_size g (is_above t) (is_overlap t) grid) (map bound_of ks))
    c.deref.ensures.value in
    let last = (subst (λ (e : Encoding). IsWhole e) (sym c.self.view_is) c.requires.whole).vars in
    let to = subst (λ (e : Encoding). e.formula.vars ≤ length c.args.m.now) (sym c.self.view_is) c.requires.vars in
    omega arith

pub put_all-requires-clause-small : goal.put_all-requires-clause-small
put_all-requires-clause-small c =
    let g = c.self.inside.graph.now in
    let t = c.self.inside.order.now in
    let grid = c.self.inside.grid.now in
    let same = ap (λ (ks : List KeptBound). bounds_last g (drawing_vars g grid) grid (formula_size g (is_above t) (is_overlap t) grid) (map bound_of ks))
    c.deref.ensures.value in
    let last = (subst (λ (e : Encoding). IsWhole e) (sym c.self.view_is) c.requires.whole).vars in
    let most = c.vars.ensures.formula.vars_limit in
    omega arith

pub returns-clause-model : goal.returns-clause-model
returns-clause-model c =
    let g = c.self.inside.graph.now in
    let t = c.self.inside.order.now in
    let grid = c.self.inside.grid.now in
    let new = assignment c.put_all.new.m in
    subst (λ (e : Encoding). SatisfiesAll new e.formula.clauses) c.self.view_is
    (subst (λ (cs : Clauses). SatisfiesAll new cs) (sym (subst (λ (e : Encoding). IsWhole e) (sym c.self.view_is) c.requires.whole).clauses)
    (subst (λ (ks : List KeptBound). SatisfiesAll new (formula_clauses g (is_above t) (is_overlap t) grid ++ bounds_clauses g (drawing_vars g grid) grid
    (map bound_of ks))) c.deref.ensures.value c.put_all.ensures.model))

pub returns-clause-stands : goal.returns-clause-stands
returns-clause-stands c = subst (λ (e : Encoding). StandsFor (assignment c.put_all.new.m) e.graph (encoded_vars e) c.args.d.now) c.self.view_is
    c.put_all.ensures.stands

pub returns-clause-later : goal.returns-clause-later
returns-clause-later c = λ y high.
    let g = c.self.inside.graph.now in
    let t = c.self.inside.order.now in
    let grid = c.self.inside.grid.now in
    let same = ap (λ (ks : List KeptBound). bounds_last g (drawing_vars g grid) grid (formula_size g (is_above t) (is_overlap t) grid) (map bound_of ks))
    c.deref.ensures.value in
    let last = (subst (λ (e : Encoding). IsWhole e) (sym c.self.view_is) c.requires.whole).vars in
    let past = subst (λ (e : Encoding). e.formula.vars < y) (sym c.self.view_is) high in
    c.put_all.ensures.later y (omega arith)
