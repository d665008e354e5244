use Rattle.std.proofs.Common.{arith, sym, ◌∙◌, ap, subst, List, ◌∷◌, ℕ, length, take, drop, get_or}
use Rattle.std.specs.Prelude.{◌-◌}
use Rattle.cnf_core.specs.Lit.{Literal}
use Rattle.cnf_core.specs.Clause.{AreDistinct, AreThere}
use Rattle.cnf_core.specs.Formula.{AreEnds}
use Rattle.cnf_core.proofs.StoreLemmas.{stored_count, clause_stored, formula_stored, clause_small}
use Rattle.cnf_core.proofs.ClauseLemmas.{there_at, distinct_at}
use Rattle.cnf_core.proofs.formula.Formula.lits_of.Goals as goal

pub cut_out-requires-clause-there : goal.cut_out-requires-clause-there
cut_out-requires-clause-there c = omega (arith, stored_count _ _ _ _ _ c.self.view_is)

pub cut_out-requires-clause-rise : goal.cut_out-requires-clause-rise
cut_out-requires-clause-rise c =
    let n = ap length c.deref.ensures.value in
    subst (λ (ns : List ℕ). AreEnds 0 ns (length c.deref.result.now)) (sym c.deref-2.ensures.value)
    (subst (λ m. AreEnds 0 c.self.inside.ends.items m) (sym n) c.self.invariant.ends_rise)

pub returns-clause-value : goal.returns-clause-value
returns-clause-value c =
    let ends = c.deref-2.ensures.value in
    let lits = c.deref.ensures.value in
    let cut = λ (ls : List Literal) (ns : List ℕ). take (get_or ns c.args.c.0 0 - get_or (0 ∷ ns) c.args.c.0 0) (drop (get_or (0 ∷ ns) c.args.c.0 0) ls) in
    c.cut_out.ensures ∙ ap (λ (ls : List Literal). cut ls c.deref-2.result.now) lits ∙ ap (λ (ns : List ℕ). cut c.self.inside.lits.items ns) ends
    ∙ clause_stored _ _ c.args.c.0 _ _ _ c.self.invariant c.self.view_is c.requires

pub returns-clause-distinct : goal.returns-clause-distinct
returns-clause-distinct c =
    let f = formula_stored _ _ _ _ _ c.self.invariant c.self.view_is in
    subst (λ (ls : List Literal). AreDistinct ls) (sym (returns-clause-value c)) (distinct_at c.args.self.now.clauses c.args.c.0 f.distinct)

pub returns-clause-there : goal.returns-clause-there
returns-clause-there c =
    let f = formula_stored _ _ _ _ _ c.self.invariant c.self.view_is in
    subst (λ (ls : List Literal). AreThere c.args.self.now.vars ls) (sym (returns-clause-value c))
    (there_at c.args.self.now.vars c.args.self.now.clauses c.args.c.0 f.there)

pub returns-clause-small : goal.returns-clause-small
returns-clause-small c =
    let f = formula_stored _ _ _ _ _ c.self.invariant c.self.view_is in
    let small = clause_small c.args.self.now c.args.c.0 f in
    let n = ap length (returns-clause-value c) in
    omega arith
