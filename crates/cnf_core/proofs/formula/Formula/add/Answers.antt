use Rattle.std.proofs.Common.{arith, sym, subst}
use Rattle.cnf_core.specs.Clause.{AreThere}
use Rattle.cnf_core.specs.Formula.{Cnf}
use Rattle.cnf_core.proofs.StoreLemmas.{stored_small, stored_words, stored_count, stored_more, view_more}
use Rattle.cnf_core.proofs.formula.Formula.add.Goals as goal

pub overflow_cast-number : goal.overflow_cast-number
overflow_cast-number c = omega (arith, stored_small _ _ _ _ c.self.invariant)

pub append-requires : goal.append-requires
append-requires c =
    let words = stored_words _ _ _ _ _ c.self.invariant c.self.view_is in
    let limit = c.self.invariant.formula.room_limit in
    omega arith

pub invariant_of-self-2 : goal.invariant_of-self-2
invariant_of-self-2 c =
    let words = stored_words _ _ _ _ _ c.self.invariant c.self.view_is in
    stored_more _ _ _ c.args.lits.now _ _ _ (omega arith) c.requires.distinct (subst (λ (f : Cnf). AreThere f.vars c.args.lits.now) (sym c.self.view_is)
    c.requires.there) c.self.invariant c.in_ok-append.ensures.lits c.in_ok-append.ensures.ends

pub returns-clause-number : goal.returns-clause-number
returns-clause-number c = omega (arith, stored_count _ _ _ _ _ c.self.view_is)

pub returns-clause-ok : goal.returns-clause-ok
returns-clause-ok c = view_more _ _ _ _ _ _ _ _ c.self.invariant c.in_ok-append.ensures.lits c.in_ok-append.ensures.ends c.self.view_is
