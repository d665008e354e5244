use Rattle.std.proofs.Common.{rules, arith, ◌≡◌, ◌≤◌, ◌+◌, List, [], ◌∷◌, ◌++◌, length, sym, subst, Ok}
use Rattle.std.specs.Prelude.{IsErrOf, map}
use Rattle.cnf_core.specs.declared.literal.LitOrTruth.{LitOrTruth}
use Rattle.cnf_core.specs.Lit.{Literal}
use Rattle.cnf_core.specs.declared.fault.CnfFault.TheVariants.{Room}
use Rattle.cnf_core.specs.Clause.{Clauses, AreThere}
use Rattle.cnf_core.specs.LitOrTruth.{flip, clause_of}
use Rattle.cnf_core.specs.Formula.{Cnf, cnf_of}
use Rattle.cnf_core.specs.Added.{AddsClauses}
use Rattle.cnf_core.proofs.StepLemmas.{adds_same, adds_fault, adds_longer, added_one}
use Rattle.cnf_core.proofs.GatherLemmas.{clause_distinct, gathered_there_one, gathered_length, flips_within, flips_length}
use Rattle.cnf_core.proofs.formula.Formula.add_rule.Goals as goal
use Rattle.cnf_core.proofs.formula.Formula.add_rule.Goals.{After-deref}

few : (unless : List Literal) (ps ts : List LitOrTruth) (lits : List Literal) → clause_of unless (map flip ps ++ ts) ≡ lits ∷ [] →
    length lits ≤ length unless + (length ps + length ts)
few unless ps ts lits is = omega (arith, gathered_length unless (map flip ps ++ ts) lits is, flips_length ps ts)

-- the literals are the clause
is_clause : (c : After-deref) → clause_of c.args.unless.now (map flip c.args.premises.now ++ c.args.conclusions.now) ≡ c.deref.result.now ∷ []
is_clause c = cc (rw c.in-Some.is at c.in_ok-gather.ensures, c.deref.ensures.value)

pub add-requires-clause-distinct : goal.add-requires-clause-distinct
add-requires-clause-distinct c = clause_distinct c.args.unless.now (map flip c.args.premises.now ++ c.args.conclusions.now) c.deref.result.now (is_clause c)

pub add-requires-clause-there : goal.add-requires-clause-there
add-requires-clause-there c = subst (λ (f : Cnf). AreThere f.vars c.deref.result.now) (sym c.self.view_is)
    (gathered_there_one c.args.self.now.vars c.args.unless.now (map flip c.args.premises.now ++ c.args.conclusions.now) c.deref.result.now (is_clause c)
    c.requires.there
    (flips_within c.args.self.now.vars c.args.premises.now c.args.conclusions.now c.requires.premises c.requires.conclusions))

pub returns-in_err-add-in-Some-clause-adds : goal.returns-in_err-add-in-Some-clause-adds
returns-in_err-add-in-Some-clause-adds c =
    let is = is_clause (goal.at.returns-in_err-add-in-Some-clause-adds c).After-deref in
    let f = c.self.inside in
    let old = cnf_of f.room f.vars f.lits.items f.ends.items in
    let new = c.add.new.self in
    let now = c.deref.result.now in
    let r = c.from_residual-in_err-add-in-Some.result in
    let most = length c.args.unless.now + (length c.args.premises.now + length c.args.conclusions.now) in
    let one = adds_longer c.add.result old new (now ∷ []) (length now) most (few c.args.unless.now c.args.premises.now c.args.conclusions.now now is)
    (added_one c.add.result old new now c.add.ensures.ok c.add.ensures.room.0 c.add.ensures.err) in
    subst (λ (o : Cnf). AddsClauses r o new (clause_of c.args.unless.now (map flip c.args.premises.now ++ c.args.conclusions.now)) most) c.self.view_is
    (subst (λ (cs : Clauses). AddsClauses r old new cs most) (sym is) (adds_fault c.add.result r old new (now ∷ []) most
    c.from_residual-in_err-add-in-Some.ensures.0 (λ k. let room : IsErrOf c.add.result Room = search (rules, k) in room) one))

pub returns-in_ok-add-in-Some-clause-adds : goal.returns-in_ok-add-in-Some-clause-adds
returns-in_ok-add-in-Some-clause-adds c =
    let is = is_clause (goal.at.returns-in_ok-add-in-Some-clause-adds c).After-deref in
    let f = c.self.inside in
    let old = cnf_of f.room f.vars f.lits.items f.ends.items in
    let new = c.add.new.self in
    let now = c.deref.result.now in
    let most = length c.args.unless.now + (length c.args.premises.now + length c.args.conclusions.now) in
    let one = adds_longer c.add.result old new (now ∷ []) (length now) most (few c.args.unless.now c.args.premises.now c.args.conclusions.now now is)
    (added_one c.add.result old new now c.add.ensures.ok c.add.ensures.room.0 c.add.ensures.err) in
    subst (λ (n : Cnf). AddsClauses (Ok tt) c.args.self.now n (clause_of c.args.unless.now (map flip c.args.premises.now ++ c.args.conclusions.now)) most)
    (sym c.self-in-Some.view_is)
    (subst (λ (o : Cnf). AddsClauses (Ok tt) o new (clause_of c.args.unless.now (map flip c.args.premises.now ++ c.args.conclusions.now)) most) c.self.view_is
    (subst (λ (cs : Clauses). AddsClauses (Ok tt) old new cs most) (sym is) (adds_same c.add.result tt old new (now ∷ []) most
    c.in_ok-add-in-Some.field-0 c.in_ok-add-in-Some.was one)))
