use Rattle.std.proofs.Common.{List, Bool, subst}
use Rattle.std.specs.Prelude.{All}
use Rattle.cnf_core.specs.Lit.{negate}
use Rattle.cnf_core.specs.Propagation.{IsIn}
use Rattle.cnf_core.specs.Trail.{marked}
use Rattle.refute_check.specs.Tables.{IsQuiet}
use Rattle.refute_check.proofs.GrowthLemmas.{trail_consistent, quiet_by_marks}
use Rattle.refute_check.proofs.AddLemmas.{settled_quiet, settled_falsified}
use Rattle.refute_check.proofs.tables.Tables.settle.Goals as goal

pub scan_clause-requires-clause-consistent : goal.scan_clause-requires-clause-consistent
scan_clause-requires-clause-consistent c = rw c.deref.ensures.value (trail_consistent c.args.formula.now.vars c.args.self.now.truth.items
    c.args.self.now.trail.items c.requires.listed.counted.table)

pub returns-in-Quiet-clause-settled : goal.returns-in-Quiet-clause-settled
returns-in-Quiet-clause-settled c = λ _.
    let here = subst (λ (bs : List Bool). IsQuiet (marked bs) (marked bs) c.args.lits.now) c.deref.ensures.value c.in-Quiet.ensures in
    settled_quiet c.args.formula.now.vars c.args.formula.now.clauses c.args.lits.now c.args.self.now c.requires.listed
    (quiet_by_marks c.args.formula.now.vars c.args.self.now.truth.items c.args.self.now.trail.items c.args.lits.now c.requires.listed.counted.table here)

pub returns-in-Falsified-clause-falsified : goal.returns-in-Falsified-clause-falsified
returns-in-Falsified-clause-falsified c = λ _.
    settled_falsified c.args.formula.now.vars c.args.formula.now.clauses c.args.lits.now c.args.self.now c.requires.listed
    (subst (λ (bs : List Bool). All (λ k. IsIn (marked bs) (negate k)) c.args.lits.now) c.deref.ensures.value c.in-Falsified.ensures)
