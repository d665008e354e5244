use Rattle.std.proofs.Common.{◌+◌, arith}
use Rattle.log_check.specs.Awaited.{awaited_lines, lines_from}
use Rattle.log_check.proofs.AwaitedLemmas.{clause_low, clause_next, not_that_clause, that_clause}
use Rattle.log_check.proofs.awaited.step.Goals as goal

pub returns-then-not-is_clause : goal.returns-then-not-is_clause
returns-then-not-is_clause c = λ more e.
    let a = c.args.awaited.now in
    let next = clause_next a.formula.now.clauses a.parts.now c.in_ok-part.field-0-1.now c.in_ok-part.part.now c.in-ClausesTo.field-0 a.clause a.bound
    c.in_ok-part.ensures.cases.0 c.in-ClausesTo.is c.requires.awaited c.requires.more in
    not_that_clause (awaited_lines a) more (lines_from a.formula.now.clauses a.parts.now (a.clause + 1) a.bound) c.args.line.now c.lits_of.result.now _
    c.is_clause.result c.if-not-is_clause.true c.is_clause.ensures c.lits_of.ensures.value next e

pub overflow_add-result : goal.overflow_add-result
overflow_add-result c =
    let a = c.args.awaited.now in
    let low = clause_low a.formula.now.clauses a.parts.now c.in_ok-part.field-0-1.now c.in_ok-part.part.now c.in-ClausesTo.field-0 a.clause a.bound
    c.in_ok-part.ensures.cases.0 c.in-ClausesTo.is c.requires.awaited c.requires.more in
    omega arith

pub returns-else-not-is_clause : goal.returns-else-not-is_clause
returns-else-not-is_clause c =
    let a = c.args.awaited.now in
    let next = clause_next a.formula.now.clauses a.parts.now c.in_ok-part.field-0-1.now c.in_ok-part.part.now c.in-ClausesTo.field-0 a.clause a.bound
    c.in_ok-part.ensures.cases.0 c.in-ClausesTo.is c.requires.awaited c.requires.more in (
      c.requires.awaited,
      that_clause (awaited_lines a) (lines_from a.formula.now.clauses a.parts.now (a.clause + 1) a.bound) c.args.line.now
          c.lits_of.result.now _ c.is_clause.result c.if-not-is_clause.false c.is_clause.ensures c.lits_of.ensures.value next,
    )
