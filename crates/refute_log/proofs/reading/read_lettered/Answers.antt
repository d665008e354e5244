use Rattle.std.proofs.Common.{rules}
use Rattle.refute_log.proofs.LetterLemmas.{formula_is, query_is, refuted_is, formula_fault, query_fault, refuted_fault}
use Rattle.refute_log.proofs.reading.read_lettered.Goals as goal

pub returns-in_err-read_clause-in-102-clause-fault : goal.returns-in_err-read_clause-in-102-clause-fault
returns-in_err-read_clause-in-102-clause-fault c =
    let fault = formula_fault c.args.text.now c.args.line c.in_err-read_clause-in-102.field-0.0 c.in_err-read_clause-in-102.ensures.fault in
    rw c.in-102.is (search (rules, fault))

pub returns-in_err-read_clause-in-113-clause-fault : goal.returns-in_err-read_clause-in-113-clause-fault
returns-in_err-read_clause-in-113-clause-fault c =
    let fault = query_fault c.args.text.now c.args.line c.in_err-read_clause-in-113.field-0.0 c.in_err-read_clause-in-113.ensures.fault in
    rw c.in-113.is (search (rules, fault))

pub returns-in_err-read_clause-in-114-clause-fault : goal.returns-in_err-read_clause-in-114-clause-fault
returns-in_err-read_clause-in-114-clause-fault c =
    let fault = refuted_fault c.args.text.now c.args.line c.in_err-read_clause-in-114.field-0.0 c.in_err-read_clause-in-114.ensures.fault in
    rw c.in-114.is (search (rules, fault))

pub returns-in_ok-read_clause-in-102-clause-line : goal.returns-in_ok-read_clause-in-102-clause-line
returns-in_ok-read_clause-in-102-clause-line c =
    rw c.in-102.is (formula_is c.args.text.now c.in_ok-read_clause-in-102.field-0 c.in_ok-read_clause-in-102.ensures.literals
    c.in_ok-read_clause-in-102.ensures.distinct)

pub returns-in_ok-read_clause-in-113-clause-line : goal.returns-in_ok-read_clause-in-113-clause-line
returns-in_ok-read_clause-in-113-clause-line c =
    rw c.in-113.is (query_is c.args.text.now c.in_ok-read_clause-in-113.field-0 c.in_ok-read_clause-in-113.ensures.literals
    c.in_ok-read_clause-in-113.ensures.distinct)

pub returns-in_ok-read_clause-in-114-clause-line : goal.returns-in_ok-read_clause-in-114-clause-line
returns-in_ok-read_clause-in-114-clause-line c =
    rw c.in-114.is (refuted_is c.args.text.now c.in_ok-read_clause-in-114.field-0 c.in_ok-read_clause-in-114.ensures.literals
    c.in_ok-read_clause-in-114.ensures.distinct)
