use Rattle.std.proofs.Common.{refl, rules}
use Rattle.std.proofs.lemmas.Bool.{false≢true}
use Rattle.refute_log.proofs.LetterLemmas.{no_learnt, learnt_is, learnt_fault}
use Rattle.refute_log.proofs.reading.read_learnt.Goals as goal

pub returns-then-is_end-clause-fault : goal.returns-then-is_end-clause-fault
returns-then-is_end-clause-fault c = (refl, no_learnt c.args.text.now (c.if-is_end.ensures.0 refl))

pub returns-in_err-read_clause-clause-fault : goal.returns-in_err-read_clause-clause-fault
returns-in_err-read_clause-clause-fault c =
    let fault = learnt_fault c.args.text.now (λ e. false≢true (c.if-is_end.ensures.1 e)) c.args.line c.in_err-read_clause.field-0.0
    c.in_err-read_clause.ensures.fault in
    search (rules, fault)

pub returns-clause-line : goal.returns-clause-line
returns-clause-line c =
    learnt_is c.args.text.now c.in_ok-read_clause.field-0 (λ e. false≢true (c.if-is_end.ensures.1 e)) c.in_ok-read_clause.ensures.literals
    c.in_ok-read_clause.ensures.distinct
