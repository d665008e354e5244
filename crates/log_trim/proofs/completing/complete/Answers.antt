use Rattle.log_trim.proofs.CompletingLemmas.{clause_told}
use Rattle.log_trim.proofs.completing.complete.Goals as goal

pub push-requires : goal.push-requires
push-requires c =
    clause_told c.args.formula.now c.lits_of.result.now c.in_ok-clause.clause c.clauses-total.ensures.formula c.in_ok-clause.ensures c.lits_of.ensures.distinct
    c.lits_of.ensures.there
