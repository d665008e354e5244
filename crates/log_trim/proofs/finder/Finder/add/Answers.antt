use Rattle.std.proofs.Common.{◌+◌, List, inl, sym, subst, arith}
use Rattle.cnf_core.specs.Lit.{Literal}
use Rattle.cnf_core.proofs.ClauseLemmas.{there_more}
use Rattle.log_trim.specs.Found.{IsPadded}
use Rattle.log_trim.proofs.finder.Finder.add.Goals as goal

pub put-requires-else-lits-lt2-clause-there : goal.put-requires-else-lits-lt2-clause-there
put-requires-else-lits-lt2-clause-there c = there_more c.args.self.now.vars (c.args.self.now.vars + 2) c.args.lits.now (omega arith) c.requires.there

pub returns-in_ok-put-clause-finder : goal.returns-in_ok-put-clause-finder
returns-in_ok-put-clause-finder c = λ all taken h valid is.
    let lits = c.args.lits.now in
    let d : IsPadded c.args.self.now.vars lits c.deref.result.now = subst (λ (ls : List Literal). IsPadded c.args.self.now.vars lits ls)
    (sym c.deref.ensures.value) c.in_ok-all.ensures.padded in
    c.in_ok-put.ensures.finder all taken lits h (record { valid = valid; is = is; padded = d; there = c.requires.there; distinct = c.requires.distinct })

pub returns-in_ok-put-2-clause-finder : goal.returns-in_ok-put-2-clause-finder
returns-in_ok-put-2-clause-finder c = λ all taken h valid is.
    let lits = c.args.lits.now in
    let d : IsPadded c.args.self.now.vars lits lits = record { whole = λ k m. m; only = λ k m. inl m } in
    c.in_ok-put-2.ensures.finder all taken lits h (record { valid = valid; is = is; padded = d; there = c.requires.there; distinct = c.requires.distinct })
