use Rattle.std.proofs.Common.{max}
use Rattle.refute_check.specs.Standing.{IsContradicted, IsOpenChecker}
use Rattle.refute_check.proofs.KeepLemmas.{contradicted_more, kept_both, greatest_kept}
use Rattle.refute_check.proofs.keeping.keep.Goals as goal

pub returns-in_ok-add_clause-in-Contradiction-clause-checker : goal.returns-in_ok-add_clause-in-Contradiction-clause-checker
returns-in_ok-add_clause-in-Contradiction-clause-checker c =
    let vars = max c.args.formula.now.vars c.args.vars in
    contradicted_more c.args.formula.now c.add_clause.new.formula c.args.lits.now vars (rw c.in-Contradiction.is at c.requires.checker)
    (kept_both c.args.formula.now c.make_vars.new.formula c.add_clause.new.formula c.args.lits.now vars c.in_ok-make_vars-in-Contradiction.ensures
    c.in_ok-add_clause-in-Contradiction.ensures) (greatest_kept c.args.formula.now.clauses c.args.lits.now c.args.formula.now.vars c.args.vars
    (let h : IsContradicted c.args.formula.now = rw c.in-Contradiction.is at c.requires.checker in h.greatest) c.requires.named)

pub add_open-requires-clause-greatest : goal.add_open-requires-clause-greatest
add_open-requires-clause-greatest c =
    let h : IsOpenChecker c.args.formula.now c.args.tables.now = rw c.in-Open.is at c.requires.checker in
    let le = greatest_kept c.args.formula.now.clauses c.args.lits.now c.args.formula.now.vars c.args.vars h.greatest c.requires.named in
    rw c.in_ok-grow-in-Open.ensures.made le
