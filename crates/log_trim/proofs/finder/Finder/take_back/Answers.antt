use Rattle.log_trim.proofs.finder.Finder.take_back.Goals as goal

pub returns-clause-finder : goal.returns-clause-finder
returns-clause-finder c = λ all taken lits h.
    let old = c.args.self.now in
    record { clauses = h.clauses; idle = c.leave.ensures old.arena old.vars lits h.denying; size = h.size; unneeded = h.unneeded }
