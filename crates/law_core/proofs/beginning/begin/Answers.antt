use Rattle.law_core.proofs.BeginLemmas.{blank_working, blank_vars, blank_fits, blank_taken}
use Rattle.law_core.proofs.beginning.begin.Goals as goal

pub add_clauses-requires-clause-working : goal.add_clauses-requires-clause-working
add_clauses-requires-clause-working g c = blank_working c.args.solver.now c.args.formula.now.room c.requires.new

pub add_clauses-requires-clause-more : goal.add_clauses-requires-clause-more
add_clauses-requires-clause-more g c = blank_vars c.args.solver.now c.args.formula.now.room c.args.formula.now.vars c.requires.new

pub add_clauses-requires-clause-fits : goal.add_clauses-requires-clause-fits
add_clauses-requires-clause-fits g c = blank_fits c.args.solver.now c.args.formula.now.room c.args.formula.now.clauses c.requires.new c.requires.fits

pub returns-in-Ok-clause-taken : goal.returns-in-Ok-clause-taken
returns-in-Ok-clause-taken g c = blank_taken c.args.solver.now c.add_clauses.new.solver c.args.formula.now.room c.args.formula.now.vars
    c.args.formula.now.clauses c.requires.new c.in-Ok.ensures.taken
