use Rattle.std.proofs.Common.{rules, ◌≡◌, ◌∙◌, false, length, sym, ap}
use Rattle.std.specs.Prelude.{replicate}
use Rattle.cnf_core.specs.Clause.{words_of}
use Rattle.cdcl_core.proofs.StartLemmas.{fitted_start, solving_start, offered_start}
use Rattle.cdcl_core.proofs.search.Search.new.Goals as goal

pub returns-clause-idle : goal.returns-clause-idle
returns-clause-idle c =
    let phases : c.in_ok-vec.field-0.items ≡ replicate 1 false = search rules in
    let trail = c.in_ok-with_vars.ensures in
    let arena = c.in_ok-new.ensures in
    record {
      search = record {
        fitted = fitted_start c.args.room c.in_ok-with_vars.field-0.vars c.in_ok-with_vars-2.field-0.vars c.in_ok-with_vars-3.field-0.vars
            (length c.in_ok-vec.field-0.items) c.in_ok-new.field-0.room (length c.in_ok-new.field-0.words) (words_of c.new-2.result.items) c.requires trail.vars
            c.in_ok-with_vars-2.ensures.vars c.in_ok-with_vars-3.ensures.vars (ap length phases) arena.room arena.words (ap words_of c.new-2.ensures.items);
        solving = solving_start c.in_ok-new.field-0 c.in_ok-with_vars.field-0 c.new-2.result.items c.new-2.ensures.items arena.places
            (trail.vars ∙ sym arena.vars) trail.lits trail.cuts trail.marks (trail.reasoned c.in_ok-new.field-0) (arena.watched c.in_ok-with_vars.field-0);
        offered = offered_start c.in_ok-with_vars-2.field-0 c.in_ok-with_vars.field-0 trail.vars;
      };
      level = trail.cuts;
    }
