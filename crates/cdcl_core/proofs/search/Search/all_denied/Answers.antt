use Rattle.std.proofs.Common.{refl, sym, ◌∙◌, subst}
use Rattle.cnf_core.specs.Clause.{AreThere, AreDistinct}
use Rattle.cdcl_core.specs.Search.{IsRefuting, clauses}
use Rattle.cdcl_core.proofs.RefuteLemmas.{clash_refuting, denied_refuting_upto, denied_upto_there}
use Rattle.cdcl_core.proofs.search.Search.all_denied.Goals as goal

pub trace_clash-requires-clause-arena : goal.trace_clash-requires-clause-arena
trace_clash-requires-clause-arena c = sym c.requires.search.solving.grounded.vars

pub from_vec-requires : goal.from_vec-requires
from_vec-requires c = c.in_ok-denied.ensures.distinct

pub returns-clause-refuting : goal.returns-clause-refuting
returns-clause-refuting c = subst (IsRefuting (clauses c.args.self.now) c.args.query.now) (sym c.from_vec.ensures)
    (denied_refuting_upto c.args.self.now.arena c.args.self.now.trail c.args.self.now.own.items c.args.self.now.refuted c.args.query.now
    c.in_ok-denied.field-0.items c.args.self.now.levels c.args.self.now.assumed c.args.clash.0 c.requires.search.solving.grounded c.requires.asking
    c.requires.low c.requires.clash c.in_ok-denied.ensures)

pub returns-clause-there : goal.returns-clause-there
returns-clause-there c = subst (AreThere c.args.self.now.trail.vars) (sym c.from_vec.ensures)
    (denied_upto_there c.args.self.now.arena c.args.self.now.trail c.in_ok-denied.field-0.items c.requires.search.solving.grounded.marks c.in_ok-denied.ensures)

pub returns-clause-distinct : goal.returns-clause-distinct
returns-clause-distinct c = subst AreDistinct (sym c.from_vec.ensures) c.in_ok-denied.ensures.distinct

pub returns-clause-search : goal.returns-clause-search
returns-clause-search c =
    let f = c.requires.search.fitted in
    record {
      fitted = record {
        room_limit = f.room_limit;
        heap_size = f.heap_size;
        analyser_size = c.trace_clash.ensures.vars
            ∙ f.analyser_size;
        phases_size = f.phases_size;
        arena_limit = f.arena_limit;
        sum = f.sum;
        within = f.within;
      };
      solving = c.requires.search.solving;
      offered = c.requires.search.offered;
    }

pub returns-clause-same : goal.returns-clause-same
returns-clause-same c = record { arena = refl; trail = refl; own = refl; numbers = (refl, refl, refl); flags = (refl, refl, refl) }

pub returns-clause-needed : goal.returns-clause-needed
returns-clause-needed c = clash_refuting c.args.self.now.arena c.args.self.now.trail c.args.self.now.own.items c.args.self.now.refuted c.args.query.now
    c.trace_clash.new.self.clause c.args.self.now.levels c.args.self.now.assumed c.requires.search.solving.grounded c.requires.asking c.requires.low
    c.trace_clash.ensures.traced
