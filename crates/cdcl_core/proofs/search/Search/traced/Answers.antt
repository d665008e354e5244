use Rattle.std.proofs.Common.{refl, sym, ◌∙◌, subst}
use Rattle.cdcl_core.specs.Search.{IsRefuting, clauses}
use Rattle.cdcl_core.proofs.RefuteLemmas.{traced_refuting, traced_distinct, traced_there, implied_there}
use Rattle.cdcl_learn.specs.Sight.{sight}
use Rattle.cdcl_core.proofs.search.Search.traced.Goals as goal

pub trace_back-requires-clause-arena : goal.trace_back-requires-clause-arena
trace_back-requires-clause-arena c = sym c.requires.search.solving.grounded.vars

pub trace_back-requires-clause-there : goal.trace_back-requires-clause-there
trace_back-requires-clause-there c = implied_there c.args.self.now.arena c.args.self.now.trail c.args.l c.requires.search.solving.grounded.marks
    c.requires.denied.implied

pub from_vec-requires : goal.from_vec-requires
from_vec-requires c = traced_distinct (sight c.args.self.now.arena c.args.self.now.trail) c.args.l c.trace_back.new.self.clause c.in_ok-copied.field-0.items
    c.in_ok-copied.ensures c.trace_back.ensures.traced

pub returns-clause-search : goal.returns-clause-search
returns-clause-search c =
    let f = c.requires.search.fitted in
    record {
      fitted = record {
        room_limit = f.room_limit;
        heap_size = f.heap_size;
        analyser_size = c.trace_back.ensures.vars
            ∙ f.analyser_size;
        phases_size = f.phases_size;
        arena_limit = f.arena_limit;
        sum = f.sum;
        within = f.within;
      };
      solving = c.requires.search.solving;
      offered = c.requires.search.offered;
    }

pub returns-clause-same : goal.returns-clause-same
returns-clause-same c = record { arena = refl; trail = refl; own = refl; numbers = (refl, refl, refl); flags = (refl, refl, refl) }

pub returns-clause-refuting : goal.returns-clause-refuting
returns-clause-refuting c = subst (IsRefuting (clauses c.args.self.now) c.args.query.now) (sym (c.from_vec.ensures ∙ c.in_ok-copied.ensures))
    (traced_refuting c.args.self.now.arena c.args.self.now.trail c.args.self.now.own.items c.args.self.now.refuted c.args.query.now c.trace_back.new.self.clause
    c.args.self.now.levels c.args.self.now.assumed c.args.l c.requires.search.solving.grounded c.requires.asking c.requires.denied.low c.requires.denied.among
    c.trace_back.ensures.traced)

pub returns-clause-there : goal.returns-clause-there
returns-clause-there c = traced_there c.args.self.now.arena c.args.self.now.trail c.args.l c.trace_back.new.self.clause c.from_vec.result
    (c.from_vec.ensures ∙ c.in_ok-copied.ensures) c.requires.search.solving.grounded.marks c.requires.denied.implied.falsified c.trace_back.ensures.traced

pub returns-clause-distinct : goal.returns-clause-distinct
returns-clause-distinct c = traced_distinct (sight c.args.self.now.arena c.args.self.now.trail) c.args.l c.trace_back.new.self.clause c.from_vec.result
    (c.from_vec.ensures ∙ c.in_ok-copied.ensures) c.trace_back.ensures.traced

pub returns-clause-needed : goal.returns-clause-needed
returns-clause-needed c = traced_refuting c.args.self.now.arena c.args.self.now.trail c.args.self.now.own.items c.args.self.now.refuted c.args.query.now
    c.trace_back.new.self.clause c.args.self.now.levels c.args.self.now.assumed c.args.l c.requires.search.solving.grounded c.requires.asking
    c.requires.denied.low c.requires.denied.among c.trace_back.ensures.traced
