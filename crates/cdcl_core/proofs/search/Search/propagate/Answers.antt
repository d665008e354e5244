use Rattle.std.proofs.Common.{◌+◌, sym, ◌∙◌, ap, refl, arith}
use Rattle.cdcl_core.proofs.SetLemmas.{same_kept, quiet_among, quiet_closure, same_text}
use Rattle.cdcl_core.proofs.AskLemmas.{asking_longer}
use Rattle.cdcl_core.proofs.SolvingLemmas.{solving_propagated}
use Rattle.cdcl_core.proofs.HeapLemmas.{heap_longer}
use Rattle.watch_arena.specs.Arena.{attached_clauses}
use Rattle.cnf_core.specs.Lit.{has}
use Rattle.cdcl_core.proofs.search.Search.propagate.Goals as goal

pub returns-clause-search : goal.returns-clause-search
returns-clause-search c =
    let f = c.requires.fitted in
    let longer = c.propagate.ensures.longer in
    let text = c.propagate.ensures.text in
    record {
      fitted = record {
        room_limit = f.room_limit;
        heap_size = f.heap_size ∙ sym longer.vars;
        analyser_size = f.analyser_size ∙ sym longer.vars;
        phases_size = f.phases_size ∙ ap (λ n. n + 1) (sym longer.vars);
        arena_limit = text.room ∙ f.arena_limit;
        sum = let size = text.words in let sum = f.sum in omega arith;
        within = f.within;
      };
      solving = solving_propagated _ _ _ _ _ _ c.propagate.ensures.marks c.propagate.ensures.watched
          (c.propagate.ensures.reasoned c.requires.solving.grounded.reasoned) text longer c.propagate.ensures.grows c.requires.solving.grounded;
      offered = heap_longer c.args.self.now.heap c.args.self.now.trail c.propagate.new.trail longer c.requires.offered;
    }

pub returns-clause-store : goal.returns-clause-store
returns-clause-store c = record {
  clauses = same_kept _ _ _ c.propagate.ensures.text;
  room = refl;
  words = refl;
  learnt = refl;
  refuted = refl;
  vars = c.propagate.ensures.longer.vars;
  visits = c.propagate.ensures.visits;
}

pub returns-clause-asking : goal.returns-clause-asking
returns-clause-asking c = λ query h. asking_longer c.args.self.now.arena c.propagate.new.self c.args.self.now.trail c.propagate.new.trail query
    c.args.self.now.levels c.args.self.now.assumed c.requires.solving.grounded.marks c.propagate.ensures.marks c.propagate.ensures.longer
    c.propagate.ensures.reasons (c.propagate.ensures.reasoned c.requires.solving.grounded.reasoned) h

pub returns-clause-settled : goal.returns-clause-settled
returns-clause-settled c = λ none. record {
  all_done = c.propagate.ensures.all none;
  quiet = quiet_among (attached_clauses c.args.self.now.arena) (attached_clauses c.propagate.new.self) (has c.propagate.new.trail.lits)
      (same_text c.args.self.now.arena c.propagate.new.self c.propagate.ensures.text).back
      (quiet_closure (attached_clauses c.args.self.now.arena) (has c.args.self.now.trail.lits) (has c.propagate.new.trail.lits)
      (c.propagate.ensures.closes none));
}
