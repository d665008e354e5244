use Rattle.std.proofs.Common.{◌+◌, length, sym, ◌∙◌, ap, arith}
use Rattle.watch_arena.specs.Trail.{undone}
use Rattle.watch_arena.specs.Arena.{Attached}
use Rattle.cdcl_core.specs.Search.{clauses}
use Rattle.cdcl_core.proofs.SetLemmas.{same_after}
use Rattle.cdcl_core.proofs.ConflictLemmas.{learnt_asserted, learnt_back}
use Rattle.cdcl_core.proofs.search.Search.take_learnt.Goals as goal

pub bump-requires : goal.bump-requires
bump-requires c = let f = c.requires.search.fitted in f.analyser_size ∙ sym f.heap_size

pub back_to-requires-clause-search : goal.back_to-requires-clause-search
back_to-requires-clause-search c =
    let f = c.requires.search.fitted in
    record {
      fitted = record {
        room_limit = f.room_limit;
        heap_size = c.bump.ensures.vars ∙ f.heap_size;
        analyser_size = f.analyser_size;
        phases_size = f.phases_size;
        arena_limit = f.arena_limit;
        sum = f.sum;
        within = f.within;
      };
      solving = c.requires.search.solving;
      offered = λ l there un. c.bump.ensures.held l.var (c.requires.search.offered l there un);
    }

pub back_to-requires-clause-level : goal.back_to-requires-clause-level
back_to-requires-clause-level c =
    let e = c.back-back.ensures in
    let lt = learnt_back c.args.self.now c.args.clause c.args.self.now.analyser.back c.requires.learnt.learnt in
    omega arith

pub keep_asserting-requires-clause-room : goal.keep_asserting-requires-clause-room
keep_asserting-requires-clause-room c =
    let s = c.back_to.ensures.store in
    let w = s.words in
    let r = s.room in
    let f = c.requires.learnt.fits in
    omega arith

pub keep_asserting-requires-clause-asserted : goal.keep_asserting-requires-clause-asserted
keep_asserting-requires-clause-asserted c = learnt_asserted c.args.self.now c.back_to.new.self.arena c.back_to.new.self.trail c.args.clause
    c.args.self.now.analyser.back c.requires.search c.requires.learnt.learnt c.back_to.ensures.arena
    (c.back_to.ensures.trail ∙ ap (undone c.args.self.now.trail) c.back-back.ensures) c.back_to.ensures.search.solving.grounded.marks

pub returns-clause-kept : goal.returns-clause-kept
returns-clause-kept c =
    let s = c.back_to.ensures.store in
    let k = c.in_ok-keep_asserting.ensures.kept in
    record {
      clauses = same_after (clauses c.args.self.now) (clauses c.back_to.new.self) (clauses c.keep_asserting.new.self) c.args.clause s.clauses k.clauses;
      words = k.words ∙ ap (λ n. n + length c.args.clause + 3) s.words;
      room = k.room ∙ s.room;
      vars = k.vars ∙ s.vars;
      visits = k.visits ∙ ap (λ (a : Attached). a.visits) c.back_to.ensures.arena;
    }

pub returns-clause-asking : goal.returns-clause-asking
returns-clause-asking c = λ query h. c.in_ok-keep_asserting.ensures.asking query (c.back_to.ensures.asking query h)

pub returns-clause-refuted : goal.returns-clause-refuted
returns-clause-refuted c = c.in_ok-keep_asserting.ensures.refuted ∙ c.back_to.ensures.store.refuted ∙ c.requires.unrefuted
