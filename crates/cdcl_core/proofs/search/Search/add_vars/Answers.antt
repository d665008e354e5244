use Rattle.std.proofs.Common.{◌≡◌, ◌+◌, false, length, ◌∙◌, ap, arith, length-append}
use Rattle.std.proofs.lemmas.List.{length-replicate}
use Rattle.std.specs.Prelude.{replicate}
use Rattle.watch_arena.specs.Trail.{Marks}
use Rattle.watch_arena.specs.Arena.{Attached}
use Rattle.pick_heap.specs.Heap.{Ranked}
use Rattle.cdcl_core.proofs.WideLemmas.{solving_wide, offered_wide}
use Rattle.cdcl_core.proofs.StepLemmas.{not_err}
use Rattle.cdcl_core.proofs.search.Search.add_vars.Goals as goal

pub returns-clause-idle : goal.returns-clause-idle
returns-clause-idle c =
    let s = c.requires.search in
    let f = s.fitted in
    let trail = c.in_ok-add_vars-4.ensures.more in
    let arena = c.in_ok-add_vars.ensures.more in
    let heap = c.in_ok-add_vars-2.ensures.more in
    let vars : c.add_vars-4.new.self.vars ≡ c.args.self.now.trail.vars + c.args.n = ap (λ (m : Marks). m.vars) trail in
    let width : c.add_vars-2.new.self.vars ≡ c.args.self.now.heap.vars + c.args.n = ap (λ (h : Ranked). h.vars) heap in
    let room : c.add_vars.new.self.room ≡ c.args.self.now.arena.room = ap (λ (a : Attached). a.room) arena in
    let words : length c.add_vars.new.self.words ≡ length c.args.self.now.arena.words = ap (λ (a : Attached). length a.words) arena in
    let phases : length c.lengthen.new.table.items ≡ length c.args.self.now.phases.items + c.args.n = ap length c.in_ok-lengthen.ensures.more
    ∙ length-append c.args.self.now.phases.items (replicate c.args.n false) ∙ ap (λ k. length c.args.self.now.phases.items + k)
    (length-replicate c.args.n false) in
    let analyser = c.in_ok-add_vars-3.ensures.vars in
    record {
      search = record {
        fitted = record {
          room_limit = f.room_limit;
          heap_size = let h = f.heap_size in omega arith;
          analyser_size = let h = f.analyser_size in omega arith;
          phases_size = let h = f.phases_size in omega arith;
          arena_limit = room ∙ f.arena_limit;
          sum = let h = f.sum in omega arith;
          within = f.within;
        };
        solving = solving_wide c.args.self.now.arena c.add_vars.new.self c.args.self.now.trail c.add_vars-4.new.self c.args.self.now.own.items
            c.args.self.now.refuted c.args.n arena trail c.requires.level c.add_vars-4.ensures.marks
            (c.add_vars-4.ensures.watched c.add_vars.new.self (c.add_vars.ensures.watched c.args.self.now.trail s.solving.watched))
            (c.add_vars-4.ensures.reasoned c.add_vars.new.self (c.add_vars.ensures.reasoned c.args.self.now.trail s.solving.grounded.reasoned))
            s.solving.grounded;
        offered = offered_wide c.args.self.now.heap c.add_vars-2.new.self c.args.self.now.trail c.add_vars-4.new.self c.args.n heap trail f.heap_size
            c.in_ok-add_vars-2.ensures.held s.offered;
      };
      level = ap (λ (m : Marks). m.cuts) trail ∙ c.requires.level;
    }

pub returns-clause-cause : goal.returns-clause-cause
returns-clause-cause c = λ e. absurd (not_err _ _ e)
