use Rattle.std.proofs.Common.{◌≡◌, length, drop, refl, sym, ◌∙◌, ap, subst}
use Rattle.std.proofs.lemmas.List.{take_at}
use Rattle.watch_arena.specs.Trail.{Marks}
use Rattle.cdcl_core.specs.Roots.{AreOffered}
use Rattle.cdcl_core.proofs.AskLemmas.{undone_at, again_at}
use Rattle.cdcl_core.proofs.SolvingLemmas.{solving_undone, fitted_vars}
use Rattle.cdcl_core.proofs.StoreLemmas.{store_itself}
use Rattle.cdcl_core.proofs.search.Search.back_to.Goals as goal

pub returns-then-level-self-clause-search : goal.returns-then-level-self-clause-search
returns-then-level-self-clause-search c =
    let vars : c.undo_to.new.self.vars ≡ c.args.self.now.trail.vars = ap (λ (m : Marks). m.vars) c.undo_to.ensures.value in
    let f = fitted_vars c.undo_to.new.self.vars vars c.requires.search.fitted in
    let len : length c.release.new.phases ≡ c.args.self.now.phases.len = c.release.auto.phases ∙ c.deref_mut.ensures.len in
    let items : length c.release.new.phases ≡ length c.args.self.now.phases.items = c.release.auto.phases ∙ ap length c.deref_mut.ensures.value in
    record {
      fitted = record {
        room_limit = f.room_limit;
        heap_size = c.release.ensures.vars ∙ f.heap_size;
        analyser_size = f.analyser_size;
        phases_size = ap length
            (take_at c.release.new.phases (drop (length c.release.new.phases) c.args.self.now.phases.items) c.args.self.now.phases.len len) ∙ items
            ∙ f.phases_size;
        arena_limit = f.arena_limit;
        sum = f.sum;
        within = f.within;
      };
      solving = solving_undone c.args.self.now.arena c.args.self.now.trail c.undo_to.new.self c.args.self.now.own.items c.args.self.now.refuted c.args.level
          c.undo_to.ensures.value c.undo_to.ensures.marks
          (c.undo_to.ensures.watched c.args.self.now.arena c.requires.search.solving.watched)
          (c.undo_to.ensures.reasoned c.args.self.now.arena c.requires.search.solving.grounded.reasoned) c.requires.level c.requires.search.solving.grounded;
      offered = subst (AreOffered c.release.new.heap) (sym c.undo_to.ensures.value) c.release.ensures.offered;
    }

pub returns-else-level-self-clause-search : goal.returns-else-level-self-clause-search
returns-else-level-self-clause-search c =
    let vars : c.undo_to.new.self.vars ≡ c.args.self.now.trail.vars = ap (λ (m : Marks). m.vars) c.undo_to.ensures.value in
    let f = fitted_vars c.undo_to.new.self.vars vars c.requires.search.fitted in
    let len : length c.release.new.phases ≡ c.args.self.now.phases.len = c.release.auto.phases ∙ c.deref_mut.ensures.len in
    let items : length c.release.new.phases ≡ length c.args.self.now.phases.items = c.release.auto.phases ∙ ap length c.deref_mut.ensures.value in
    record {
      fitted = record {
        room_limit = f.room_limit;
        heap_size = c.release.ensures.vars ∙ f.heap_size;
        analyser_size = f.analyser_size;
        phases_size = ap length
            (take_at c.release.new.phases (drop (length c.release.new.phases) c.args.self.now.phases.items) c.args.self.now.phases.len len) ∙ items
            ∙ f.phases_size;
        arena_limit = f.arena_limit;
        sum = f.sum;
        within = f.within;
      };
      solving = solving_undone c.args.self.now.arena c.args.self.now.trail c.undo_to.new.self c.args.self.now.own.items c.args.self.now.refuted c.args.level
          c.undo_to.ensures.value c.undo_to.ensures.marks
          (c.undo_to.ensures.watched c.args.self.now.arena c.requires.search.solving.watched)
          (c.undo_to.ensures.reasoned c.args.self.now.arena c.requires.search.solving.grounded.reasoned) c.requires.level c.requires.search.solving.grounded;
      offered = subst (AreOffered c.release.new.heap) (sym c.undo_to.ensures.value) c.release.ensures.offered;
    }

pub returns-then-level-self-clause-asking : goal.returns-then-level-self-clause-asking
returns-then-level-self-clause-asking c = λ query h. again_at c.args.self.now.arena c.args.self.now.trail c.undo_to.new.self query c.args.self.now.levels
    c.args.self.now.assumed c.args.level c.undo_to.ensures.value c.requires.search.solving.grounded.marks c.undo_to.ensures.marks c.if-level-self.true h

pub returns-else-level-self-clause-asking : goal.returns-else-level-self-clause-asking
returns-else-level-self-clause-asking c = λ query h. undone_at c.args.self.now.arena c.args.self.now.trail c.undo_to.new.self query c.args.self.now.levels
    c.args.self.now.assumed c.args.level c.undo_to.ensures.value c.requires.search.solving.grounded.marks c.undo_to.ensures.marks c.requires.level
    c.if-level-self.false h

pub returns-then-level-self-clause-store : goal.returns-then-level-self-clause-store
returns-then-level-self-clause-store c =
    let same = store_itself c.args.self.now in
    record {
      clauses = same.clauses;
      room = refl;
      words = refl;
      learnt = refl;
      refuted = refl;
      vars = ap (λ (m : Marks). m.vars) c.undo_to.ensures.value;
      visits = same.visits;
    }

pub returns-else-level-self-clause-store : goal.returns-else-level-self-clause-store
returns-else-level-self-clause-store c =
    let same = store_itself c.args.self.now in
    record {
      clauses = same.clauses;
      room = refl;
      words = refl;
      learnt = refl;
      refuted = refl;
      vars = ap (λ (m : Marks). m.vars) c.undo_to.ensures.value;
      visits = same.visits;
    }
