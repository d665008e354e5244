use Rattle.std.proofs.Common.{◌≡◌, ℕ, List, true, refl, sym, ◌∙◌, ap, subst}
use Rattle.std.proofs.lemmas.Option.{none-some}
use Rattle.cnf_core.specs.Lit.{Literal, literal}
use Rattle.watch_arena.specs.Trail.{Marks, IsUnset}
use Rattle.cdcl_learn.specs.Sight.{sight}
use Rattle.cdcl_learn.proofs.LevelLemmas.{upto_parts}
use Rattle.cdcl_core.specs.Roots.{AreOffered}
use Rattle.cdcl_core.proofs.AskLemmas.{asking_all, decided_at}
use Rattle.cdcl_core.proofs.SolvingLemmas.{solving_decided, settled_all, fitted_vars}
use Rattle.cdcl_core.proofs.HeapLemmas.{offered_decided, unset_other}
use Rattle.cdcl_core.proofs.ConflictLemmas.{unrefuted}
use Rattle.cdcl_core.proofs.StoreLemmas.{store_itself}
use Rattle.cdcl_core.proofs.StepLemmas.{decided_longer}
use Rattle.cdcl_core.proofs.search.Search.choose.Goals as goal

pub returns-in-None-clause-search : goal.returns-in-None-clause-search
returns-in-None-clause-search c =
    let vars = c.pick.ensures.vars in
    let f = c.requires.search.fitted in
    record {
      fitted = record {
        room_limit = f.room_limit;
        heap_size = vars ∙ f.heap_size;
        analyser_size = f.analyser_size;
        phases_size = f.phases_size;
        arena_limit = f.arena_limit;
        sum = f.sum;
        within = f.within;
      };
      solving = c.requires.search.solving;
      offered = λ l there un. absurd (c.pick.ensures.none c.in-None.is l there un);
    }

pub returns-in-None-clause-stop : goal.returns-in-None-clause-stop
returns-in-None-clause-stop c = record {
  total = c.pick.ensures.none c.in-None.is;
  quiet = settled_all c.args.self.now.arena c.args.self.now.trail c.args.self.now.own.items
      (unrefuted c.args.self.now.arena c.args.self.now.trail c.args.self.now.own.items c.args.self.now.refuted c.requires.unrefuted
      c.requires.search.solving.grounded) c.requires.settled;
  assumed = λ l among. (upto_parts (sight c.args.self.now.arena c.args.self.now.trail) c.args.self.now.levels l
      (asking_all c.args.query.now (sight c.args.self.now.arena c.args.self.now.trail) c.args.self.now.levels c.args.self.now.assumed c.requires.all
      c.requires.asking l among)).0;
}

pub returns-in-Some-clause-search : goal.returns-in-Some-clause-search
returns-in-Some-clause-search c =
    let vars : c.decide.new.self.vars ≡ c.args.self.now.trail.vars = ap (λ (m : Marks). m.vars) c.decide.ensures.value in
    let heap = c.pick.ensures.vars in
    let f = fitted_vars c.decide.new.self.vars vars c.requires.search.fitted in
    let var : c.new-l.result.var ≡ c.in-Some.v.0 = ap (λ (k : Literal). k.var) c.new-l.ensures in
    record {
      fitted = record {
        room_limit = f.room_limit;
        heap_size = heap ∙ f.heap_size;
        analyser_size = f.analyser_size;
        phases_size = f.phases_size;
        arena_limit = f.arena_limit;
        sum = f.sum;
        within = f.within;
      };
      solving = solving_decided c.args.self.now.arena c.args.self.now.trail c.decide.new.self c.args.self.now.own.items c.args.self.now.refuted c.new-l.result
          c.decide.ensures.value c.decide.ensures.marks
          (c.decide.ensures.watched c.args.self.now.arena c.requires.search.solving.watched)
          (c.decide.ensures.reasoned c.args.self.now.arena c.requires.search.solving.grounded.reasoned) c.requires.settled c.requires.search.solving.grounded;
      offered = subst (AreOffered c.pick.new.heap) (sym c.decide.ensures.value) (offered_decided c.pick.new.heap c.args.self.now.trail c.new-l.result
          (λ k there un ne. c.in-Some.ensures.others k there un (λ e. ne (e ∙ sym var))));
    }

chosen_unset : (lits : List Literal) (l : Literal) (v : ℕ) → l.var ≡ v → IsUnset lits (literal v true) → IsUnset lits l
chosen_unset lits l v e un = unset_other lits (literal v true) l (sym e) un

pub decide-requires-clause-unset : goal.decide-requires-clause-unset
decide-requires-clause-unset c = chosen_unset c.args.self.now.trail.lits c.new-l.result c.in-Some.v.0 (ap (λ (k : Literal). k.var) c.new-l.ensures)
    c.in-Some.ensures.unset

pub returns-in-Some-clause-asking : goal.returns-in-Some-clause-asking
returns-in-Some-clause-asking c = decided_at c.args.self.now.arena c.args.self.now.trail c.decide.new.self c.new-l.result c.args.query.now
    c.args.self.now.levels c.args.self.now.assumed c.decide.ensures.value c.requires.search.solving.grounded.marks c.decide.ensures.marks
    (chosen_unset c.args.self.now.trail.lits c.new-l.result c.in-Some.v.0 (ap (λ (k : Literal). k.var) c.new-l.ensures) c.in-Some.ensures.unset) c.requires.all
    c.requires.asking

pub returns-in-Some-clause-store : goal.returns-in-Some-clause-store
returns-in-Some-clause-store c =
    let same = store_itself c.args.self.now in
    record {
      clauses = same.clauses;
      room = refl;
      words = refl;
      learnt = refl;
      refuted = refl;
      vars = ap (λ (m : Marks). m.vars) c.decide.ensures.value;
      visits = same.visits;
    }

pub returns-in-Some-clause-more : goal.returns-in-Some-clause-more
returns-in-Some-clause-more c = λ _. decided_longer c.args.self.now.trail c.decide.new.self c.new-l.result c.decide.ensures.value

pub returns-in-None-clause-store : goal.returns-in-None-clause-store
returns-in-None-clause-store c =
    let same = store_itself c.args.self.now in
    record { clauses = same.clauses; room = refl; words = refl; learnt = refl; refuted = refl; vars = refl; visits = same.visits }

pub returns-in-None-clause-more : goal.returns-in-None-clause-more
returns-in-None-clause-more c = λ e. absurd (none-some _ (sym e))
