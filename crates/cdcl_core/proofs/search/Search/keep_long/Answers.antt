use Rattle.std.proofs.Common.{◌≡◌, ◌≤◌, ℕ, List, length, refl, sym, ◌∙◌, ap, subst, arith}
use Rattle.cnf_core.specs.Lit.{Literal}
use Rattle.cnf_core.specs.Clause.{AreThere, AreDistinct}
use Rattle.watch_arena.specs.Trail.{Marks}
use Rattle.cdcl_core.proofs.SetLemmas.{same_attached}
use Rattle.cdcl_core.proofs.SolvingLemmas.{fitted_vars}
use Rattle.cdcl_core.proofs.LearnLemmas.{IsPut, put_from, put_text}
use Rattle.cdcl_core.proofs.KeepLemmas.{asserted_some, asserted_unset, asserted_there, asserted_first, asserted_distinct, asserted_two, asserted_reason}
use Rattle.cdcl_core.proofs.KeepLemmas.{kept_long, set_offered, set_asking}
use Rattle.cdcl_core.proofs.search.Search.keep_long.Goals as goal

not_zero : (p : ℕ) → 1 ≤ p → p ≡ 0 → ⊥
not_zero p some z = absurd (omega arith)

pub get-first-requires : goal.get-first-requires
get-first-requires c = asserted_some c.args.self.now.arena c.args.self.now.trail c.args.clause c.requires.asserted

pub attach-requires-clause-vars : goal.attach-requires-clause-vars
attach-requires-clause-vars c = c.requires.search.solving.grounded.vars

pub attach-requires-clause-two : goal.attach-requires-clause-two
attach-requires-clause-two c = subst (λ (ls : List Literal). 2 ≤ length ls) (sym c.as_slice.ensures.value)
    (asserted_two c.args.self.now.arena c.args.self.now.trail c.args.clause c.requires.asserted c.requires.more)

pub attach-requires-clause-there : goal.attach-requires-clause-there
attach-requires-clause-there c = subst (AreThere c.args.self.now.arena.vars) (sym c.as_slice.ensures.value)
    (subst (λ v. AreThere v c.args.clause) c.requires.search.solving.grounded.vars
    (asserted_there c.args.self.now.arena c.args.self.now.trail c.args.clause c.requires.asserted))

pub attach-requires-clause-distinct : goal.attach-requires-clause-distinct
attach-requires-clause-distinct c = subst AreDistinct (sym c.as_slice.ensures.value)
    (asserted_distinct c.args.self.now.arena c.args.self.now.trail c.args.clause c.requires.asserted)

pub set-requires-clause-there : goal.set-requires-clause-there
set-requires-clause-there c = asserted_first c.args.self.now.arena c.args.self.now.trail c.args.clause c.get-first.result c.requires.asserted
    c.get-first.ensures

pub set-requires-clause-unset : goal.set-requires-clause-unset
set-requires-clause-unset c = asserted_unset c.args.self.now.arena c.args.self.now.trail c.args.clause c.get-first.result c.requires.asserted
    c.get-first.ensures

pub returns-clause-search : goal.returns-clause-search
returns-clause-search c =
    let f = c.requires.search.fitted in
    let vars : c.set.new.self.vars ≡ c.args.self.now.trail.vars = ap (λ (m : Marks). m.vars) c.set.ensures.value in
    let size : length c.as_slice.result.now ≡ length c.args.clause = ap length c.as_slice.ensures.value in
    let put : IsPut c.args.self.now.arena c.attach.new.self c.args.self.now.trail c.in-Ok.place.0 c.args.clause = put_from c.args.self.now.arena
    c.attach.new.self c.args.self.now.trail c.in-Ok.place.0 c.args.clause c.as_slice.result.now c.as_slice.ensures.value c.in-Ok.ensures.places
    c.in-Ok.ensures.clause c.attach.ensures.others c.in-Ok.ensures.watched (c.attach.ensures.reasoned c.args.self.now.trail
    c.requires.search.solving.grounded.reasoned) c.attach.ensures.attached in
    record {
      fitted = fitted_vars c.set.new.self.vars vars (record {
        room_limit = f.room_limit;
        heap_size = f.heap_size;
        analyser_size = f.analyser_size;
        phases_size = f.phases_size;
        arena_limit = put.more.room ∙ f.arena_limit;
        sum = let s = f.sum in let w = c.in-Ok.ensures.words in omega arith;
        within = let r = c.requires.room in omega arith;
      });
      solving = kept_long c.args.self.now.arena c.attach.new.self c.args.self.now.trail c.set.new.self c.args.self.now.own.items c.args.self.now.refuted
          c.in-Ok.place.0 c.args.clause c.get-first.result c.requires.asserted c.requires.more c.get-first.ensures put c.set.ensures.value c.set.ensures.marks
          (c.set.ensures.reasoned c.attach.new.self (asserted_reason c.args.self.now.arena c.attach.new.self c.args.self.now.trail c.in-Ok.place.0 c.args.clause
          c.get-first.result c.requires.asserted c.get-first.ensures put) put.reasoned) c.requires.search.solving;
      offered = set_offered c.args.self.now.heap c.args.self.now.trail c.set.new.self c.get-first.result c.in-Ok.place.0 c.set.ensures.value
          c.requires.search.offered;
    }

pub returns-clause-kept : goal.returns-clause-kept
returns-clause-kept c = record {
  clauses = same_attached c.args.self.now.arena c.attach.new.self c.args.self.now.own.items c.args.clause
      (put_text c.args.self.now.arena c.attach.new.self c.args.self.now.trail c.in-Ok.place.0 c.args.clause
      (put_from c.args.self.now.arena c.attach.new.self c.args.self.now.trail c.in-Ok.place.0 c.args.clause c.as_slice.result.now c.as_slice.ensures.value
      c.in-Ok.ensures.places c.in-Ok.ensures.clause c.attach.ensures.others c.in-Ok.ensures.watched
      (c.attach.ensures.reasoned c.args.self.now.trail c.requires.search.solving.grounded.reasoned) c.attach.ensures.attached));
  words = omega arith;
  room = refl;
  vars = ap (λ (m : Marks). m.vars) c.set.ensures.value;
  visits = c.attach.ensures.others.visits;
}

pub returns-clause-asking : goal.returns-clause-asking
returns-clause-asking c = λ query h. set_asking c.args.self.now.arena c.attach.new.self c.args.self.now.trail c.set.new.self c.get-first.result c.in-Ok.place.0
    query c.args.self.now.levels c.args.self.now.assumed c.set.ensures.value c.requires.search.solving.grounded.marks c.set.ensures.marks
    (asserted_unset c.args.self.now.arena c.args.self.now.trail c.args.clause c.get-first.result c.requires.asserted c.get-first.ensures)
    (asserted_first c.args.self.now.arena c.args.self.now.trail c.args.clause c.get-first.result c.requires.asserted c.get-first.ensures)
    (λ z. absurd (not_zero c.in-Ok.place.0 (asserted_reason c.args.self.now.arena c.attach.new.self c.args.self.now.trail c.in-Ok.place.0 c.args.clause
    c.get-first.result c.requires.asserted c.get-first.ensures (put_from c.args.self.now.arena c.attach.new.self c.args.self.now.trail c.in-Ok.place.0
    c.args.clause c.as_slice.result.now c.as_slice.ensures.value c.in-Ok.ensures.places c.in-Ok.ensures.clause c.attach.ensures.others c.in-Ok.ensures.watched
    (c.attach.ensures.reasoned c.args.self.now.trail c.requires.search.solving.grounded.reasoned) c.attach.ensures.attached)).from z)) h

pub returns-clause-cuts : goal.returns-clause-cuts
returns-clause-cuts c = ap (λ (m : Marks). m.cuts) c.set.ensures.value
