use Rattle.std.proofs.Common.{◌≡◌, ◌+◌, ◌∷◌, ◌++◌, [], length, refl, ◌∙◌, ap, arith}
use Rattle.cnf_core.specs.Clause.{words_of}
use Rattle.watch_arena.specs.Trail.{Marks}
use Rattle.cdcl_core.proofs.SetLemmas.{same_owned, words_push}
use Rattle.cdcl_core.proofs.SolvingLemmas.{fitted_vars}
use Rattle.cdcl_core.proofs.KeepLemmas.{asserted_some, asserted_unset, asserted_first, asserted_alone, kept_single, set_offered, set_asking}
use Rattle.cdcl_core.proofs.search.Search.keep_single.Goals as goal

pub get-first-requires : goal.get-first-requires
get-first-requires c = asserted_some c.args.self.now.arena c.args.self.now.trail c.args.clause c.requires.asserted

pub set-requires-clause-there : goal.set-requires-clause-there
set-requires-clause-there c = asserted_first c.args.self.now.arena c.args.self.now.trail c.args.clause c.get-first.result c.requires.asserted
    c.get-first.ensures

pub set-requires-clause-unset : goal.set-requires-clause-unset
set-requires-clause-unset c = asserted_unset c.args.self.now.arena c.args.self.now.trail c.args.clause c.get-first.result c.requires.asserted
    c.get-first.ensures

pub returns-clause-search : goal.returns-clause-search
returns-clause-search c =
    let f = c.requires.search.fitted in
    let g = c.requires.search.solving.grounded in
    let vars : c.set.new.self.vars ≡ c.args.self.now.trail.vars = ap (λ (m : Marks). m.vars) c.set.ensures.value in
    let now : c.push.new.self.items ≡ c.args.self.now.own.items ++ c.args.clause ∷ [] = c.in_ok-push.ensures.items in
    let words : words_of c.push.new.self.items ≡ words_of c.args.self.now.own.items + length c.args.clause + 3 = ap words_of now
    ∙ words_push c.args.self.now.own.items c.args.clause in
    let root = asserted_alone c.args.self.now.arena c.args.self.now.trail c.args.clause c.requires.asserted c.requires.one in
    record {
      fitted = fitted_vars c.set.new.self.vars vars (record {
        room_limit = f.room_limit;
        heap_size = f.heap_size;
        analyser_size = f.analyser_size;
        phases_size = f.phases_size;
        arena_limit = f.arena_limit;
        sum = let s = f.sum in let one = c.requires.one in omega arith;
        within = let r = c.requires.room in let one = c.requires.one in omega arith;
      });
      solving = kept_single c.args.self.now.arena c.args.self.now.trail c.set.new.self c.args.self.now.own.items c.push.new.self.items c.args.self.now.refuted
          c.args.clause c.get-first.result c.requires.asserted c.requires.one c.get-first.ensures now c.set.ensures.value c.set.ensures.marks
          (c.set.ensures.watched c.args.self.now.arena c.requires.search.solving.watched) (c.set.ensures.reasoned c.args.self.now.arena root g.reasoned) g;
      offered = set_offered c.args.self.now.heap c.args.self.now.trail c.set.new.self c.get-first.result 0 c.set.ensures.value c.requires.search.offered;
    }

pub returns-clause-kept : goal.returns-clause-kept
returns-clause-kept c = record {
  clauses = same_owned c.args.self.now.arena c.args.self.now.own.items c.push.new.self.items c.args.clause c.in_ok-push.ensures.items;
  words = let one = c.requires.one in omega arith;
  room = refl;
  vars = ap (λ (m : Marks). m.vars) c.set.ensures.value;
  visits = refl;
}

pub returns-clause-asking : goal.returns-clause-asking
returns-clause-asking c = λ query h. set_asking c.args.self.now.arena c.args.self.now.arena c.args.self.now.trail c.set.new.self c.get-first.result 0 query
    c.args.self.now.levels c.args.self.now.assumed c.set.ensures.value c.requires.search.solving.grounded.marks c.set.ensures.marks
    (asserted_unset c.args.self.now.arena c.args.self.now.trail c.args.clause c.get-first.result c.requires.asserted c.get-first.ensures)
    (asserted_first c.args.self.now.arena c.args.self.now.trail c.args.clause c.get-first.result c.requires.asserted c.get-first.ensures)
    (λ z. asserted_alone c.args.self.now.arena c.args.self.now.trail c.args.clause c.requires.asserted c.requires.one) h

pub returns-clause-cuts : goal.returns-clause-cuts
returns-clause-cuts c = ap (λ (m : Marks). m.cuts) c.set.ensures.value
