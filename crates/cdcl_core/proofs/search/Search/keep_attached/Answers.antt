use Rattle.std.proofs.Common.{◌≡◌, ◌≢◌, ◌≤◌, ◌∷◌, [], List, length, refl, sym, ◌∙◌, ap, subst, arith}
use Rattle.cnf_core.specs.Lit.{Literal}
use Rattle.cnf_core.specs.Clause.{AreThere, AreDistinct}
use Rattle.watch_arena.specs.Trail.{Marks}
use Rattle.cdcl_core.specs.Search.{IsSilent}
use Rattle.cdcl_core.proofs.SetLemmas.{same_attached}
use Rattle.cdcl_core.proofs.LearnLemmas.{IsPut, put_from, put_text}
use Rattle.cdcl_core.proofs.GivenLemmas.{solving_silent}
use Rattle.cdcl_core.proofs.search.Search.keep_attached.Goals as goal

two : (m : Marks) (c : List Literal) → IsSilent m c → length c ≢ 1 → 2 ≤ length c
two m [] h ne = absurd h
two m (k ∷ ls) h ne = omega arith

pub attach-requires-clause-vars : goal.attach-requires-clause-vars
attach-requires-clause-vars c = c.requires.idle.search.solving.grounded.vars

pub attach-requires-clause-two : goal.attach-requires-clause-two
attach-requires-clause-two c = subst (λ (ls : List Literal). 2 ≤ length ls) (sym c.as_slice.ensures.value)
    (two c.args.self.now.trail c.args.clause c.requires.silent c.requires.more)

pub attach-requires-clause-there : goal.attach-requires-clause-there
attach-requires-clause-there c = subst (AreThere c.args.self.now.arena.vars) (sym c.as_slice.ensures.value)
    (subst (λ v. AreThere v c.args.clause) c.requires.idle.search.solving.grounded.vars c.requires.there)

pub attach-requires-clause-distinct : goal.attach-requires-clause-distinct
attach-requires-clause-distinct c = subst AreDistinct (sym c.as_slice.ensures.value) c.requires.distinct

pub returns-clause-idle : goal.returns-clause-idle
returns-clause-idle c =
    let s = c.requires.idle.search in
    let f = s.fitted in
    let size : length c.as_slice.result.now ≡ length c.args.clause = ap length c.as_slice.ensures.value in
    let put : IsPut c.args.self.now.arena c.attach.new.self c.args.self.now.trail c.in-Ok.place.0 c.args.clause = put_from c.args.self.now.arena
    c.attach.new.self c.args.self.now.trail c.in-Ok.place.0 c.args.clause c.as_slice.result.now c.as_slice.ensures.value c.in-Ok.ensures.places
    c.in-Ok.ensures.clause c.attach.ensures.others c.in-Ok.ensures.watched (c.attach.ensures.reasoned c.args.self.now.trail s.solving.grounded.reasoned)
    c.attach.ensures.attached in
    record {
      search = record {
        fitted = record {
          room_limit = f.room_limit;
          heap_size = f.heap_size;
          analyser_size = f.analyser_size;
          phases_size = f.phases_size;
          arena_limit = put.more.room
              ∙ f.arena_limit;
          sum = let e = f.sum in let w = c.in-Ok.ensures.words in omega arith;
          within = let r = c.requires.room in omega arith;
        };
        solving = solving_silent c.args.self.now.arena c.attach.new.self c.args.self.now.trail c.args.self.now.own.items c.args.self.now.refuted c.in-Ok.place.0
            c.args.clause c.requires.idle.level c.requires.more put c.requires.silent c.requires.there s.solving;
        offered = s.offered;
      };
      level = c.requires.idle.level;
    }

pub returns-clause-kept : goal.returns-clause-kept
returns-clause-kept c = record {
  clauses = same_attached c.args.self.now.arena c.attach.new.self c.args.self.now.own.items c.args.clause
      (put_text c.args.self.now.arena c.attach.new.self c.args.self.now.trail c.in-Ok.place.0 c.args.clause
      (put_from c.args.self.now.arena c.attach.new.self c.args.self.now.trail c.in-Ok.place.0 c.args.clause c.as_slice.result.now c.as_slice.ensures.value
      c.in-Ok.ensures.places c.in-Ok.ensures.clause c.attach.ensures.others c.in-Ok.ensures.watched
      (c.attach.ensures.reasoned c.args.self.now.trail c.requires.idle.search.solving.grounded.reasoned) c.attach.ensures.attached));
  words = omega arith;
  room = refl;
  vars = refl;
  visits = c.attach.ensures.others.visits;
}
