use Rattle.std.proofs.Common.{◌≡◌, ◌+◌, ◌∷◌, ◌++◌, [], ◌∙◌, length, refl, ap, arith}
use Rattle.cnf_core.specs.Clause.{words_of}
use Rattle.cdcl_core.proofs.SetLemmas.{same_owned, words_push}
use Rattle.cdcl_core.proofs.GivenLemmas.{solving_refuting}
use Rattle.cdcl_core.proofs.search.Search.keep_refuting.Goals as goal

pub returns-clause-idle : goal.returns-clause-idle
returns-clause-idle c =
    let s = c.requires.idle.search in
    let f = s.fitted in
    let now : c.push.new.self.items ≡ c.args.self.now.own.items ++ c.args.clause ∷ [] = c.in_ok-push.ensures.items in
    let words : words_of c.push.new.self.items ≡ words_of c.args.self.now.own.items + length c.args.clause + 3 = ap words_of now
    ∙ words_push c.args.self.now.own.items c.args.clause in
    record {
      search = record {
        fitted = record {
          room_limit = f.room_limit;
          heap_size = f.heap_size;
          analyser_size = f.analyser_size;
          phases_size = f.phases_size;
          arena_limit = f.arena_limit;
          sum = let
              e = f.sum in omega arith;
          within = let r = c.requires.room in omega arith;
        };
        solving = solving_refuting c.args.self.now.arena c.args.self.now.trail c.args.self.now.own.items c.push.new.self.items c.args.self.now.refuted
            c.args.clause now c.requires.idle.level c.requires.falsified c.requires.there s.solving;
        offered = s.offered;
      };
      level = c.requires.idle.level;
    }

pub returns-clause-kept : goal.returns-clause-kept
returns-clause-kept c = record {
  clauses = same_owned c.args.self.now.arena c.args.self.now.own.items c.push.new.self.items c.args.clause c.in_ok-push.ensures.items;
  words = omega arith;
  room = refl;
  vars = refl;
  visits = refl;
}
