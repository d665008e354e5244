use Rattle.std.proofs.Common.{◌≡◌, ◌+◌, ◌≤◌, ◌<◌, ℕ, List, length, true, false, inl, inr, refl, sym, ◌∙◌, ap, subst, arith}
use Rattle.cnf_core.specs.Lit.{Literal}
use Rattle.cdcl_learn.specs.Sight.{sight}
use Rattle.cdcl_learn.specs.Cut.{IsLearntOf}
use Rattle.cdcl_core.specs.Kept.{IsDeduced}
use Rattle.cdcl_core.specs.Search.{clauses}
use Rattle.cdcl_core.proofs.SetLemmas.{not_both}
use Rattle.std.specs.Prelude.{◌↔◌, Bool}
use Rattle.std.proofs.lemmas.Bool.{cases_lt}
use Rattle.cdcl_core.proofs.ConflictLemmas.{conflict_here, learnt_full, deduced_here, learnt_distinct}
use Rattle.cdcl_core.proofs.search.Search.derive.Goals as goal

fits_here : (room words n : ℕ) (b : Bool) → b ≡ true → (b ≡ false) ↔ (room < words + n + 3) → words + n + 3 ≤ room
fits_here room words n b e d = elim (cases_lt room (words + n + 3)) [
  | inl lt ↦ absurd (not_both b e (d.1 lt))
  | inr ge ↦ ge
]

pub analyse-requires-clause-clash : goal.analyse-requires-clause-clash
analyse-requires-clause-clash c = conflict_here c.args.self.now c.args.clash.0 c.requires.search c.requires.clash c.requires.above

pub analyse-requires-clause-arena : goal.analyse-requires-clause-arena
analyse-requires-clause-arena c = sym c.requires.search.solving.grounded.vars

pub returns-else-has_room-clause-learnt : goal.returns-else-has_room-clause-learnt
returns-else-has_room-clause-learnt c = learnt_full c.args.self.now c.analyse.new.self.clause c.analyse.new.self.back c.requires.search c.requires.unrefuted
    c.analyse.ensures.learnt (let l = c.len.ensures in let lt = c.has_room.ensures.0 c.if-has_room.false in omega arith)

pub returns-in_ok-copied-clause-learnt : goal.returns-in_ok-copied-clause-learnt
returns-in_ok-copied-clause-learnt c =
    let same : c.from_vec.result ≡ c.analyse.new.self.clause = c.from_vec.ensures ∙ c.in_ok-copied.ensures in
    record {
      deduced = subst (IsDeduced (clauses c.args.self.now)) (sym same) (deduced_here c.args.self.now c.analyse.new.self.clause c.analyse.new.self.back
          c.requires.search c.requires.unrefuted c.analyse.ensures.learnt);
      fits = let r = fits_here c.args.self.now.room c.args.self.now.words c.len.result c.has_room.result c.if-has_room.true c.has_room.ensures in let
          l = c.len.ensures in let e = ap length same in omega arith;
      learnt = subst (λ (ls : List Literal). IsLearntOf (sight c.args.self.now.arena c.args.self.now.trail) ls c.analyse.new.self.back) (sym same)
          c.analyse.ensures.learnt;
    }

pub from_vec-requires : goal.from_vec-requires
from_vec-requires c = learnt_distinct c.args.self.now c.analyse.new.self.clause c.analyse.new.self.back c.in_ok-copied.field-0.items c.in_ok-copied.ensures
    c.analyse.ensures.learnt

pub returns-in_ok-copied-clause-same : goal.returns-in_ok-copied-clause-same
returns-in_ok-copied-clause-same c = record { arena = refl; trail = refl; own = refl; numbers = (refl, refl, refl); flags = (refl, refl, refl) }

pub returns-in_ok-copied-clause-search : goal.returns-in_ok-copied-clause-search
returns-in_ok-copied-clause-search c =
    let f = c.requires.search.fitted in
    record {
      fitted = record {
        room_limit = f.room_limit;
        heap_size = f.heap_size;
        analyser_size = c.analyse.ensures.vars
            ∙ f.analyser_size;
        phases_size = f.phases_size;
        arena_limit = f.arena_limit;
        sum = f.sum;
        within = f.within;
      };
      solving = c.requires.search.solving;
      offered = c.requires.search.offered;
    }

pub returns-else-has_room-clause-same : goal.returns-else-has_room-clause-same
returns-else-has_room-clause-same c = record { arena = refl; trail = refl; own = refl; numbers = (refl, refl, refl); flags = (refl, refl, refl) }

pub returns-else-has_room-clause-search : goal.returns-else-has_room-clause-search
returns-else-has_room-clause-search c =
    let f = c.requires.search.fitted in
    record {
      fitted = record {
        room_limit = f.room_limit;
        heap_size = f.heap_size;
        analyser_size = c.analyse.ensures.vars
            ∙ f.analyser_size;
        phases_size = f.phases_size;
        arena_limit = f.arena_limit;
        sum = f.sum;
        within = f.within;
      };
      solving = c.requires.search.solving;
      offered = c.requires.search.offered;
    }
