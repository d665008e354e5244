-- A search with no variable and no clause.
use Rattle.std.proofs.Common.{◌≡◌, ℕ, ◌<◌, ◌≤◌, List, [], length, false, sym, ap, subst, arith}
use Rattle.std.specs.Prelude.{Contains}
use Rattle.std.proofs.lemmas.Bool.{false≢true}
use Rattle.std.proofs.lemmas.List.Elements.{All-nil}
use Rattle.cnf_core.specs.declared.limits.TheConstants.{ROOM}
use Rattle.cnf_core.specs.Clause.{Clauses, AreThere}
use Rattle.watch_arena.specs.Trail.{Marks, IsMarks}
use Rattle.watch_arena.specs.Arena.{Attached, AreWatched, AreReasoned}
use Rattle.pick_heap.specs.Heap.{Ranked}
use Rattle.cdcl_learn.specs.Sight.{sight}
use Rattle.cdcl_core.specs.Search.{AreFitted}
use Rattle.cdcl_core.specs.Roots.{IsTrueAtRoot, IsSolving, AreOffered}

none_placed : (ps : List ℕ) (p : ℕ) → ps ≡ [] → Contains ps p → ⊥
none_placed ps p none h = let within : h.0 < length ps = h.1 in omega (arith, ap length none)

pub fitted_start : (room vars heap analyser phases arena_room arena_words own_words : ℕ) → room ≤ ROOM → vars ≡ 0 → heap ≡ 0 → analyser ≡ 0 → phases ≡ 1 →
    arena_room ≡ room → arena_words ≡ 1 → own_words ≡ 0 → AreFitted room vars heap analyser phases arena_room arena_words own_words 0
fitted_start room vars heap analyser phases arena_room arena_words own_words limit v h a p r w o = record {
  room_limit = limit;
  heap_size = omega arith;
  analyser_size = omega arith;
  phases_size = omega arith;
  arena_limit = r;
  sum = omega arith;
  within = omega arith;
}

pub solving_start : (a : Attached) (m : Marks) (own : Clauses) → own ≡ [] → a.places ≡ [] → m.vars ≡ a.vars → m.lits ≡ [] → m.cuts ≡ [] → IsMarks m →
    AreReasoned a m → AreWatched a m → IsSolving a m own false
solving_start a m own none places vars lits cuts marks reasoned watched = subst (λ (cs : Clauses). IsSolving a m cs false) (sym none) (record {
  watched = watched;
  grounded = record {
    vars = vars;
    texts = λ p h. absurd (none_placed a.places p places h);
    marks = marks;
    reasoned = reasoned;
    levels = λ q lt. absurd (omega (arith, lt, ap length cuts));
    rooted = λ i lt root. absurd (omega (arith, lt, ap length lits));
    there = All-nil (AreThere m.vars);
    own_true = λ _. All-nil (IsTrueAtRoot (sight a m));
    falsified = λ e. absurd (false≢true e);
  };
})

pub offered_start : (h : Ranked) (m : Marks) → m.vars ≡ 0 → AreOffered h m
offered_start h m none = λ l there un. absurd (omega (arith, there.0, there.1, none))
