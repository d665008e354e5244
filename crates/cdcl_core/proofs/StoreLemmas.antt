-- States of a search with the same clauses.
use Rattle.std.proofs.Common.{◌≡◌, ◌≤◌, ◌<◌, ◌+◌, ◌++◌, ℕ, zero, suc, List, [], ◌∷◌, length, get_or, refl, sym, ◌∙◌, ap, subst, arith}
use Rattle.std.specs.Prelude.{Contains, Result, Ok, Err, OnOk}
use Rattle.cnf_core.specs.Lit.{Literal}
use Rattle.cnf_core.specs.Propagation.{SameLiterals}
use Rattle.cnf_core.proofs.PropagationLemmas.{same_back}
use Rattle.watch_arena.specs.Trail.{Marks}
use Rattle.watch_arena.specs.Arena.{Attached}
use Rattle.cdcl_core.specs.declared.search.Search.{Search}
use Rattle.cdcl_learn.specs.Sight.{sight}
use Rattle.cdcl_core.specs.Kept.{AreSameClauses, HasLearnt, IsFull, more_learnt}
use Rattle.cdcl_core.specs.Roots.{all_of, IsAssuming}
use Rattle.cdcl_core.specs.Search.{clauses, seen, IsSameStore, IsAnalysed, IsAsking, IsKeptOne}
use Rattle.cdcl_core.proofs.SetLemmas.{same_itself, same_more, same_equal, same_append}

le_trans : (a b c : ℕ) → a ≤ b → b ≤ c → a ≤ c
le_trans a b c f g = omega arith

pub store_itself : (s : Search) → IsSameStore s s
store_itself s = record { clauses = same_itself (clauses s); room = refl; words = refl; learnt = refl; refuted = refl; vars = refl; visits = omega arith }

pub store_more : (r s t : Search) → IsSameStore r s → IsSameStore s t → IsSameStore r t
store_more r s t f g = record {
  clauses = same_more (clauses r) (clauses s) (clauses t) f.clauses g.clauses;
  room = g.room ∙ f.room;
  words = g.words ∙ f.words;
  learnt = g.learnt ∙ f.learnt;
  refuted = g.refuted ∙ f.refuted;
  vars = g.vars ∙ f.vars;
  visits = le_trans r.arena.visits s.arena.visits t.arena.visits f.visits g.visits;
}

-- what the analyser leaves alone
pub analysed_clauses : (s t : Search) → IsAnalysed s t → clauses t ≡ clauses s
analysed_clauses s t h = ap (λ (a : Attached). all_of a t.own.items) h.arena ∙ ap (all_of s.arena) h.own

pub analysed_store : (s t : Search) → IsAnalysed s t → IsSameStore s t
analysed_store s t h = record {
  clauses = same_equal (clauses s) (clauses t) (sym (analysed_clauses s t h));
  room = h.numbers.0;
  words = h.numbers.1;
  learnt = h.numbers.2;
  refuted = h.flags.0;
  vars = ap (λ (m : Marks). m.vars) h.trail;
  visits = let e : t.arena.visits ≡ s.arena.visits = ap (λ (a : Attached). a.visits) h.arena in omega arith;
}

pub analysed_asking : (query : List Literal) (s t : Search) → IsAnalysed s t → IsAsking query s → IsAsking query t
analysed_asking query s t h asking =
    subst (λ (a : Attached). IsAssuming query (sight a t.trail) t.levels t.assumed) (sym h.arena)
    (subst (λ (m : Marks). IsAssuming query (sight s.arena m) t.levels t.assumed) (sym h.trail)
    (subst (λ n. IsAssuming query (sight s.arena s.trail) n t.assumed) (sym h.flags.1)
    (subst (λ n. IsAssuming query (sight s.arena s.trail) s.levels n) (sym h.flags.2) asking)))

pub analysed_full : (s t : Search) → IsAnalysed s t → IsFull s.room s.words (clauses s) → IsFull t.room t.words (clauses t)
analysed_full s t h full =
    subst (λ n. IsFull n t.words (clauses t)) (sym h.numbers.0)
    (subst (λ n. IsFull s.room n (clauses t)) (sym h.numbers.1)
    (subst (IsFull s.room s.words) (sym (analysed_clauses s t h)) full))

-- one clause more, and counted as learnt
pub kept_learnt : (s t : Search) (c : List Literal) → IsKeptOne s t c → t.learnt ≡ more_learnt s.learnt 1 → HasLearnt (seen s) (seen t) (c ∷ [])
kept_learnt s t c k learnt = record {
  clauses = k.clauses;
  words = let w = k.words in omega arith;
  room = k.room;
  vars = k.vars;
  learnt = learnt;
  visits = let e = k.visits in omega arith;
  failed = refl;
}

-- a clause whose literals come in another order
one_of : (c x : List Literal) → Contains (c ∷ []) x → c ≡ x
one_of c x h = at_place h.0 h.1 h.2
  where
    at_place : (i : ℕ) → i < length (c ∷ []) → get_or (c ∷ []) i x ≡ x → c ≡ x
    at_place zero lt e = e
    at_place (suc i) lt e = absurd (omega arith)

turned_one : (c d : List Literal) → SameLiterals c d → AreSameClauses (c ∷ []) (d ∷ [])
turned_one c d same = record {
  there = λ x m. (d, (0, omega arith, refl), subst (λ (y : List Literal). SameLiterals y d) (one_of c x m) same);
  back = λ x m. (c, (0, omega arith, refl), subst (λ (y : List Literal). SameLiterals y c) (one_of d x m) (same_back c d same));
}

pub kept_turned : {T E : Type 0} (res : Result T E) (s t : Search) (c d : List Literal) → SameLiterals c d → length d ≡ length c → OnOk res (IsKeptOne s t d) →
    OnOk res (IsKeptOne s t c)
kept_turned (Err e) s t c d same size h = h
kept_turned (Ok x) s t c d same size h = record {
  clauses = same_more (clauses s ++ c ∷ []) (clauses s ++ d ∷ []) (clauses t) (same_append (clauses s) (c ∷ []) (clauses s) (d ∷ []) (same_itself (clauses s))
      (turned_one c d same)) h.clauses;
  words = h.words ∙ ap (λ n. s.words + n + 3) size;
  room = h.room;
  vars = h.vars;
  visits = h.visits;
}
