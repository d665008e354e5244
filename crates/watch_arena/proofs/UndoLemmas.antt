-- Levels that are taken back.
use Rattle.std.proofs.Common.{◌≡◌, ℕ, ◌+◌, ◌<◌, ◌≤◌, Bool, false, take, List, [], ◌∷◌, ◌++◌, length, get_or, set, refl, sym, ◌∙◌, ap, subst, inl, inr, arith}
use Rattle.std.proofs.Common.{length-take-le}
use Rattle.std.proofs.lemmas.Bool.{cases_eq}
use Rattle.std.specs.Prelude.{min}
use Rattle.std.proofs.lemmas.List.{take-take, take_more, get_or-take, get_or_default}
use Rattle.cnf_core.specs.Lit.{Literal, word_of}
use Rattle.cnf_core.specs.Clause.{AreThere}
use Rattle.cnf_core.proofs.TrailLemmas.{there_last, word_below}
use Rattle.cnf_core.specs.Trail.{IsTrail}
use Rattle.watch_arena.specs.Trail.{IsStoredTrail, AreCuts, HasLevels, trail_level, Marks, marks_of, undone}
use Rattle.watch_arena.proofs.CutLemmas.{level_take}
use Rattle.cnf_core.proofs.MarkLemmas.{trail_less}
use Rattle.watch_arena.proofs.TrailLemmas.{marks_same}

pub cuts_lowered : (cuts : List ℕ) (len front level end n : ℕ) → AreCuts cuts len front → level < length cuts → get_or cuts level 0 ≡ end → end ≤ n →
    AreCuts (take level cuts) n (min front end)
cuts_lowered cuts len front level end n a lt is le =
    let size = length-take-le level cuts (omega arith) in
    let count = a.from level lt in
    record {
      count = omega arith;
      from = λ k l. let s = same k (omega arith) in let x = a.from k (omega arith) in omega arith;
      below = λ k l. let s = same k (omega arith) in let x = a.rise k level (omega arith) lt in omega arith;
      propagated = λ k l. let s = same k (omega arith) in let x = a.rise k level (omega arith) lt in let y = a.propagated k (omega arith) in omega arith;
      rise = λ j k l lk. let s = same k (omega arith) in let t = same j (omega arith) in let x = a.rise j k l (omega arith) in omega arith;
    }
  where
    same : (k : ℕ) → k < level → get_or (take level cuts) k 0 ≡ get_or cuts k 0
    same k l = get_or-take level cuts k 0 l

module _ (vars : ℕ) (truth : List Bool) (order : List Literal) (len front : ℕ) (starts : List ℕ) (level : ℕ) (reasons levels : List ℕ)
    (k : IsStoredTrail vars truth order len front starts level reasons levels) where
  module _ (to end : ℕ) (lt : to < level) (is : get_or starts to 0 ≡ end) where
    -- where the first level that is taken back begins
    start_is : get_or (take level starts) to 0 ≡ end
    start_is = get_or-take level starts to 0 lt ∙ is

    to_within : to < length (take level starts)
    to_within = let taken = length-take-le level starts k.level_within in omega arith

    pub end_below : end < len
    end_below = let cuts = k.cuts in let below = cuts.below to to_within in let e = start_is in omega arith

    cuts_same : take to (take level starts) ≡ take to starts
    cuts_same = take-take to level starts (omega arith)

    levels_left : HasLevels (take to starts) (take end order) levels
    levels_left = λ i d lt2.
        let within = k.within in
        let below = end_below in
        let size = length-take-le end order (omega arith) in
        let all = length-take-le len order within in
        let e = start_is in
        let cuts = k.cuts in
        let at : get_or (take end order) i d ≡ get_or (take len order) i d = get_or-take end order i d (omega arith)
        ∙ sym (get_or-take len order i d (omega arith)) in
        ap (λ (m : Literal). get_or levels m.var 0) at ∙ k.level_of i d (omega arith)
        ∙ sym (level_take (take level starts) to i (λ j from below2. after j from below2 (omega arith)))
        ∙ ap (λ (cs : List ℕ). trail_level cs i) cuts_same
      where
        after : (j : ℕ) → to ≤ j → j < length (take level starts) → {i : ℕ} → i < end → i < get_or (take level starts) j 0
        after j from below {i} small = elim (cases_eq to j) [
          | inl e ↦ let x : get_or (take level starts) j 0 ≡ get_or (take level starts) to 0 = ap (λ n. get_or (take level starts) n 0) (sym e) in let
              y = start_is in omega arith
          | inr ne ↦ let cuts = k.cuts in let x = cuts.rise to j (omega arith) below in let y = start_is in omega arith
        ]

    pub kept_undone : (new : List Bool) → IsTrail vars new (take end order) → IsStoredTrail vars new order end (min front end) starts to reasons levels
    kept_undone new table =
        let within = k.within in
        let below = end_below in
        let level_in = k.level_within in
        record {
          limit = k.limit;
          table = table;
          size = k.size;
          within = omega arith;
          front_within = omega arith;
          starts_size = k.starts_size;
          level_within = omega arith;
          cuts = subst (λ (cs : List ℕ). AreCuts cs end (min front end)) cuts_same
              (cuts_lowered (take level starts) len front to end end k.cuts to_within start_is (omega arith));
          reasons_size = k.reasons_size;
          levels_size = k.levels_size;
          level_of = levels_left;
        }

    pub undone_view : (m : Marks) → marks_of vars order len front starts level reasons levels ≡ m →
        marks_of vars order end (min front end) starts to reasons levels ≡ undone m to
    undone_view m e =
        let below = end_below in
        let at_end : end ≡ get_or (take level starts) to (length (take len order)) = sym start_is
        ∙ get_or_default (take level starts) to 0 (length (take len order)) to_within in
        marks_same vars (take end order) (take (get_or (take level starts) to (length (take len order))) (take len order)) (min front end)
        (min front (get_or (take level starts) to (length (take len order)))) (take to starts) (take to (take level starts)) reasons reasons levels levels
        (sym (take-take end len order (omega arith)) ∙ ap (λ n. take n (take len order)) at_end) (ap (min front) at_end) (sym cuts_same) refl refl
        ∙ ap (λ (n : Marks). undone n to) e

-- the last literal of a trail is unmarked
pub last_split : (order : List Literal) (l : Literal) (n : ℕ) → n < length order → get_or order n l ≡ l → take (n + 1) order ≡ take n order ++ l ∷ []
last_split order l n lt is = take_more order n l lt ∙ ap (λ (u : Literal). take n order ++ u ∷ []) is

pub last_there : (vars : ℕ) (truth : List Bool) (order : List Literal) (l : Literal) (n : ℕ) → n < length order → get_or order n l ≡ l →
    IsTrail vars truth (take (n + 1) order) → word_of l < length truth
last_there vars truth order l n lt is t =
    let there = there_last vars (take n order) l (subst (λ (ls : List Literal). AreThere vars ls) (last_split order l n lt is) t.there) in
    let below = word_below vars l there in
    let size = t.size in
    omega arith

pub last_unset : (vars : ℕ) (truth : List Bool) (order : List Literal) (l : Literal) (n : ℕ) → n < length order → get_or order n l ≡ l →
    IsTrail vars truth (take (n + 1) order) → IsTrail vars (set truth (word_of l) false) (take n order)
last_unset vars truth order l n lt is t = trail_less vars truth (take n order) l (subst (λ (ls : List Literal). IsTrail vars truth ls)
    (last_split order l n lt is) t)
