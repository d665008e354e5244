-- Trails: tables that mark the literals of a list.
use Rattle.std.proofs.Common.{◌≡◌, ◌≢◌, ℕ, ◌+◌, ◌*◌, ◌<◌, ◌≤◌, Bool, true, false, zero, suc, take, List, [], ◌∷◌, ◌++◌, length, get_or, set, replicate, refl}
use Rattle.std.proofs.Common.{sym, ◌∙◌, ap, subst, inl, inr, arith, length-set, length-append, length-take-le}
use Rattle.std.specs.Prelude.{Contains}
use Rattle.std.proofs.lemmas.Bool.{both_ways, cases_lt}
use Rattle.std.proofs.lemmas.List.{take-append-le, length-replicate, get_or-set_other, get_or-set_same, get_or_append_left, get_or_push, get_or-take}
use Rattle.std.proofs.lemmas.List.Elements.{Contains-get_or}
use Rattle.std.proofs.lemmas.Grind.{take-set_at}
use Rattle.std.proofs.lemmas.List.Sums.{sum_by-append}
use Rattle.std.proofs.lemmas.List.Folds.{sum_by-replicate}
use Rattle.std.specs.List.{sum_by}
use Rattle.cnf_core.specs.declared.limits.TheConstants.{VARS}
use Rattle.cnf_core.specs.Lit.{Literal, negate, word_of, has}
use Rattle.cnf_core.specs.Clause.{AreThere, IsThere}
use Rattle.cnf_core.proofs.PropagationLemmas.{has_from_contains}
use Rattle.cnf_core.proofs.MarkLemmas.{trail_more, trail_short}
use Rattle.cnf_core.proofs.TrailLemmas.{same_or_negated, there_get}
use Rattle.cnf_core.specs.Trail.{weight, IsTrail}
use Rattle.watch_arena.specs.Trail.{IsStoredTrail, IsUnset, AreCuts, HasLevels, trail_level, IsMarks, Marks, marks_of, with_lit, opened, widened}
use Rattle.watch_arena.proofs.CutLemmas.{level_past, level_push_before, level_of_new}

-- one more level
pub cuts_more : (cuts : List ℕ) (len front : ℕ) → AreCuts cuts len front → front ≡ len → AreCuts (cuts ++ len ∷ []) (len + 1) front
cuts_more cuts len front a e =
    let size = length-append cuts (len ∷ []) in
    let count = a.count in
    record {
      count = omega arith;
      from = λ k lt. elim (cases_lt k (length cuts)) [
        | inl l ↦ let s = same k l in let f = a.from k l in omega arith
        | inr g ↦ let s = last k (omega arith) in
            omega arith
      ];
      below = λ k lt. elim (cases_lt k (length cuts)) [
        | inl l ↦ let s = same k l in let f = a.below k l in omega arith
        | inr g ↦ let s = last k (omega arith) in
            omega arith
      ];
      propagated = λ k lt. elim (cases_lt k (length cuts)) [
        | inl l ↦ let s = same k l in let f = a.propagated k l in omega arith
        | inr g ↦ let s = last k
            (omega arith) in omega arith
      ];
      rise = λ j k lt lk. let sj = same j (omega arith) in elim (cases_lt k (length cuts)) [
        | inl l ↦ let s = same k l in let f = a.rise j k lt l in omega arith
        | inr g ↦ let s = last k (omega arith) in let b = a.below j (omega arith) in
            omega arith
      ];
    }
  where
    same : (k : ℕ) → k < length cuts → get_or (cuts ++ len ∷ []) k 0 ≡ get_or cuts k 0
    same k l = get_or_append_left cuts (len ∷ []) 0 k l

    last : (k : ℕ) → k ≡ length cuts → get_or (cuts ++ len ∷ []) k 0 ≡ len
    last k e = get_or_push cuts len 0 k (sym e)

-- no literal of the trail has the variable of one that is unset
pub other_var : (lits : List Literal) (l k : Literal) → IsUnset lits l → Contains lits k → k.var ≢ l.var
other_var lits l k unset among e = elim (same_or_negated k l e) [
  | inl same ↦ both_ways (has lits l) unset.0 (subst (λ (u : Literal). has lits u ≡ true) same (has_from_contains lits k among))
  | inr same ↦ both_ways (has lits (negate l)) unset.1 (subst (λ (u : Literal). has lits u ≡ true) same (has_from_contains lits k among))
]

-- levels of one more literal
levels_more : (vars : ℕ) (cuts : List ℕ) (lits : List Literal) (levels : List ℕ) (l : Literal) (n : ℕ) → HasLevels cuts lits levels → length levels ≡ vars + 1 →
    IsThere vars l → IsUnset lits l → n ≡ trail_level cuts (length lits) → HasLevels cuts (lits ++ l ∷ []) (set levels l.var n)
levels_more vars cuts lits levels l n h size there unset e = λ i d lt. elim (cases_lt i (length lits)) [
  | inl small ↦
      let at : get_or (lits ++ l ∷ []) i d ≡ get_or lits i d = get_or_append_left lits (l ∷ []) d i small in
      ap (λ (m : Literal). get_or (set levels l.var n) m.var 0) at
      ∙ get_or-set_other levels l.var (get_or lits i d).var n 0 (other_var lits l (get_or lits i d) unset (Contains-get_or lits i d small))
      ∙ h i d small
  | inr big ↦
      let is : length lits ≡ i = omega (arith, length-append lits (l ∷ [])) in
      let at : get_or (lits ++ l ∷ []) i d ≡ l = get_or_push lits l d i is in
      let high = there.1 in
      ap (λ (m : Literal). get_or (set levels l.var n) m.var 0) at ∙ get_or-set_same levels l.var n 0 (omega arith) ∙ e ∙ ap (trail_level cuts) is
]

-- a table that is longer by what it has past its end
pub padded_none : {X : Type 0} (n i : ℕ) (x : X) → get_or (replicate n x) i x ≡ x
padded_none zero i x = refl
padded_none (suc n) zero x = refl
padded_none (suc n) (suc i) x = padded_none n i x

pub get_padded : {X : Type 0} (xs : List X) (n : ℕ) (x : X) (i : ℕ) → get_or (xs ++ replicate n x) i x ≡ get_or xs i x
get_padded [] n x i = padded_none n i x
get_padded (y ∷ xs) n x zero = refl
get_padded (y ∷ xs) n x (suc i) = get_padded xs n x i

there_more : (vars n : ℕ) (ls : List Literal) → AreThere vars ls → AreThere (vars + n) ls
there_more vars n [] h = tt
there_more vars n (l ∷ ls) h = let first = h.0 in let low = first.0 in let high = first.1 in ((low, omega arith), there_more vars n ls h.1)

trail_widened : (vars n : ℕ) (truth : List Bool) (trail : List Literal) → IsTrail vars truth trail → IsTrail (vars + n) (truth ++ replicate (2 * n) false) trail
trail_widened vars n truth trail t = record {
  size = omega (arith, t.size, length-append truth (replicate (2 * n) false), length-replicate {A = Bool} (2 * n) false);
  marks = λ l. get_padded truth (2 * n) false (word_of l) ∙ t.marks l;
  distinct = t.distinct;
  there = there_more vars n trail t.there;
  count =
      let none : sum_by weight (replicate (2 * n) false) ≡ 2 * n * 0 = sum_by-replicate weight (2 * n) false in
      omega (arith, t.count, sum_by-append weight truth (replicate (2 * n) false), none);
}

-- two views of the same parts
pub marks_same : (vars : ℕ) (a b : List Literal) (f g : ℕ) (c d r s t u : List ℕ) → a ≡ b → f ≡ g → c ≡ d → r ≡ s → t ≡ u →
    let m : Marks = record {
      vars = vars;
      lits = a;
      front = f;
      cuts = c;
      reasons = r;
      levels = t;
    } in let n : Marks = record { vars = vars; lits = b; front = g; cuts = d; reasons = s; levels = u } in m ≡ n
marks_same vars a b f g c d r s t u e h i j k =
    ap (λ (x : List Literal). let m : Marks = record { vars = vars; lits = x; front = f; cuts = c; reasons = r; levels = t } in m) e
    ∙ ap (λ x. let m : Marks = record { vars = vars; lits = b; front = x; cuts = c; reasons = r; levels = t } in m) h
    ∙ ap (λ (x : List ℕ). let m : Marks = record { vars = vars; lits = b; front = g; cuts = x; reasons = r; levels = t } in m) i
    ∙ ap (λ (x : List ℕ). let m : Marks = record { vars = vars; lits = b; front = g; cuts = d; reasons = x; levels = t } in m) j
    ∙ ap (λ (x : List ℕ). let m : Marks = record { vars = vars; lits = b; front = g; cuts = d; reasons = s; levels = x } in m) k

-- the front of a table is the trail
module _ (vars : ℕ) (truth : List Bool) (order : List Literal) (len front : ℕ) (starts : List ℕ) (level : ℕ) (reasons levels : List ℕ)
    (k : IsStoredTrail vars truth order len front starts level reasons levels) where
  pub kept_short : (l : Literal) → IsThere vars l → IsUnset (take len order) l → len < length order
  kept_short l there unset =
      let table = k.table in
      let size = k.size in
      let within = k.within in
      let more = trail_more vars truth (take len order) l table there (table.marks l ∙ unset.0) (table.marks (negate l) ∙ unset.1) in
      omega (
        arith,
        trail_short vars (set truth (word_of l) true) (take len order ++ l ∷ []) more,
        length-append (take len order) (l ∷ []),
        length-take-le len
            order within,
      )

  pub kept_lits : (l : Literal) → IsThere vars l → IsUnset (take len order) l → take (len + 1) (set order len l) ≡ take len order ++ l ∷ []
  kept_lits l there unset = take-set_at order len (len + 1) l refl (kept_short l there unset)

  -- a literal that is set now is of the present level
  kept_level_is : trail_level (take level starts) (length (take len order)) ≡ level
  kept_level_is =
      let size = length-take-le len order k.within in
      level_past (take level starts) (length (take len order)) (λ j lt. let cuts = k.cuts in let b = cuts.below j lt in omega arith)
      ∙ length-take-le level starts k.level_within

  pub kept_set : (l : Literal) (reason : ℕ) → IsThere vars l → IsUnset (take len order) l →
      IsStoredTrail vars (set truth (word_of l) true) (set order len l) (len + 1) front starts level (set reasons l.var reason) (set levels l.var level)
  kept_set l reason there unset =
      let table = k.table in
      let short = kept_short l there unset in
      let cuts = k.cuts in
      record {
        limit = k.limit;
        table = subst (λ (ls : List Literal). IsTrail vars (set truth (word_of l) true) ls) (sym (kept_lits l there unset))
            (trail_more vars truth (take len order) l table there (table.marks l ∙ unset.0) (table.marks (negate l) ∙ unset.1));
        size = length-set order len l ∙ k.size;
        within = omega (arith, length-set order len l);
        front_within = let f = k.front_within in omega arith;
        starts_size = k.starts_size;
        level_within = k.level_within;
        cuts = record {
          count = let n = cuts.count in omega arith;
          from = cuts.from;
          below = λ j lt. let b = cuts.below j lt in omega arith;
          propagated = cuts.propagated;
          rise = cuts.rise;
        };
        reasons_size = length-set reasons l.var reason ∙ k.reasons_size;
        levels_size = length-set levels l.var level ∙ k.levels_size;
        level_of = subst (λ (ls : List Literal). HasLevels (take level starts) ls (set levels l.var level)) (sym (kept_lits l there unset))
            (levels_more vars (take level starts) (take len order) levels l level k.level_of k.levels_size there unset (sym kept_level_is));
      }

  pub kept_there : (i : ℕ) (d : Literal) → i < length (take len order) → IsThere vars (get_or order i d)
  kept_there i d lt =
      let table = k.table in
      let within = k.within in
      let size = length-take-le len order within in
      let at : get_or (take len order) i d ≡ get_or order i d = get_or-take len order i d (omega arith) in
      subst (λ (l : Literal). IsThere vars l) at (there_get vars (take len order) i d lt table.there)

  pub marks_kept : IsMarks (marks_of vars order len front starts level reasons levels)
  marks_kept =
      let table = k.table in
      let size = length-take-le len order k.within in
      record {
        limit = k.limit;
        distinct = table.distinct;
        there = table.there;
        front = let f = k.front_within in omega arith;
        short = trail_short vars truth (take len order) table;
        cuts = subst (λ n. AreCuts (take level starts) n front) (sym size) k.cuts;
        reasons = k.reasons_size;
        levels_size = k.levels_size;
        levels = k.level_of;
      }

  pub set_view : (m : Marks) (l : Literal) (v reason : ℕ) → marks_of vars order len front starts level reasons levels ≡ m → IsThere vars l →
      IsUnset (take len order) l → v ≡ l.var → marks_of vars (set order len l) (len + 1) front starts level (set reasons v reason) (set levels v level)
      ≡ with_lit m l reason
  set_view m l v reason e there unset same =
      marks_same vars (take (len + 1) (set order len l)) (take len order ++ l ∷ []) front front (take level starts) (take level starts) (set reasons v reason)
      (set reasons l.var reason) (set levels v level) (set levels l.var (length (take level starts)))
      (kept_lits l there unset) refl refl (ap (λ w. set reasons w reason) same) (ap (λ w. set levels w level) same
      ∙ ap (set levels l.var) (sym (length-take-le level starts k.level_within)))
      ∙ ap (λ (n : Marks). with_lit n l reason) e

  pub kept_level : (l : Literal) → IsThere vars l → IsUnset (take len order) l → level < length starts
  kept_level l there unset =
      let cuts = k.cuts in
      let count = cuts.count in
      let short = kept_short l there unset in
      let size = k.size in
      let other = k.starts_size in
      let taken = length-take-le level starts k.level_within in
      omega arith

  pub kept_starts : level < length starts → take (level + 1) (set starts level len) ≡ take level starts ++ len ∷ []
  kept_starts lt = take-set_at starts level (level + 1) len refl lt

  -- a literal of a further level
  kept_next_is : level < length starts → trail_level (take level starts ++ len ∷ []) (length (take len order)) ≡ level + 1
  kept_next_is lt =
      let size = length-take-le len order k.within in
      level_of_new (take level starts) len (length (take len order)) (omega arith) ∙ ap (λ n. n + 1) kept_level_is

  pub kept_decide : (l : Literal) (reason : ℕ) → front ≡ len → IsThere vars l → IsUnset (take len order) l →
      IsStoredTrail vars (set truth (word_of l) true) (set order len l) (len + 1) front (set starts level len) (level + 1) (set reasons l.var reason)
      (set levels l.var (level + 1))
  kept_decide l reason e there unset =
      let s = kept_set l reason there unset in
      let lt = kept_level l there unset in
      let size = length-take-le len order k.within in
      record {
        limit = s.limit;
        table = s.table;
        size = s.size;
        within = s.within;
        front_within = s.front_within;
        starts_size = length-set starts level len ∙ k.starts_size;
        level_within = omega (arith, length-set starts level len);
        cuts = subst (λ (cs : List ℕ). AreCuts cs (len + 1) front) (sym (kept_starts lt)) (cuts_more (take level starts) len front k.cuts e);
        reasons_size = s.reasons_size;
        levels_size = length-set levels l.var (level + 1) ∙ k.levels_size;
        level_of = subst (λ (cs : List ℕ). HasLevels cs (take (len + 1) (set order len l)) (set levels l.var (level + 1))) (sym (kept_starts lt))
            (subst (λ (ls : List Literal). HasLevels (take level starts ++ len ∷ []) ls (set levels l.var (level + 1))) (sym (kept_lits l there unset))
            (levels_more vars (take level starts ++ len ∷ []) (take len order) levels l (level + 1)
            (λ i d below. k.level_of i d below ∙ sym (level_push_before (take level starts) len i (omega arith))) k.levels_size there unset
            (sym (kept_next_is lt))));
      }

  pub decide_view : (m : Marks) (l : Literal) (v reason : ℕ) → marks_of vars order len front starts level reasons levels ≡ m → IsThere vars l →
      IsUnset (take len order) l → v ≡ l.var → marks_of vars (set order len l) (len + 1) front (set starts level len) (level + 1) (set reasons v reason)
      (set levels v (level + 1)) ≡ with_lit (opened m) l reason
  decide_view m l v reason e there unset same =
      let size : len ≡ length (take len order) = sym (length-take-le len order k.within) in
      let count : level + 1 ≡ length (take level starts ++ length (take len order) ∷ []) = omega
      (arith, length-append (take level starts) (length (take len order) ∷ []), length-take-le level starts k.level_within) in
      marks_same vars (take (len + 1) (set order len l)) (take len order ++ l ∷ []) front front (take (level + 1) (set starts level len))
      (take level starts ++ length (take len order) ∷ []) (set reasons v reason) (set reasons l.var reason) (set levels v (level + 1))
      (set levels l.var (length (take level starts ++ length (take len order) ∷ [])))
      (kept_lits l there unset) refl (kept_starts (kept_level l there unset) ∙ ap (λ i. take level starts ++ i ∷ []) size) (ap (λ w. set reasons w reason) same)
      (ap (λ w. set levels w (level + 1)) same ∙ ap (set levels l.var) count)
      ∙ ap (λ (n : Marks). with_lit (opened n) l reason) e

  -- further variables
  pub kept_widened : (n : ℕ) (x : Literal) → vars + n ≤ VARS → IsStoredTrail (vars + n) (truth ++ replicate (2 * n) false) (order ++ replicate (2 * n) x) len
      front (starts ++ replicate (2 * n) 0) level (reasons ++ replicate n 0) (levels ++ replicate n 0)
  kept_widened n x limit =
      let within = k.within in
      let level_in = k.level_within in
      let lits : take len (order ++ replicate (2 * n) x) ≡ take len order = take-append-le len order (replicate (2 * n) x) within in
      let cuts : take level (starts ++ replicate (2 * n) 0) ≡ take level starts = take-append-le level starts (replicate (2 * n) 0) level_in in
      record {
        limit = limit;
        table = subst (λ (ls : List Literal). IsTrail (vars + n) (truth ++ replicate (2 * n) false) ls) (sym lits)
            (trail_widened vars n truth (take len order) k.table);
        size = omega (arith, k.size, length-append order (replicate (2 * n) x), length-replicate {A = Literal} (2 * n) x);
        within = omega (arith, length-append order (replicate (2 * n) x));
        front_within = k.front_within;
        starts_size = omega (arith, k.starts_size, length-append starts (replicate (2 * n) 0), length-replicate {A = ℕ} (2 * n) 0);
        level_within = omega (arith, length-append starts (replicate (2 * n) 0));
        cuts = subst (λ (cs : List ℕ). AreCuts cs len front) (sym cuts) k.cuts;
        reasons_size = omega (arith, k.reasons_size, length-append reasons (replicate n 0), length-replicate {A = ℕ} n 0);
        levels_size = omega (arith, k.levels_size, length-append levels (replicate n 0), length-replicate {A = ℕ} n 0);
        level_of = subst (λ (cs : List ℕ). HasLevels cs (take len (order ++ replicate (2 * n) x)) (levels ++ replicate n 0)) (sym cuts)
            (subst (λ (ls : List Literal). HasLevels (take level starts) ls (levels ++ replicate n 0)) (sym lits)
            (λ i d lt. get_padded levels n 0 (get_or (take len order) i d).var ∙ k.level_of i d lt));
      }

  pub widened_view : (n : ℕ) (x : Literal) (m : Marks) → marks_of vars order len front starts level reasons levels ≡ m →
      marks_of (vars + n) (order ++ replicate (2 * n) x) len front (starts ++ replicate (2 * n) 0) level (reasons ++ replicate n 0) (levels ++ replicate n 0)
      ≡ widened m n
  widened_view n x m e =
      marks_same (vars + n) (take len (order ++ replicate (2 * n) x)) (take len order) front front (take level (starts ++ replicate (2 * n) 0))
      (take level starts) (reasons ++ replicate n 0) (reasons ++ replicate n 0) (levels ++ replicate n 0) (levels ++ replicate n 0)
      (take-append-le len order (replicate (2 * n) x) k.within) refl (take-append-le level starts (replicate (2 * n) 0) k.level_within) refl refl
      ∙ ap (λ (y : Marks). widened y n) e
