-- A clause or a variable is added to the tables.
use Rattle.std.proofs.Common.{◌≡◌, ◌≢◌, ℕ, ◌+◌, ◌*◌, ◌<◌, ◌≤◌, ◌⊎◌, Bool, true, false, cond, zero, suc, List, [], ◌∷◌, ◌++◌, length, take, get_or, set, refl}
use Rattle.std.proofs.Common.{sym, ◌∙◌, ap, subst, inl, inr, arith, length-append, length-set, append_assoc, append-nil}
use Rattle.std.specs.Prelude.{All}
use Rattle.std.proofs.lemmas.List.{take_all, take_at, take_more, get_or_default, get_or_append_left, get_or_push, get_or_past, get_or-set_other}
use Rattle.std.proofs.lemmas.Grind.{get_or-set_at}
use Rattle.std.proofs.lemmas.List.Elements.{All-weaker, All-push, Contains-push, Contains-append_left}
use Rattle.std.proofs.lemmas.Bool.Decides.{eqb_tells}
use Rattle.std.proofs.lemmas.List.Sums.{sum_by_more, sum_by-append}
use Rattle.cnf_core.specs.Lit.{Literal, negate, word_of, has}
use Rattle.cnf_core.specs.Clause.{Clauses, AreDistinct, AreThere, AllThere}
use Rattle.cnf_core.specs.Propagation.{LiteralSet, IsIn, Closure, Falsifies, HasReason, Falsified, nothing}
use Rattle.cnf_core.proofs.PropagationLemmas.{closure_again, closure_more, among_left, reason_more}
use Rattle.cnf_core.proofs.ClauseLemmas.{there_more}
use Rattle.cnf_core.proofs.TrailLemmas.{word_once, has_last, has_front, same_literal_or, push_keeps, front_lacks, front_includes}
use Rattle.refute_check.specs.declared.tables.Tables.{Tables}
use Rattle.cnf_core.specs.Trail.{marked, weight, IsTrail, Grows}
use Rattle.refute_check.specs.Tables.{false_count, IsCountedTo, AreCounts, AreQuiet, IsQuiet, IsUnsetUnit, Lists, AreOccurrences}
use Rattle.refute_check.specs.declared.places.Rest.{Rest}
use Rattle.refute_check.specs.Entries.{Entries, entries, no_entries, is_short, rest_of, shorts_in, shorts_from, is_counted, places_from, with_entry}
use Rattle.refute_check.specs.Settled.{AreSettled, IsListed}
use Rattle.refute_check.proofs.ScanLemmas.{IsFalse}
use Rattle.cnf_core.proofs.GrowthLemmas.{grows_more, grows_unit, grows_reason}
use Rattle.refute_check.proofs.GrowthLemmas.{quiet_more, quiet_marked, all_same_set}

-- counting false literals one after another
pub false_step : (truth : List Bool) (c : List Literal) (i : ℕ) (l : Literal) (b : Bool) → i < length c → l ≡ get_or c i l → b ≡ marked truth (negate l) →
    false_count (marked truth) (take (i + 1) c) ≡ false_count (marked truth) (take i c) + weight b
false_step truth c i l b within at e =
    let more = sum_by_more (λ k. weight (marked truth (negate k))) c i l within in
    let here : weight (marked truth (negate (get_or c i l))) ≡ weight b = ap (λ (k : Literal). weight (marked truth (negate k))) (sym at) ∙ ap weight (sym e) in
    omega (arith, more, here)

-- a clause is put into the lists of its literals
pub lists_none : (number : ℕ) (clause : List Literal) (old : List Entries) → Lists [] number clause old old
lists_none number clause old = record { size = refl; each = λ l within. refl }

pub lists_more : (lits : List Literal) (i : ℕ) (l : Literal) (number word : ℕ) (clause : List Literal) (old mid : List Entries) (place now : Entries) →
    AreDistinct lits → i < length lits → l ≡ get_or lits i l → word ≡ word_of l → word_of l < length old → Lists (take i lits) number clause old mid →
    place ≡ get_or mid word place → now ≡ with_entry number clause l place → Lists (take (i + 1) lits) number clause old (set mid word now)
lists_more lits i l number word clause old mid place now distinct within at w low s read push = record {
  size = length-set mid word now ∙ s.size;
  each = λ m there. elim (same_literal_or m l) [
    | inl e ↦
        let same : word_of m ≡ word = ap word_of e ∙ sym w in
        let now_at : get_or (set mid word now) (word_of m) no_entries ≡ now = get_or-set_at mid word (word_of m) now no_entries same
        (omega (arith, w, low, s.size)) in
        let was : place ≡ get_or old (word_of l) no_entries =
        read ∙ get_or_default mid word place no_entries (omega (arith, w, low, s.size)) ∙ ap (λ n. get_or mid n no_entries) w ∙ s.each l low
        ∙ ap (λ b. cond b (with_entry number clause l (get_or old (word_of l) no_entries)) (get_or old (word_of l) no_entries)) lacks in
        let has_m : has (take (i + 1) lits) m ≡ true = ap (λ (ls : List Literal). has ls m) next ∙ ap (has (take i lits ++ l ∷ [])) e
        ∙ has_last (take i lits) l in
        now_at ∙ push ∙ ap (with_entry number clause l) was ∙ ap (λ (k : Literal). with_entry number clause k (get_or old (word_of k) no_entries)) (sym e)
        ∙ ap (λ b. cond b (with_entry number clause m (get_or old (word_of m) no_entries)) (get_or old (word_of m) no_entries)) (sym has_m)
    | inr ne ↦
        let other : word_of m ≢ word = λ e. ne (word_once m l (e ∙ w)) in
        let has_m : has (take (i + 1) lits) m ≡ has (take i lits) m = ap (λ (ls : List Literal). has ls m) next ∙ has_front (take i lits) l m ne in
        get_or-set_other mid word (word_of m) now no_entries other ∙ s.each m there
        ∙ ap (λ b. cond b (with_entry number clause m (get_or old (word_of m) no_entries)) (get_or old (word_of m) no_entries)) (sym has_m)
  ];
}
  where
    lacks : has (take i lits) l ≡ false
    lacks = front_lacks lits i l distinct within (sym at)

    next : take (i + 1) lits ≡ take i lits ++ l ∷ []
    next = take_more lits i l within ∙ ap (λ (k : Literal). take i lits ++ k ∷ []) (sym at)

pub lists_all : (lits : List Literal) (i number : ℕ) (clause : List Literal) (old new : List Entries) → length lits ≤ i →
    Lists (take i lits) number clause old new → Lists lits number clause old new
lists_all lits i number clause old new end s = subst (λ (ls : List Literal). Lists ls number clause old new) (take_all i lits end) s

-- one more clause
places_push : (cs : Clauses) (c : List Literal) (l : Literal) (s n : ℕ) → n ≡ s + length cs →
    places_from s (cs ++ c ∷ []) l ≡ places_from s cs l ++ cond (is_counted c l) (n ∷ []) []
places_push [] c l s n e = ap (λ k. cond (is_counted c l) (k ∷ []) []) (let same : s ≡ n = omega arith in same)
places_push (d ∷ ds) c l s n e = by_test (is_counted d l) (places_push ds c l (s + 1) n (omega arith))
  where
    by_test : (b : Bool) → places_from (s + 1) (ds ++ c ∷ []) l ≡ places_from (s + 1) ds l ++ cond (is_counted c l) (n ∷ []) [] →
        cond b (s ∷ places_from (s + 1) (ds ++ c ∷ []) l) (places_from (s + 1) (ds ++ c ∷ []) l) ≡ cond b (s ∷ places_from (s + 1) ds l)
        (places_from (s + 1) ds l) ++ cond (is_counted c l) (n ∷ []) []
    by_test true h = ap (λ (ns : List ℕ). s ∷ ns) h
    by_test false h = h

shorts_push : (cs : Clauses) (c : List Literal) (l : Literal) → shorts_from (cs ++ c ∷ []) l ≡ shorts_from cs l ++ shorts_in c l
shorts_push [] c l = append-nil (shorts_in c l)
shorts_push (d ∷ ds) c l = ap (λ (rs : List Rest). shorts_in d l ++ rs) (shorts_push ds c l)
    ∙ sym (append_assoc (shorts_in d l) (shorts_from ds l) (shorts_in c l))

-- what a list gains, by whether the clause has the literal and is short
gained : (shorts : List Rest) (counted : List ℕ) (rest : Rest) (n : ℕ) (h s : Bool) →
    cond h (cond s (entries (shorts ++ rest ∷ []) counted) (entries shorts (counted ++ n ∷ []))) (entries shorts counted) ≡ entries
    (shorts ++ cond h (cond s (rest ∷ []) []) []) (counted ++ cond (cond s false h) (n ∷ []) [])
gained shorts counted rest n true true = ap (entries (shorts ++ rest ∷ [])) (sym (append-nil counted))
gained shorts counted rest n true false = ap (λ (rs : List Rest). entries rs (counted ++ n ∷ [])) (sym (append-nil shorts))
gained shorts counted rest n false true = ap (λ (rs : List Rest). entries rs counted) (sym (append-nil shorts))
    ∙ ap (entries (shorts ++ [])) (sym (append-nil counted))
gained shorts counted rest n false false = ap (λ (rs : List Rest). entries rs counted) (sym (append-nil shorts))
    ∙ ap (entries (shorts ++ [])) (sym (append-nil counted))

occurrences_push : (vars : ℕ) (clauses : Clauses) (c : List Literal) (old new : List Entries) → AreOccurrences vars clauses old →
    Lists c (length clauses) c old new → AreOccurrences vars (clauses ++ c ∷ []) new
occurrences_push vars clauses c old new o s = record {
  size = s.size ∙ o.size;
  each = λ l within.
      let low : word_of l < length old = omega (arith, within, s.size) in
      s.each l low ∙ ap (λ (e : Entries). cond (has c l) (with_entry (length clauses) c l e) e) (o.each l low)
      ∙ gained (shorts_from clauses l) (places_from 0 clauses l) (rest_of c l) (length clauses) (has c l) (is_short c)
      ∙ ap (λ (rs : List Rest). entries rs (places_from 0 clauses l ++ cond (is_counted c l) (length clauses ∷ []) [])) (sym (shorts_push clauses c l))
      ∙ ap (entries (shorts_from (clauses ++ c ∷ []) l)) (sym (places_push clauses c l 0 (length clauses) (omega arith)));
}

counts_push : (clauses : Clauses) (c : List Literal) (set : LiteralSet) (counts : List ℕ) (n : ℕ) → AreCounts clauses set counts →
    n + false_count set c ≡ length c → AreCounts (clauses ++ c ∷ []) set (counts ++ n ∷ [])
counts_push clauses c set counts n right e = record {
  size = omega (arith, length-append clauses (c ∷ []), length-append counts (n ∷ []), right.size);
  each = λ k within long. elim (last_or_before k within) [
    | inl low ↦
        let same = get_or_append_left clauses (c ∷ []) [] k low in
        is_count same (get_or_append_left counts (n ∷ []) 0 k (omega (arith, low, right.size))) (right.each k low (sym (ap is_short same) ∙ long))
    | inr last ↦ is_count (get_or_push clauses c [] k (sym last)) (get_or_push counts n 0 k (omega (arith, last, right.size))) e
  ];
}
  where
    last_or_before : (k : ℕ) → k < length (clauses ++ c ∷ []) → (k < length clauses) ⊎ (k ≡ length clauses)
    last_or_before k within = let size = length-append clauses (c ∷ []) in grind (arith, size)

    is_count : {d now : List Literal} {m then : ℕ} → now ≡ d → then ≡ m → m + false_count set d ≡ length d → then + false_count set now ≡ length now
    is_count {d} {now} {m} {then} is same h = subst (λ (x : List Literal). then + false_count set x ≡ length x) (sym is) (omega (arith, same, h))

same_count : (vars : ℕ) (truth : List Bool) (trail c : List Literal) → IsTrail vars truth trail → false_count (marked truth) c ≡ false_count (has trail) c
same_count vars truth trail [] t = refl
same_count vars truth trail (k ∷ c) t =
    let a = sum_by-append (λ m. weight (marked truth (negate m))) (k ∷ []) c in
    let b = sum_by-append (λ m. weight (has trail (negate m))) (k ∷ []) c in
    let e : weight (marked truth (negate k)) ≡ weight (has trail (negate k)) = ap weight (t.marks (negate k)) in
    omega (arith, a, b, e, same_count vars truth trail c t)

pub listed : (vars : ℕ) (clauses : Clauses) (c : List Literal) (n : ℕ) (old new : Tables) → AreSettled vars clauses old →
    Lists c (length clauses) c old.occurrences.items new.occurrences.items → n + false_count (marked old.truth.items) c ≡ length c →
    new.counts.items ≡ old.counts.items ++ n ∷ [] → new.truth.items ≡ old.truth.items → new.trail.items ≡ old.trail.items →
    new.noted.items ≡ old.noted.items → IsListed vars (clauses ++ c ∷ []) c new
listed vars clauses c n old new s lists count counts truth trail noted = record {
  among = Contains-push clauses c;
  occurrences = occurrences_push vars clauses c old.occurrences.items new.occurrences.items s.occurrences lists;
  counted =
      let k = s.counted in
      let table = k.table in
      let whole = take_all (length old.trail.items) old.trail.items (omega arith) in
      let right : AreCounts clauses (has old.trail.items) old.counts.items = subst (λ (ls : List Literal). AreCounts clauses (has ls) old.counts.items) whole
      k.right in
      let more = counts_push clauses c (has old.trail.items) old.counts.items n right
      (omega (arith, count, same_count vars old.truth.items old.trail.items c table)) in
      rw (counts, truth, trail) (record {
        table = table;
        within = omega arith;
        right = subst (λ (ls : List Literal). AreCounts (clauses ++ c ∷ []) (has ls) (old.counts.items ++ n ∷ [])) (sym whole) more;
      });
  within = rw trail (λ l h. closure_more clauses (clauses ++ c ∷ []) nothing l (among_left clauses (c ∷ [])) (s.within l h));
  reasoned = rw trail (λ l h. let r = s.reasoned l h in record {
    reason = r.reason;
    among = Contains-append_left clauses (c ∷ []) r.reason r.among;
    unit = r.unit;
  });
  quiet = rw trail (All-push (λ d. (d ≡ c) ⊎ IsQuiet (has (take (length old.trail.items) old.trail.items)) (has old.trail.items) d) clauses c
      (All-weaker (IsQuiet (has (take (length old.trail.items) old.trail.items)) (has old.trail.items))
      (λ d. (d ≡ c) ⊎ IsQuiet (has (take (length old.trail.items) old.trail.items)) (has old.trail.items) d) (λ d q. inr q) clauses s.quiet) (inl refl));
  unnoted = noted ∙ s.unnoted;
}

-- the clause that was added is looked at
all_of : (clauses : Clauses) (c : List Literal) (P : List Literal → Type 0) → All (λ d. (d ≡ c) ⊎ P d) clauses → P c → All P clauses
all_of clauses c P all here = All-weaker (λ d. (d ≡ c) ⊎ P d) P (λ d h. elim h [ inl e ↦ subst P (sym e) here | inr p ↦ p ]) clauses all

pub settled_quiet : (vars : ℕ) (clauses : Clauses) (c : List Literal) (t : Tables) → IsListed vars clauses c t →
    IsQuiet (has t.trail.items) (has t.trail.items) c → AreSettled vars clauses t
settled_quiet vars clauses c t s q = record {
  occurrences = s.occurrences;
  counted = s.counted;
  within = s.within;
  reasoned = s.reasoned;
  quiet = all_of clauses c (IsQuiet (has (take (length t.trail.items) t.trail.items)) (has t.trail.items)) s.quiet
      (subst (λ (ls : List Literal). IsQuiet (has ls) (has t.trail.items) c) (sym (take_all (length t.trail.items) t.trail.items (omega arith))) q);
  unnoted = s.unnoted;
}

pub settled_falsified : (vars : ℕ) (clauses : Clauses) (c : List Literal) (t : Tables) → IsListed vars clauses c t → All (IsFalse (marked t.truth.items)) c →
    Falsifies clauses nothing
settled_falsified vars clauses c t s all = record {
  clause = c;
  among = s.among;
  each = All-weaker (IsFalse (has t.trail.items)) (λ k. Closure clauses nothing (negate k)) (λ k h. s.within (negate k) h) c
      (let k = s.counted in let table = k.table in all_same_set (marked t.truth.items) (has t.trail.items) c table.marks all);
}

-- the unit literal is marked, and the clause quiet then
pub unit_quiet : (clauses : Clauses) (c trail : List Literal) (l : Literal) →
    All (λ d. (d ≡ c) ⊎ IsQuiet (has (take (length trail) trail)) (has trail) d) clauses → IsUnsetUnit (has trail) c l →
    AreQuiet clauses (trail ++ l ∷ []) (length trail)
unit_quiet clauses c trail l quiet u =
    let front : take (length trail) (trail ++ l ∷ []) ≡ take (length trail) trail = take_at trail (l ∷ []) (length trail) refl
    ∙ sym (take_all (length trail) trail (omega arith)) in
    subst (λ (ls : List Literal). All (IsQuiet (has ls) (has (trail ++ l ∷ []))) clauses) (sym front)
    (all_of clauses c (IsQuiet (has (take (length trail) trail)) (has (trail ++ l ∷ [])))
    (All-weaker (λ d. (d ≡ c) ⊎ IsQuiet (has (take (length trail) trail)) (has trail) d)
    (λ d. (d ≡ c) ⊎ IsQuiet (has (take (length trail) trail)) (has (trail ++ l ∷ [])) d)
    (λ d h. elim h [ inl e ↦ inl e | inr q ↦ inr (quiet_more (has (take (length trail) trail)) (has trail) (has (trail ++ l ∷ [])) d (push_keeps trail l) q) ])
    clauses quiet)
    (quiet_marked trail c l (has (take (length trail) trail)) u (front_includes trail (length trail))))

pub unit_counted : (vars : ℕ) (clauses : Clauses) (truth then : List Bool) (trail : List Literal) (counts : List ℕ) (l : Literal) →
    IsCountedTo vars clauses truth trail counts (length trail) → IsTrail vars then (trail ++ l ∷ []) →
    IsCountedTo vars clauses then (trail ++ l ∷ []) counts (length trail)
unit_counted vars clauses truth then trail counts l c t = record {
  table = t;
  within = omega (arith, length-append trail (l ∷ []));
  right = subst (λ (ls : List Literal). AreCounts clauses (has ls) counts) (take_all (length trail) trail (omega arith)
      ∙ sym (take_at trail (l ∷ []) (length trail) refl)) c.right;
}

-- what follows without assumptions
pub grown_within : (clauses : Clauses) (old new : List Literal) → ((l : Literal) → IsIn (has old) l → Closure clauses nothing l) → Grows clauses old new →
    (l : Literal) → IsIn (has new) l → Closure clauses nothing l
grown_within clauses old new within g l h = closure_again clauses nothing (has old) l within (g.within l h)

pub grown_reasoned : (clauses : Clauses) (old new : List Literal) → ((l : Literal) → IsIn (has old) l → HasReason clauses (has old) l) → Grows clauses old new →
    (l : Literal) → IsIn (has new) l → HasReason clauses (has new) l
grown_reasoned clauses old new reasoned g l h = elim (grows_reason clauses old new g l h) [
  | inl o ↦ reason_more clauses (has old) (has new) l g.keeps (reasoned l o)
  | inr r ↦ r
]

pub grown_falsified : (clauses : Clauses) (old new : List Literal) → ((l : Literal) → IsIn (has old) l → Closure clauses nothing l) → Grows clauses old new →
    Falsified clauses (has new) → Falsifies clauses nothing
grown_falsified clauses old new within g f = record {
  clause = f.clause;
  among = f.among;
  each = All-weaker (IsFalse (has new)) (λ k. Closure clauses nothing (negate k)) (λ k h. grown_within clauses old new within g (negate k) h) f.clause f.each;
}

-- one more variable
high_lacks : (vars : ℕ) (l : Literal) (c : List Literal) → vars < l.var → AreThere vars c → has c l ≡ false
high_lacks vars l [] high h = refl
high_lacks vars l (k ∷ c) high h = elim (eqb_tells k.var l.var) [
  | inl e ↦ absurd (let low = h.0.1 in omega (arith, low, high, e.1))
  | inr e ↦ rw e.0 (high_lacks vars l c high h.1)
]

never : (b h : Bool) → h ≡ false → cond b false h ≡ false
never true h e = refl
never false h e = e

places_none : (clauses : Clauses) (l : Literal) (vars s : ℕ) → AllThere vars clauses → vars < l.var → places_from s clauses l ≡ []
places_none [] l vars s there high = refl
places_none (c ∷ cs) l vars s there high =
    ap (λ b. cond b (s ∷ places_from (s + 1) cs l) (places_from (s + 1) cs l)) (never (is_short c) (has c l) (high_lacks vars l c high there.0))
    ∙ places_none cs l vars (s + 1) there.1 high

shorts_none : (clauses : Clauses) (l : Literal) (vars : ℕ) → AllThere vars clauses → vars < l.var → shorts_from clauses l ≡ []
shorts_none [] l vars there high = refl
shorts_none (c ∷ cs) l vars there high = ap (λ b. cond b (cond (is_short c) (rest_of c l ∷ []) []) [] ++ shorts_from cs l) (high_lacks vars l c high there.0)
    ∙ shorts_none cs l vars there.1 high

entries_none : (clauses : Clauses) (l : Literal) (vars : ℕ) → AllThere vars clauses → vars < l.var →
    entries (shorts_from clauses l) (places_from 0 clauses l) ≡ no_entries
entries_none clauses l vars there high = ap (λ (rs : List Rest). entries rs (places_from 0 clauses l)) (shorts_none clauses l vars there high)
    ∙ ap (entries []) (places_none clauses l vars 0 there high)

high_var : (vars : ℕ) (l : Literal) → 2 * vars + 2 ≤ word_of l → vars < l.var
high_var vars l h = high l.positive h
  where
    high : (p : Bool) → 2 * vars + 2 ≤ 2 * l.var + cond p 0 1 → vars < l.var
    high true h = omega arith
    high false h = omega arith

two_past : (xs : List Bool) (i : ℕ) → get_or (xs ++ false ∷ false ∷ []) i false ≡ get_or xs i false
two_past [] zero = refl
two_past [] (suc zero) = refl
two_past [] (suc (suc i)) = refl
two_past (x ∷ xs) zero = refl
two_past (x ∷ xs) (suc i) = two_past xs i

two_empty : (xs : List Entries) (i : ℕ) → get_or (xs ++ no_entries ∷ no_entries ∷ []) i no_entries ≡ get_or xs i no_entries
two_empty [] zero = refl
two_empty [] (suc zero) = refl
two_empty [] (suc (suc i)) = refl
two_empty (x ∷ xs) zero = refl
two_empty (x ∷ xs) (suc i) = two_empty xs i

pub var_added : (vars : ℕ) (clauses : Clauses) (old new : Tables) → AllThere vars clauses → AreSettled vars clauses old →
    new.occurrences.items ≡ old.occurrences.items ++ no_entries ∷ no_entries ∷ [] → new.truth.items ≡ old.truth.items ++ false ∷ false ∷ [] →
    new.trail.items ≡ old.trail.items → new.counts.items ≡ old.counts.items → new.noted.items ≡ old.noted.items → AreSettled (vars + 1) clauses new
var_added vars clauses old new there s occurrences truth trail counts noted = record {
  occurrences = rw occurrences (record {
    size = let o = s.occurrences in omega (arith, length-append old.occurrences.items (no_entries ∷ no_entries ∷ []), o.size);
    each = λ l within. two_empty old.occurrences.items (word_of l) ∙ by_place l (low_or_high (word_of l) (length old.occurrences.items));
  });
  counted = rw (truth, trail, counts) (record {
    table = record {
      size = let t = table in omega (arith, length-append old.truth.items (false ∷ false ∷ []), t.size);
      marks = λ l. two_past old.truth.items (word_of l) ∙ (let t = table in t.marks l);
      distinct = let t = table in t.distinct;
      there = let t = table in there_more vars (vars + 1) old.trail.items (omega arith) t.there;
      count = let t = table in omega (arith, t.count, sum_by-append weight old.truth.items (false ∷ false ∷ []));
    };
    within = omega arith;
    right = let k = s.counted in k.right;
  });
  within = rw trail s.within;
  reasoned = rw trail s.reasoned;
  quiet = rw trail s.quiet;
  unnoted = noted ∙ s.unnoted;
}
  where
    table : IsTrail vars old.truth.items old.trail.items
    table = let k = s.counted in k.table

    low_or_high : (i n : ℕ) → (i < n) ⊎ (n ≤ i)
    low_or_high i n = grind arith

    by_place : (l : Literal) → (word_of l < length old.occurrences.items) ⊎ (length old.occurrences.items ≤ word_of l) →
        get_or old.occurrences.items (word_of l) no_entries ≡ entries (shorts_from clauses l) (places_from 0 clauses l)
    by_place l (inl low) = let o = s.occurrences in o.each l low
    by_place l (inr high) = let o = s.occurrences in
        get_or_past old.occurrences.items (word_of l) no_entries high ∙ sym (entries_none clauses l vars there (high_var vars l (omega (arith, high, o.size))))

pub settled_unit : (vars : ℕ) (clauses : Clauses) (c : List Literal) (l : Literal) (old new : Tables) (front : ℕ) → IsListed vars clauses c old →
    IsUnsetUnit (has old.trail.items) c l → new.occurrences.items ≡ old.occurrences.items →
    IsCountedTo vars clauses new.truth.items new.trail.items new.counts.items front → Grows clauses (old.trail.items ++ l ∷ []) new.trail.items →
    front ≡ length new.trail.items → AreQuiet clauses new.trail.items (length new.trail.items) → new.noted.items ≡ [] → AreSettled vars clauses new
settled_unit vars clauses c l old new front s u same counted g all quiet unnoted =
    let whole = grows_more clauses old.trail.items (old.trail.items ++ l ∷ []) new.trail.items (grows_unit clauses old.trail.items c l s.among u.unit) g in
    record {
      occurrences = rw same s.occurrences;
      counted = subst (λ n. IsCountedTo vars clauses new.truth.items new.trail.items new.counts.items n) all counted;
      within = grown_within clauses old.trail.items new.trail.items s.within whole;
      reasoned = grown_reasoned clauses old.trail.items new.trail.items s.reasoned whole;
      quiet = quiet;
      unnoted = unnoted;
    }

pub falsified_unit : (vars : ℕ) (clauses : Clauses) (c : List Literal) (l : Literal) (old : Tables) (new : List Literal) → IsListed vars clauses c old →
    IsUnsetUnit (has old.trail.items) c l → Grows clauses (old.trail.items ++ l ∷ []) new → Falsified clauses (has new) → Falsifies clauses nothing
falsified_unit vars clauses c l old new s u g f = grown_falsified clauses old.trail.items new s.within
    (grows_more clauses old.trail.items (old.trail.items ++ l ∷ []) new (grows_unit clauses old.trail.items c l s.among u.unit) g) f

pub pushed_twice : {X : Type 0} (xs ys zs : List X) (a b e : X) → ys ≡ xs ++ a ∷ [] → zs ≡ ys ++ b ∷ [] → a ≡ e → b ≡ e → zs ≡ xs ++ e ∷ e ∷ []
pushed_twice {X} xs ys zs a b e one two ea eb =
    two ∙ ap (λ (l : List X). l ++ b ∷ []) one ∙ append_assoc xs (a ∷ []) (b ∷ []) ∙ ap (λ (x : X). xs ++ x ∷ b ∷ []) ea ∙ ap (λ (x : X). xs ++ e ∷ x ∷ []) eb
