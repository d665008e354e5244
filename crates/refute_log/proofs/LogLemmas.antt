-- Logs line by line, and what their clauses say.
use Rattle.std.proofs.Common.{◌≡◌, ℕ, zero, suc, ◌+◌, ◌<◌, ◌≤◌, ◌⊎◌, max, List, [], ◌∷◌, ◌++◌, length, take, get_or, refl, sym, ◌∙◌, ap, subst, inl, inr}
use Rattle.std.proofs.Common.{arith, append-nil, length-append, Some, None}
use Rattle.std.specs.Prelude.{All, Contains, Option, slice_get, flat_map, fold}
use Rattle.std.proofs.lemmas.Grind.{flat_map-append}
use Rattle.std.proofs.lemmas.List.Concat.{flat_map-cons}
use Rattle.std.proofs.lemmas.List.Sums.{fold_push}
use Rattle.std.proofs.lemmas.List.{take_all, take_at, take-append-le, take_more, get_or_append_left, get_or_push}
use Rattle.std.proofs.lemmas.List.Elements.{All-head, All-tail}
use Rattle.std.proofs.lemmas.Option.{slice_get_within, get_or_from_slice_get, slice_get_read, slice_get-get_or}
use Rattle.cnf_core.specs.Lit.{Literal}
use Rattle.cnf_core.specs.Clause.{Clauses, AreThere, HasAllOf, words_of}
use Rattle.cnf_core.specs.Assignment.{Assignment, SatisfiesAll}
use Rattle.cnf_core.specs.Propagation.{greatest_var}
use Rattle.cnf_core.proofs.PropagationLemmas.{rup_sound, new_includes_none}
use Rattle.cnf_core.proofs.ClauseLemmas.{satisfies_append, satisfies_left, satisfies_right, words_append}
use Rattle.cnf_core.proofs.GreatestLemmas.{greatest_var-append}
use Rattle.refute_log.specs.declared.line.LogLine.{LogLine}
use Rattle.refute_log.specs.declared.line.LogLine.TheVariants.{Formula, Learnt, Bound, Query, Refuted, Model}
use Rattle.refute_log.specs.Told.{Lines, learnt_after}
use Rattle.refute_log.specs.Log.{Facts, facts_of, facts_after, added, given, learnt, refuted, asked, learnt_count, IsNewClause, Stands, Derives, Open, Due}

-- the facts of one more line
pub flat_map_last : {X A : Type 0} (f : X → List A) (xs : List X) (x : X) → flat_map f (xs ++ x ∷ []) ≡ flat_map f xs ++ f x
flat_map_last {X} {A} f xs x = flat_map-append f xs (x ∷ []) ∙ ap (λ (l : List A). flat_map f xs ++ l) (flat_map-cons f x [] ∙ append-nil (f x))

facts_with : ℕ → Clauses → Option (List Literal) → Clauses → Facts
facts_with g cs q rs = record { greatest = g; clauses = cs; query = q; refuted = rs }

pub facts_more : (lines : Lines) (line : LogLine) → facts_of (lines ++ line ∷ []) ≡ facts_after (facts_of lines) line
unfolding facts_with
facts_more lines line =
    let now = lines ++ line ∷ [] in
    let f = facts_of lines in
    let a : greatest_var (flat_map given now) ≡ max f.greatest (greatest_var (given line)) = ap greatest_var (flat_map_last given lines line)
    ∙ greatest_var-append (flat_map given lines) (given line) in
    let b : flat_map added now ≡ f.clauses ++ added line = flat_map_last added lines line in
    let q : fold asked None now ≡ asked f.query line = fold_push asked None lines line in
    let r : flat_map refuted now ≡ f.refuted ++ refuted line = flat_map_last refuted lines line in
    ap (λ n. facts_with n (flat_map added now) (fold asked None now) (flat_map refuted now)) a
    ∙ ap (λ (cs : Clauses). facts_with (max f.greatest (greatest_var (given line))) cs (fold asked None now) (flat_map refuted now)) b
    ∙ ap (λ (o : Option (List Literal)). facts_with (max f.greatest (greatest_var (given line))) (f.clauses ++ added line) o (flat_map refuted now)) q
    ∙ ap (λ (rs : Clauses). facts_with (max f.greatest (greatest_var (given line))) (f.clauses ++ added line) (asked f.query line) rs) r

-- deriving one more line
pub derives_none : Derives []
derives_none = λ i line e. absurd (let lt = slice_get_within [] i line e in omega (arith, lt))

pub at_left : (lines : Lines) (line l : LogLine) (i : ℕ) → i < length lines → slice_get (lines ++ line ∷ []) i ≡ Some l → slice_get lines i ≡ Some l
at_left lines line l i low e =
    let read : get_or lines i l ≡ l = sym (get_or_append_left lines (line ∷ []) l i low) ∙ get_or_from_slice_get (lines ++ line ∷ []) i l l e in
    slice_get_read lines (length lines) i l refl low (sym read)

pub low_or_last : (lines : Lines) (line l : LogLine) (i : ℕ) → slice_get (lines ++ line ∷ []) i ≡ Some l → (i < length lines) ⊎ (i ≡ length lines)
low_or_last lines line l i e = let lt = slice_get_within (lines ++ line ∷ []) i l e in let size = length-append lines (line ∷ []) in grind (arith, lt, size)

pub derives_more : (lines : Lines) (line : LogLine) → Derives lines → Stands lines line → Derives (lines ++ line ∷ [])
derives_more lines line d s = λ i l e. elim (low_or_last lines line l i e) [
  | inl low ↦ subst (λ (ls : Lines). Stands ls l) (sym (take-append-le i lines (line ∷ []) (omega arith))) (d i l (at_left lines line l i low e))
  | inr last ↦
      let is : line ≡ l = sym (get_or_push lines line l i (sym last)) ∙ get_or_from_slice_get (lines ++ line ∷ []) i l l e in
      subst (λ (ls : Lines). Stands ls l) (sym (take_at lines (line ∷ []) i (sym last))) (subst (λ (k : LogLine). Stands lines k) is s)
]

at_right : (lines : Lines) (line l : LogLine) (i : ℕ) → slice_get lines i ≡ Some l → slice_get (lines ++ line ∷ []) i ≡ Some l
at_right lines line l i e =
    let low = slice_get_within lines i l e in
    let read : get_or (lines ++ line ∷ []) i l ≡ l = get_or_append_left lines (line ∷ []) l i low ∙ get_or_from_slice_get lines i l l e in
    slice_get_read (lines ++ line ∷ []) (length (lines ++ line ∷ [])) i l refl (omega (arith, low, length-append lines (line ∷ []))) (sym read)

at_end : (lines : Lines) (line : LogLine) → slice_get (lines ++ line ∷ []) (length lines) ≡ Some line
at_end lines line =
    let read : get_or (lines ++ line ∷ []) (length lines) line ≡ line = get_or_push lines line line (length lines) refl in
    slice_get_read (lines ++ line ∷ []) (length (lines ++ line ∷ [])) (length lines) line refl (omega (arith, length-append lines (line ∷ []))) (sym read)

pub derives_front : (lines : Lines) (line : LogLine) → Derives (lines ++ line ∷ []) → Derives lines
derives_front lines line d = λ i l e.
    let low = slice_get_within lines i l e in
    subst (λ (ls : Lines). Stands ls l) (take-append-le i lines (line ∷ []) (omega arith)) (d i l (at_right lines line l i e))

pub derives_last : (lines : Lines) (line : LogLine) → Derives (lines ++ line ∷ []) → Stands lines line
derives_last lines line d = subst (λ (ls : Lines). Stands ls line) (take_at lines (line ∷ []) (length lines) refl) (d (length lines) line (at_end lines line))

-- due lines, one more
pub due_none : Due []
due_none = λ i c e. absurd (let lt = slice_get_within [] i (Learnt c) e in omega (arith, lt))

pub due_more : (lines : Lines) (line : LogLine) → Due lines → ((c : List Literal) → line ≡ Learnt c → Open lines) → Due (lines ++ line ∷ [])
due_more lines line d s = λ i c e. elim (low_or_last lines line (Learnt c) i e) [
  | inl low ↦ subst (λ (ls : Lines). Open ls) (sym (take-append-le i lines (line ∷ []) (omega arith))) (d i c (at_left lines line (Learnt c) i low e))
  | inr last ↦
      let is : line ≡ Learnt c = sym (get_or_push lines line (Learnt c) i (sym last)) ∙ get_or_from_slice_get (lines ++ line ∷ []) i (Learnt c) (Learnt c) e in
      subst (λ (ls : Lines). Open ls) (sym (take_at lines (line ∷ []) i (sym last))) (s c is)
]

pub due_front : (lines : Lines) (line : LogLine) → Due (lines ++ line ∷ []) → Due lines
due_front lines line d = λ i c e.
    let low = slice_get_within lines i (Learnt c) e in
    subst (λ (ls : Lines). Open ls) (take-append-le i lines (line ∷ []) (omega arith)) (d i c (at_right lines line (Learnt c) i e))

pub due_last : (lines : Lines) (c : List Literal) → Due (lines ++ Learnt c ∷ []) → Open lines
due_last lines c d = subst (λ (ls : Lines). Open ls) (take_at lines (Learnt c ∷ []) (length lines) refl) (d (length lines) c (at_end lines (Learnt c)))

-- the number of Learnt lines
pub learnt_count_more : (lines : Lines) (line : LogLine) → learnt_count (lines ++ line ∷ []) ≡ learnt_after line (learnt_count lines)
learnt_count_more lines line =
    let more : length (flat_map learnt (lines ++ line ∷ [])) ≡ length (flat_map learnt lines) + length (learnt line) = ap length
    (flat_map_last learnt lines line) ∙ length-append (flat_map learnt lines) (learnt line) in
    by_kind line more
  where
    by_kind : (l : LogLine) → length (flat_map learnt (lines ++ line ∷ [])) ≡ length (flat_map learnt lines) + length (learnt l) →
        learnt_count (lines ++ line ∷ []) ≡ learnt_after l (learnt_count lines)
    by_kind (Formula c) e = omega arith
    by_kind (Learnt c) e = omega arith
    by_kind (Bound criterion k x) e = omega arith
    by_kind (Query c) e = omega arith
    by_kind (Refuted c) e = omega arith
    by_kind Model e = omega arith

-- the words of a log's clauses
words_split : (line : LogLine) → words_of (added line) ≡ words_of (given line) + words_of (learnt line)
words_split (Formula c) = omega arith
words_split (Learnt c) = omega arith
words_split (Bound criterion k x) = refl
words_split (Query c) = refl
words_split (Refuted c) = refl
words_split Model = refl

pub words_of_log : (lines : Lines) → words_of (flat_map added lines) ≡ words_of (flat_map given lines) + words_of (flat_map learnt lines)
words_of_log [] = refl
words_of_log (line ∷ lines) =
    let a = ap words_of (flat_map-cons added line lines) ∙ words_append (added line) (flat_map added lines) in
    let b = ap words_of (flat_map-cons given line lines) ∙ words_append (given line) (flat_map given lines) in
    let c = ap words_of (flat_map-cons learnt line lines) ∙ words_append (learnt line) (flat_map learnt lines) in
    omega (arith, a, b, c, words_split line, words_of_log lines)

-- what the clauses of a log say
given_at : (v : Assignment) (lines : Lines) (i : ℕ) (d : LogLine) → i < length lines → SatisfiesAll v (flat_map given lines) →
    SatisfiesAll v (given (get_or lines i d))
given_at v [] i d lt h = absurd (omega arith)
given_at v (line ∷ lines) zero d lt h = satisfies_left v (given line) (flat_map given lines) (subst (SatisfiesAll v) (flat_map-cons given line lines) h)
given_at v (line ∷ lines) (suc i) d lt h = given_at v lines i d (omega arith) (satisfies_right v (given line) (flat_map given lines)
    (subst (SatisfiesAll v) (flat_map-cons given line lines) h))

record Holds (v : Assignment) (lines : Lines) : Type 0 where
  clauses : SatisfiesAll v (flat_map added lines)
  answers : SatisfiesAll v (flat_map refuted lines)

holds_more : (v : Assignment) (lines : Lines) (line : LogLine) → Stands lines line → SatisfiesAll v (given line) → Holds v lines → Holds v (lines ++ line ∷ [])
holds_more v lines line s g h = record {
  clauses = subst (SatisfiesAll v) (sym (flat_map_last added lines line)) (satisfies_append v (flat_map added lines) (added line) h.clauses
      (added_holds line s g));
  answers = subst (SatisfiesAll v) (sym (flat_map_last refuted lines line)) (satisfies_append v (flat_map refuted lines) (refuted line) h.answers
      (refuted_holds line s));
}
  where
    added_holds : (l : LogLine) → Stands lines l → SatisfiesAll v (given l) → SatisfiesAll v (added l)
    added_holds (Formula c) s g = g
    added_holds (Learnt c) s g = (rup_sound v (flat_map added lines) c s.implied h.clauses, tt)
    added_holds (Bound criterion k x) s g = tt
    added_holds (Query c) s g = tt
    added_holds (Refuted c) s g = tt
    added_holds Model s g = tt

    refuted_holds : (l : LogLine) → Stands lines l → SatisfiesAll v (refuted l)
    refuted_holds (Formula c) s = tt
    refuted_holds (Learnt c) s = tt
    refuted_holds (Bound criterion k x) s = tt
    refuted_holds (Query c) s = tt
    refuted_holds (Refuted c) s = (rup_sound v (flat_map added lines) c s.implied h.clauses, tt)
    refuted_holds Model s = tt

holds_at : (v : Assignment) (lines : Lines) (n : ℕ) → n ≤ length lines → Derives lines → SatisfiesAll v (flat_map given lines) → Holds v (take n lines)
holds_at v lines zero le d g = record { clauses = tt; answers = tt }
holds_at v lines (suc n) le d g =
    let low : n < length lines = omega arith in
    let line = get_or lines n Model in
    let more : suc n ≡ n + 1 = omega arith in
    let next : take (suc n) lines ≡ take n lines ++ line ∷ [] = ap (λ k. take k lines) more ∙ take_more lines n Model low in
    subst (Holds v) (sym next) (holds_more v (take n lines) line (d n line (slice_get-get_or lines n Model low)) (given_at v lines n Model low g)
    (holds_at v lines n (omega arith) d g))

learnt_of_added : (v : Assignment) (lines : Lines) → SatisfiesAll v (flat_map added lines) → SatisfiesAll v (flat_map learnt lines)
learnt_of_added v [] h = h
learnt_of_added v (line ∷ lines) h =
    let both = subst (SatisfiesAll v) (flat_map-cons added line lines) h in
    subst (SatisfiesAll v) (sym (flat_map-cons learnt line lines)) (satisfies_append v (learnt line) (flat_map learnt lines)
    (one line (satisfies_left v (added line) (flat_map added lines) both)) (learnt_of_added v lines
    (satisfies_right v (added line) (flat_map added lines) both)))
  where
    one : (l : LogLine) → SatisfiesAll v (added l) → SatisfiesAll v (learnt l)
    one (Formula c) h = tt
    one (Learnt c) h = h
    one (Bound criterion k x) h = tt
    one (Query c) h = tt
    one (Refuted c) h = tt
    one Model h = tt

pub derived_hold : (v : Assignment) (lines : Lines) → Derives lines → SatisfiesAll v (flat_map given lines) →
    SatisfiesAll v (flat_map learnt lines) × SatisfiesAll v (flat_map refuted lines)
derived_hold v lines d g =
    let all : Holds v lines = subst (Holds v) (take_all (length lines) lines (omega arith)) (holds_at v lines (length lines) (omega arith) d g) in
    (learnt_of_added v lines all.clauses, all.answers)

-- a new clause has all literals of none of the clauses
first_or_later : (first l : Literal) (others : List Literal) → Contains (first ∷ others) l → (l ≡ first) ⊎ Contains others l
first_or_later first l others m = at m.0 m.1 m.2
  where
    at : (i : ℕ) → i < length (first ∷ others) → get_or (first ∷ others) i l ≡ l → (l ≡ first) ⊎ Contains others l
    at zero lt e = inl (sym e)
    at (suc i) lt e = inr (i, omega arith, e)

pub new_includes_nothing : (clauses : Clauses) (c d : List Literal) → IsNewClause clauses c → Contains clauses d → HasAllOf c d → ⊥
new_includes_nothing clauses [] d fresh among within = fresh
new_includes_nothing clauses (first ∷ others) d fresh among within = new_includes_none clauses first others fresh d among
    (λ l m. first_or_later first l others (within l m))

pub learnt_includes_none : (lines : Lines) (i : ℕ) (c d : List Literal) → Derives lines → slice_get lines i ≡ Some (Learnt c) →
    Contains (flat_map added (take i lines)) d → HasAllOf c d → ⊥
learnt_includes_none lines i c d derives e among within = let stands = derives i (Learnt c) e in new_includes_nothing (flat_map added (take i lines)) c d
    stands.says_more among within

-- literals of the first variables
pub there_below : (m n : ℕ) (c : List Literal) → AreThere m c → All (λ l. l.var ≤ n) c → AreThere n c
there_below m n [] h all = tt
there_below m n (l ∷ c) h all = ((h.0.0, All-head (λ (k : Literal). k.var ≤ n) l c all), there_below m n c h.1 (All-tail (λ (k : Literal). k.var ≤ n) l c all))
