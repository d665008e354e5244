-- How many Learnt lines a log can have.
use Rattle.std.proofs.Common.{◌≡◌, ℕ, zero, suc, ◌+◌, ◌*◌, ◌^◌, ◌<◌, ◌≤◌, ◌⊎◌, Bool, true, false, cond, eqb, List, [], ◌∷◌, ◌++◌, length, take, drop, get_or}
use Rattle.std.proofs.Common.{map, sym, ◌∙◌, ap, subst, inl, inr, arith, append-nil, refl}
use Rattle.std.specs.Prelude.{All, Any, Contains, flat_map}
use Rattle.std.specs.List.{IsDistinct, list_any}
use Rattle.std.proofs.Math.Nat.{pow-suc}
use Rattle.std.proofs.lemmas.Grind.{flat_map-append}
use Rattle.std.proofs.lemmas.List.Concat.{flat_map-cons}
use Rattle.std.proofs.lemmas.Cmp.{nat_eq_equiv}
use Rattle.std.proofs.lemmas.Bool.{false_from_ne_true}
use Rattle.std.proofs.lemmas.List.{length-map, map-append, take_all, take_more, take-append-drop, get_or-map}
use Rattle.std.proofs.lemmas.List.Elements.{All-nil, All-push, All-from_recursion, All-contains, Contains-get_or, Contains-append_left, Contains-append_right}
use Rattle.std.proofs.lemmas.List.Elements.{Contains-append_cases}
use Rattle.std.proofs.lemmas.List.Folds.{Any-from_list_any}
use Rattle.std.proofs.lemmas.Option.{slice_get-get_or}
use Rattle.std.proofs.lemmas.Map.Keys.{IsDistinct-push}
use Rattle.std.proofs.lemmas.Map.Steps.{length-le_from_distinct_below}
use Rattle.std.proofs.lemmas.Bool.Decides.{eqb_tells}
use Rattle.cnf_core.specs.Lit.{Literal, positive_of, negative_of, has}
use Rattle.cnf_core.specs.Clause.{Clauses, AreDistinct, AreThere, IsThere, AllDistinct, HasAllOf}
use Rattle.cnf_core.specs.Propagation.{greatest_var}
use Rattle.cnf_core.proofs.PropagationLemmas.{literal_same, contains_from_has, has_from_contains}
use Rattle.cnf_core.proofs.ClauseLemmas.{distinct_at}
use Rattle.cnf_core.proofs.GreatestLemmas.{greatest_var-append}
use Rattle.cnf_core.proofs.TrailLemmas.{distinct_consistent, there_all}
use Rattle.refute_log.specs.declared.line.LogLine.{LogLine}
use Rattle.refute_log.specs.declared.line.LogLine.TheVariants.{Formula, Learnt, Bound, Query, Refuted, Model}
use Rattle.refute_log.specs.Told.{Lines}
use Rattle.cnf_core.specs.declared.limits.TheConstants.{LAST_VAR}
use Rattle.refute_log.specs.Lines.{IsWellFormed, AreWellFormed}
use Rattle.refute_log.specs.Log.{facts_of, added, given, learnt, IsNewClause, Stands, Derives}
use Rattle.refute_log.proofs.LogLemmas.{flat_map_last, there_below, new_includes_nothing}

-- a clause over variables 1 to v as a number below 3^v
abbrev ternary : Bool → Bool → ℕ
ternary p q = cond p 1 (cond q 2 0)

abbrev digit : ℕ → List Literal → ℕ
digit x c = ternary (has c (positive_of x)) (has c (negative_of x))

abbrev code : ℕ → List Literal → ℕ
code zero c = 0
code (suc v) c = 3 * code v c + digit (suc v) c

digit_small : (x : ℕ) (c : List Literal) → digit x c < 3
digit_small x c = small (has c (positive_of x)) (has c (negative_of x))
  where
    small : (p q : Bool) → ternary p q < 3
    small true q = omega arith
    small false true = omega arith
    small false false = omega arith

code_small : (v : ℕ) (c : List Literal) → code v c < 3 ^ v
code_small zero c = omega arith
code_small (suc v) c = omega (arith, code_small v c, digit_small (suc v) c, pow-suc 3 v)

same_digit : (v : ℕ) (c d : List Literal) → code v c ≡ code v d → (x : ℕ) → 1 ≤ x → x ≤ v → digit x c ≡ digit x d
same_digit zero c d e x from to = absurd (omega arith)
same_digit (suc v) c d e x from to =
    let a = digit_small (suc v) c in
    let b = digit_small (suc v) d in
    let front : code v c ≡ code v d = omega arith in
    elim (eqb_tells x (suc v)) [
      | inl same ↦ let here : digit (suc v) c ≡ digit (suc v) d = omega arith in ap (λ n. digit n c) same.1 ∙ here ∙ ap (λ n. digit n d) (sym same.1)
      | inr other ↦ same_digit v c d front x from (let ne = other.1 in omega arith)
    ]

-- clauses of one number have the same literals
test_positive : (p q r s : Bool) → r ≡ true → ternary p q ≡ ternary r s → p ≡ true
test_positive true q r s h e = refl
test_positive false true true s h e = absurd (omega arith)
test_positive false false true s h e = absurd (omega arith)
test_positive false q false s h e = absurd (cc)

test_negative : (p q r s : Bool) → s ≡ true → r ≡ false → ternary p q ≡ ternary r s → q ≡ true
test_negative p true r s h k e = refl
test_negative true false false true h k e = absurd (omega arith)
test_negative false false false true h k e = absurd (omega arith)
test_negative p false true s h k e = absurd (cc)
test_negative p false false false h k e = absurd (cc)

same_includes : (v : ℕ) (c d : List Literal) → AreDistinct d → AreThere v d → code v c ≡ code v d → HasAllOf c d
same_includes v c d distinct there e = λ l m. by_sign l m l.positive refl
  where
    by_sign : (l : Literal) → Contains d l → (p : Bool) → l.positive ≡ p → Contains c l
    by_sign l m true is =
        let within : IsThere v l = All-contains (IsThere v) d l (there_all v d there) m in
        let pos : l ≡ positive_of l.var = literal_same l (positive_of l.var) refl is in
        let h : has d (positive_of l.var) ≡ true = ap (has d) (sym pos) ∙ has_from_contains d l m in
        let g : has c (positive_of l.var) ≡ true = test_positive (has c (positive_of l.var)) (has c (negative_of l.var)) (has d (positive_of l.var))
        (has d (negative_of l.var)) h (same_digit v c d e l.var within.0 within.1) in
        contains_from_has c l (ap (has c) pos ∙ g)
    by_sign l m false is =
        let within : IsThere v l = All-contains (IsThere v) d l (there_all v d there) m in
        let neg : l ≡ negative_of l.var = literal_same l (negative_of l.var) refl is in
        let h : has d (negative_of l.var) ≡ true = ap (has d) (sym neg) ∙ has_from_contains d l m in
        let other : has d (positive_of l.var) ≡ false = false_from_ne_true (has d (positive_of l.var))
        (λ t. distinct_consistent d distinct (positive_of l.var) t h) in
        let g : has c (negative_of l.var) ≡ true = test_negative (has c (positive_of l.var)) (has c (negative_of l.var)) (has d (positive_of l.var))
        (has d (negative_of l.var)) h other (same_digit v c d e l.var within.0 within.1) in
        contains_from_has c l (ap (has c) neg ∙ g)

-- a number in the list of numbers is that of a clause of the list
record IsCodeOf (v : ℕ) (cs : Clauses) (n : ℕ) : Type 0 where
  at : ℕ
  within : at < length cs
  is : n ≡ code v (get_or cs at [])

code_in : (v : ℕ) (cs : Clauses) (n : ℕ) → list_any (eqb n) (map (code v) cs) ≡ true → IsCodeOf v cs n
code_in v cs n h =
    let some : Any (λ m. eqb n m ≡ true) (map (code v) cs) = Any-from_list_any (eqb n) (map (code v) cs) h in
    let low : some.0 < length cs = omega (arith, some.2, length-map cs (code v)) in
    record {
      at = some.0;
      within = low;
      is = equal n some.1 some.4 ∙ sym some.3 ∙ get_or-map (code v) cs some.0 [] some.1 low;
    }
  where
    equal : (a b : ℕ) → eqb a b ≡ true → a ≡ b
    equal a b t = elim (eqb_tells a b) [ inl e ↦ e.1 | inr e ↦ cc (t, e.0) ]

-- clauses of which no two have one number
pub record Few (v : ℕ) (cs : Clauses) : Type 0 where
  pub codes : IsDistinct eqb (map (code v) cs)
  pub there : All (AreThere v) cs

distinct_left : (xs ys : Clauses) → AllDistinct (xs ++ ys) → AllDistinct xs
distinct_left [] ys h = tt
distinct_left (x ∷ xs) ys h = (h.0, distinct_left xs ys h.1)

few_push : (v : ℕ) (cs clauses : Clauses) (c : List Literal) → Few v cs → ((d : List Literal) → Contains cs d → Contains clauses d) → AllDistinct cs →
    AreThere v c → IsNewClause clauses c → Few v (cs ++ c ∷ [])
few_push v cs clauses c few among distinct there fresh = record {
  codes = subst (λ (ns : List ℕ). IsDistinct eqb ns) (sym (map-append (code v) cs (c ∷ [])))
      (IsDistinct-push nat_eq_equiv (map (code v) cs) (code v c) few.codes (false_from_ne_true (list_any (eqb (code v c)) (map (code v) cs)) (λ h.
      let of = code_in v cs (code v c) h in
      let d = get_or cs of.at [] in
      new_includes_nothing clauses c d fresh (among d (Contains-get_or cs of.at [] of.within))
      (same_includes v c d (distinct_at cs of.at distinct) (few.there of.at [] of.within) of.is))));
  there = All-push (AreThere v) cs c few.there there;
}

-- a Learnt clause is among those that are added
by_kind : (rest more : Clauses) (d : List Literal) → (Contains rest d → Contains more d) → (k : LogLine) → Contains (learnt k) d ⊎ Contains rest d →
    Contains (added k ++ more) d
by_kind rest more d f k (inr h) = Contains-append_right (added k) more d (f h)
by_kind rest more d f (Learnt c) (inl h) = Contains-append_left (c ∷ []) more d h
by_kind rest more d f (Formula c) (inl h) = absurd (let lt = h.1 in omega (arith, lt))
by_kind rest more d f (Bound criterion k x) (inl h) = absurd (let lt = h.1 in omega (arith, lt))
by_kind rest more d f (Query c) (inl h) = absurd (let lt = h.1 in omega (arith, lt))
by_kind rest more d f (Refuted c) (inl h) = absurd (let lt = h.1 in omega (arith, lt))
by_kind rest more d f Model (inl h) = absurd (let lt = h.1 in omega (arith, lt))

learnt_added : (lines : Lines) (d : List Literal) → Contains (flat_map learnt lines) d → Contains (flat_map added lines) d
learnt_added [] d m = m
learnt_added (line ∷ lines) d m =
    subst (λ (cs : Clauses). Contains cs d) (sym (flat_map-cons added line lines))
    (by_kind (flat_map learnt lines) (flat_map added lines) d (λ h. learnt_added lines d h) line
    (Contains-append_cases (learnt line) (flat_map learnt lines) d (subst (λ (cs : Clauses). Contains cs d) (flat_map-cons learnt line lines) m)))

-- one line more
few_more : (v : ℕ) (lines : Lines) (line : LogLine) → (facts_of lines).greatest ≤ v → IsWellFormed line → Stands lines line →
    AllDistinct (flat_map learnt lines) → Few v (flat_map learnt lines) → Few v (flat_map learnt lines ++ learnt line)
few_more v lines (Learnt c) le formed s distinct few =
    few_push v (flat_map learnt lines) (flat_map added lines) c few (learnt_added lines) distinct
    (there_below LAST_VAR v c formed.0 (λ i d within. let low = s.named i d within in omega (arith, low, le))) s.says_more
few_more v lines (Formula c) le formed s distinct few = rw (append-nil (flat_map learnt lines)) few
few_more v lines (Bound criterion k x) le formed s distinct few = rw (append-nil (flat_map learnt lines)) few
few_more v lines (Query c) le formed s distinct few = rw (append-nil (flat_map learnt lines)) few
few_more v lines (Refuted c) le formed s distinct few = rw (append-nil (flat_map learnt lines)) few
few_more v lines Model le formed s distinct few = rw (append-nil (flat_map learnt lines)) few

few_none : (v : ℕ) → Few v []
unfolding IsDistinct
few_none v = record { codes = tt; there = All-nil (AreThere v) }

few_at : (lines : Lines) (n : ℕ) → n ≤ length lines → AreWellFormed lines → AllDistinct (flat_map learnt lines) → Derives lines →
    Few (facts_of lines).greatest (flat_map learnt (take n lines))
few_at lines zero le formed distinct d = few_none (facts_of lines).greatest
few_at lines (suc n) le formed distinct d =
    let low : n < length lines = omega arith in
    let line = get_or lines n Model in
    let front = take n lines in
    let v = (facts_of lines).greatest in
    let before = few_at lines n (omega arith) formed distinct d in
    let stands : Stands front line = d n line (slice_get-get_or lines n Model low) in
    let well : IsWellFormed line = All-from_recursion IsWellFormed lines formed n Model low in
    let whole : front ++ drop n lines ≡ lines = take-append-drop n lines in
    let cut : flat_map learnt front ++ flat_map learnt (drop n lines) ≡ flat_map learnt lines = sym (flat_map-append learnt front (drop n lines))
    ∙ ap (flat_map learnt) whole in
    let once : AllDistinct (flat_map learnt front) = distinct_left (flat_map learnt front) (flat_map learnt (drop n lines))
    (subst (λ (cs : Clauses). AllDistinct cs) (sym cut) distinct) in
    let given_cut : flat_map given front ++ flat_map given (drop n lines) ≡ flat_map given lines = sym (flat_map-append given front (drop n lines))
    ∙ ap (flat_map given) whole in
    let most : (facts_of front).greatest ≤ v = omega (
      arith,
      greatest_var-append (flat_map given front) (flat_map given (drop n lines)),
      ap greatest_var
          given_cut,
    ) in
    let next : take (suc n) lines ≡ front ++ line ∷ [] = let more : suc n ≡ n + 1 = omega arith in ap (λ k. take k lines) more ∙ take_more lines n Model low in
    subst (λ (cs : Clauses). Few v cs) (sym (ap (flat_map learnt) next ∙ flat_map_last learnt front line)) (few_more v front line most well stands once before)

pub learnt_few : (lines : Lines) → AreWellFormed lines → AllDistinct (flat_map learnt lines) → Derives lines →
    length (flat_map learnt lines) ≤ 3 ^ (facts_of lines).greatest
learnt_few lines formed distinct d =
    let v = (facts_of lines).greatest in
    let cs = flat_map learnt lines in
    let few : Few v cs = subst (λ (ls : Lines). Few v (flat_map learnt ls)) (take_all (length lines) lines (omega arith))
    (few_at lines (length lines) (omega arith) formed distinct d) in
    let short = length-le_from_distinct_below (map (code v) cs) (3 ^ v) few.codes
    (λ q h. let of = code_in v cs q h in let low = code_small v (get_or cs of.at []) in omega (arith, of.is, low)) in
    omega (arith, short, length-map cs (code v))
