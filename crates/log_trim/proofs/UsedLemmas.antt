-- Which clauses later lines rest on, line by line from the last one back.
use Rattle.std.proofs.Common.{◌≡◌, ℕ, ◌+◌, ◌<◌, ◌≤◌, Bool, true, false, zero, suc, Some, List, [], ◌∷◌, ◌++◌, length, take, drop, drop-cons, get_or, set}
use Rattle.std.proofs.Common.{replicate, refl, sym, ◌∙◌, ap, subst, inl, inr, arith, length-set, length-append, append-nil}
use Rattle.std.specs.Prelude.{All, Contains, slice_get, flat_map}
use Rattle.std.proofs.lemmas.Option.{slice_get_within, get_or_from_slice_get}
use Rattle.std.proofs.lemmas.Bool.{both_ways}
use Rattle.std.proofs.lemmas.Bool.Decides.{eqb_tells}
use Rattle.std.proofs.lemmas.Grind.{get_or-set_at}
use Rattle.std.proofs.lemmas.List.{take_more, get_or-set_other}
use Rattle.std.proofs.lemmas.List.Concat.{flat_map-cons}
use Rattle.std.proofs.lemmas.List.Elements.{All-nil, All-push, All-contains, All-weaker, Contains-push, Contains-append_left}
use Rattle.cnf_core.specs.Lit.{Literal}
use Rattle.cnf_core.specs.Clause.{Clauses}
use Rattle.hint_log.specs.declared.hint_line.HintLine.{HintLine}
use Rattle.hint_log.specs.declared.hint_line.HintLine.TheVariants.{Learnt, Refuted}
use Rattle.hint_log.specs.Hint.{hints_of}
use Rattle.hint_log.specs.Checked.{clauses_learnt}
use Rattle.hint_log.specs.HintedLines.{HintLines, AreGood}
use Rattle.log_trim.specs.Shortened.{is_used, learnt_among, AreBelow, IsMarkedFrom, Uses}
use Rattle.log_trim.proofs.ShortenLemmas.{names_more, marked_more, good_below}

too_high : (hints : List ℕ) (n x : ℕ) → All (λ m. m ≤ n) hints → Contains hints x → n < x → ⊥
too_high hints n x below among high = let le : x ≤ n = All-contains (λ m. m ≤ n) hints x below among in omega (arith, le, high)

-- one line further back
pub marked_learnt : (old new : List Bool) (n : ℕ) (lits : List Literal) (hints : List ℕ) (rest : HintLines) → All (λ m. m ≤ n) hints →
    is_used old (n + 1) ≡ true → Uses hints old new → IsMarkedFrom old (n + 1) rest → IsMarkedFrom new n (Learnt lits hints ∷ rest)
marked_learnt old new n lits hints rest below mark u h = record {
  marked = (
    (λ _. (u.each, names_more old new u.keeps (n + 1) (n + 1) rest (h.named (n + 1) (omega arith) mark))),
    marked_more old new u.keeps n (n + 1) rest (omega arith) (λ x high m. elim (u.back x m) [
      | inl was ↦ was
      | inr among ↦ absurd (too_high hints n x below among high)
    ]) h.marked,
  );
  named = λ m le now. elim (u.back m now) [
    | inl was ↦ inr (names_more old new u.keeps m (n + 1) rest (h.named m (omega (arith, le)) was))
    | inr among ↦ inl (u.keeps (n + 1) mark, among)
  ];
}

pub marked_refuted : (old new : List Bool) (n : ℕ) (lits : List Literal) (hints : List ℕ) (rest : HintLines) → All (λ m. m ≤ n) hints → Uses hints old new →
    IsMarkedFrom old n rest → IsMarkedFrom new n (Refuted lits hints ∷ rest)
marked_refuted old new n lits hints rest below u h = record {
  marked = (
    u.each,
    marked_more old new u.keeps n n rest (omega arith) (λ x high m. elim (u.back x m) [
      | inl was ↦ was
      | inr among ↦ absurd (too_high hints n x below among high)
    ]) h.marked,
  );
  named = λ m le now. elim (u.back m now) [
    | inl was ↦ inr (names_more old new u.keeps m n rest (h.named m le was))
    | inr among ↦ inl among
  ];
}

-- the lines from a place on
pub below_at : (list : HintLines) (i from n : ℕ) → n + learnt_among (drop i list) ≡ from + learnt_among list → AreBelow from list → AreBelow n (drop i list)
below_at list zero from n e h = subst (λ m. AreBelow m list) (omega (arith, e)) h
below_at [] (suc i) from n e h = tt
below_at (Learnt lits hints ∷ rest) (suc i) from n e h = below_at rest i (from + 1) n (omega (arith, e)) h.1
below_at (Refuted lits hints ∷ rest) (suc i) from n e h = below_at rest i from n e h.1

pub count_cons : (line : HintLine) (rest : HintLines) → learnt_among (line ∷ rest) ≡ learnt_among (line ∷ []) + learnt_among rest
count_cons (Learnt lits hints) rest = omega arith
count_cons (Refuted lits hints) rest = omega arith

-- hinted lines whose clauses are good
pub below_good : (clauses : Clauses) (n : ℕ) (list : HintLines) → n ≡ length clauses → AreGood clauses list → AreBelow n list
below_good clauses n [] e h = tt
below_good clauses n (Learnt lits hints ∷ rest) e h = (
  subst (λ k. All (λ m. m ≤ k) hints) (sym e) (good_below clauses lits hints h.0),
  below_good (clauses ++ lits ∷ []) (n + 1) rest (omega (arith, e, length-append clauses (lits ∷ []))) h.1,
)
below_good clauses n (Refuted lits hints ∷ rest) e h = (
  subst (λ k. All (λ m. m ≤ k) hints) (sym e) (good_below clauses lits hints h.0),
  below_good (clauses ++ []) n rest (e ∙ ap (λ (cs : Clauses). length cs) (sym (append-nil clauses))) h.1,
)

pub count_is : (list : HintLines) → length (flat_map clauses_learnt list) ≡ learnt_among list
count_is [] = refl
count_is (Learnt lits hints ∷ rest) =
    let is : length (flat_map clauses_learnt (Learnt lits hints ∷ rest)) ≡ suc (length (flat_map clauses_learnt rest)) = ap (λ (cs : Clauses). length cs)
    (flat_map-cons clauses_learnt (Learnt lits hints) rest) in
    let on = count_is rest in
    omega (arith, is, on)
count_is (Refuted lits hints ∷ rest) = ap (λ (cs : Clauses). length cs) (flat_map-cons clauses_learnt (Refuted lits hints) rest) ∙ count_is rest

-- a line, in the form in which code has it
pub line_used : (line : HintLine) (lits : List Literal) (hints : List ℕ) (old new : List Bool) (n : ℕ) (rest : HintLines) → line ≡ Learnt lits hints →
    All (λ m. m ≤ n) (hints_of line) → is_used old (n + 1) ≡ true → Uses hints old new → IsMarkedFrom old (n + learnt_among (line ∷ [])) rest →
    IsMarkedFrom new n (line ∷ rest)
line_used line lits hints old new n rest e below mark u h =
    let go : All (λ m. m ≤ n) hints → IsMarkedFrom old (n + 1) rest →
    IsMarkedFrom new n (Learnt lits hints ∷ rest) = λ b k. marked_learnt old new n lits hints rest b mark u k in
    subst (λ (k : HintLine). All (λ m. m ≤ n) (hints_of k) → IsMarkedFrom old (n + learnt_among (k ∷ [])) rest → IsMarkedFrom new n (k ∷ rest)) (sym e) go below
    h

pub line_refuted : (line : HintLine) (lits : List Literal) (hints : List ℕ) (old new : List Bool) (n : ℕ) (rest : HintLines) → line ≡ Refuted lits hints →
    All (λ m. m ≤ n) (hints_of line) → Uses hints old new → IsMarkedFrom old (n + learnt_among (line ∷ [])) rest → IsMarkedFrom new n (line ∷ rest)
line_refuted line lits hints old new n rest e below u h =
    let same : n + 0 ≡ n = omega arith in
    let go : All (λ m. m ≤ n) hints → IsMarkedFrom old (n + 0) rest →
    IsMarkedFrom new n (Refuted lits hints ∷ rest) = λ b k. marked_refuted old new n lits hints rest b u (subst (λ j. IsMarkedFrom old j rest) same k) in
    subst (λ (k : HintLine). All (λ m. m ≤ n) (hints_of k) → IsMarkedFrom old (n + learnt_among (k ∷ [])) rest → IsMarkedFrom new n (k ∷ rest)) (sym e) go below
    h

-- the lines from one place back
pub drop_here : (list : HintLines) (j i : ℕ) (line : HintLine) → i ≡ suc j → slice_get list j ≡ Some line → drop j list ≡ line ∷ drop i list
drop_here list j i line e at =
    let lt = slice_get_within list j line at in
    drop-cons list j line lt ∙ ap (λ (k : HintLine). k ∷ drop (suc j) list) (get_or_from_slice_get list j line line at) ∙ ap (λ m. line ∷ drop m list) (sym e)

count_drop : (list : HintLines) (j : ℕ) → learnt_among (drop j list) ≤ learnt_among list
count_drop list zero = omega arith
count_drop [] (suc j) = omega arith
count_drop (Learnt lits hints ∷ rest) (suc j) = let le = count_drop rest j in omega (arith, le)
count_drop (Refuted lits hints ∷ rest) (suc j) = count_drop rest j

count_here : (list : HintLines) (j i : ℕ) (line : HintLine) → i ≡ suc j → slice_get list j ≡ Some line →
    learnt_among (drop j list) ≡ learnt_among (line ∷ []) + learnt_among (drop i list)
count_here list j i line e at = ap learnt_among (drop_here list j i line e at) ∙ count_cons line (drop i list)

pub count_within : (list : HintLines) (j i : ℕ) (line : HintLine) (n given total : ℕ) → i ≡ suc j → slice_get list j ≡ Some line →
    n + learnt_among (drop i list) ≡ total → total ≡ given + learnt_among list → learnt_among (line ∷ []) ≤ n
count_within list j i line n given total e at is all = let here = count_here list j i line e at in let le = count_drop list j in omega
    (arith, here, le, is, all)

pub count_before : (list : HintLines) (j i : ℕ) (line : HintLine) (b n total : ℕ) → i ≡ suc j → slice_get list j ≡ Some line →
    n + learnt_among (drop i list) ≡ total → b + learnt_among (line ∷ []) ≡ n → b + learnt_among (drop j list) ≡ total
count_before list j i line b n total e at is step = let here = count_here list j i line e at in omega (arith, here, is, step)

below_first : (n : ℕ) (line : HintLine) (rest : HintLines) → AreBelow n (line ∷ rest) → All (λ m. m ≤ n) (hints_of line)
below_first n (Learnt lits hints) rest h = h.0
below_first n (Refuted lits hints) rest h = h.0

pub below_here : (list : HintLines) (j i : ℕ) (line : HintLine) (b given : ℕ) → i ≡ suc j → slice_get list j ≡ Some line →
    b + learnt_among (drop j list) ≡ given + learnt_among list → AreBelow given list → All (λ m. m ≤ b) (hints_of line)
below_here list j i line b given e at is h = below_first b line (drop i list) (subst (λ (ls : HintLines). AreBelow b ls) (drop_here list j i line e at)
    (below_at list j given b is h))

-- a line that stands at a place, in the form in which a loop over the lines has it
pub drop_at : (list : HintLines) (j i : ℕ) (line : HintLine) → i ≡ suc j → j < length list → line ≡ get_or list j line → drop j list ≡ line ∷ drop i list
drop_at list j i line e lt at = drop-cons list j line lt ∙ ap (λ (k : HintLine). k ∷ drop (suc j) list) (sym at) ∙ ap (λ m. line ∷ drop m list) (sym e)

pub count_at : (list : HintLines) (j i : ℕ) (line : HintLine) → i ≡ suc j → j < length list → line ≡ get_or list j line →
    learnt_among (drop j list) ≡ learnt_among (line ∷ []) + learnt_among (drop i list)
count_at list j i line e lt at = ap learnt_among (drop_at list j i line e lt at) ∙ count_cons line (drop i list)

pub learnt_one : (line : HintLine) (lits : List Literal) (hints : List ℕ) → line ≡ Learnt lits hints → learnt_among (line ∷ []) ≡ 1
learnt_one line lits hints e = ap (λ (k : HintLine). learnt_among (k ∷ [])) e
