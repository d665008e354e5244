-- Numbers that are put in order stand twice exactly where two neighbours are equal.
use Rattle.std.proofs.Common.{◌≡◌, ◌≢◌, ℕ, ◌+◌, ◌<◌, ◌↔◌, Bool, true, false, IsTrue, List, length, get_or, ltb, AllPairs, map, subst, refl, sym, ◌∙◌, ap}
use Rattle.std.proofs.Common.{arith, inl, inr}
use Rattle.std.specs.List.{swap, IsAllAdjacentAnswer}
use Rattle.std.specs.List.Sorted.{IsPermutation, IsSorted, IsStrictlyIncreasing}
use Rattle.std.specs.Ordering.{nat_cmp}
use Rattle.std.proofs.lemmas.Bool.Decides.{eqb_tells}
use Rattle.std.proofs.lemmas.Bool.{cases_lt, ltb-true, ltb-false}
use Rattle.std.proofs.lemmas.List.{get_or_default, get_or-map, length-map}
use Rattle.std.proofs.lemmas.List.Edits.{swapped_from_swap, length-swap}
use Rattle.std.proofs.lemmas.List.Kept.{AllPairs-from_increasing}
use Rattle.std.proofs.lemmas.List.Sorted.{IsPermutation-keeps, IsPermutation-sym, IsNonDecreasingBy-from_sort}
use Rattle.cnf_core.specs.Lit.{Literal, literal}
use Rattle.cnf_core.specs.Clause.{AreDistinct}
use Rattle.cnf_core.proofs.QuantifierLemmas.{pairs_from_distinct, distinct_from_pairs}

-- no number stands at two places
abbrev StandOnce : List ℕ → Type 0
StandOnce xs = (a b : ℕ) → a < length xs → b < length xs → get_or xs a 0 ≡ get_or xs b 0 → a ≡ b

once_from_pairs : (xs : List ℕ) → AllPairs (λ x y. x ≢ y) xs → StandOnce xs
once_from_pairs xs h a b la lb e =
    elim (cases_lt a b) [
      | inl lt ↦ absurd (h a b 0 lt lb e)
      | inr ge ↦ elim (cases_lt b a) [
        | inl lt ↦ absurd (h b a 0 lt la (sym e))
        | inr le ↦ omega arith
      ]
    ]

pairs_from_once : (xs : List ℕ) → StandOnce xs → AllPairs (λ x y. x ≢ y) xs
pairs_from_once xs h i j d lt len e =
    let li : i < length xs = omega arith in
    let zi = get_or_default xs i 0 d li in
    let zj = get_or_default xs j 0 d len in
    let same = h i j li len (zi ∙ e ∙ sym zj) in
    omega arith

-- where the number at a place stood before two places were swapped
record Stood (xs ys : List ℕ) (i j a : ℕ) : Type 0 where
  at : ℕ
  within : at < length xs
  same : get_or ys a 0 ≡ get_or xs at 0
  first : a ≡ i → at ≡ j
  second : a ≡ j → at ≡ i
  other : a ≢ i → a ≢ j → at ≡ a

stood : (xs : List ℕ) (i j a : ℕ) → i < length xs → j < length xs → a < length xs → Stood xs (swap xs i j) i j a
stood xs i j a li lj la =
    let s = swapped_from_swap xs (swap xs i j) i j 0 li lj refl in
    elim (eqb_tells a i) [
      | inl is ↦ record {
        at = j;
        within = lj;
        same = ap (λ k. get_or (swap xs i j) k 0) is.1 ∙ s.0;
        first = λ e. refl;
        second = λ e. sym e ∙ is.1;
        other = λ n. absurd (n is.1);
      }
      | inr not ↦ elim (eqb_tells a j) [
        | inl is ↦ record {
          at = i;
          within = li;
          same = ap (λ k. get_or (swap xs i j) k 0) is.1 ∙ s.1;
          first = λ e. absurd (not.1 e);
          second = λ e. refl;
          other = λ m n. absurd
              (n is.1);
        }
        | inr neither ↦ record {
          at = a;
          within = la;
          same = s.2 a not.1 neither.1;
          first = λ e. absurd (not.1 e);
          second = λ e. absurd (neither.1 e);
          other = λ m n. refl;
        }
      ]
    ]

swap_keeps : (xs : List ℕ) (i j : ℕ) → i < length xs → j < length xs → StandOnce xs → StandOnce (swap xs i j)
swap_keeps xs i j li lj h a b la lb e =
    let len = length-swap xs i j in
    let p = stood xs i j a li lj (omega arith) in
    let q = stood xs i j b li lj (omega arith) in
    let same : p.at ≡ q.at = h p.at q.at p.within q.within (sym p.same ∙ e ∙ q.same) in
    elim (eqb_tells a b) [ inl is ↦ is.1 | inr not ↦ absurd (apart a b i j p.at q.at not.1 p.first p.second p.other q.first q.second q.other same) ]
  where
    apart : (a b i j m n : ℕ) → a ≢ b → (a ≡ i → m ≡ j) → (a ≡ j → m ≡ i) → (a ≢ i → a ≢ j → m ≡ a) → (b ≡ i → n ≡ j) → (b ≡ j → n ≡ i) →
        (b ≢ i → b ≢ j → n ≡ b) → m ≡ n → ⊥
    apart a b i j m n ne f g h p q r e =
        elim (eqb_tells a i) [
          | inl ai ↦ elim (eqb_tells b j) [
            | inl bj ↦ let x = f ai.1 in let y = q bj.1 in let z = ai.1 in let w = bj.1 in omega arith
            | inr nbj ↦ elim (eqb_tells b i) [
              | inl bi ↦ absurd (ne (ai.1 ∙ sym bi.1))
              | inr nbi ↦ let x = f ai.1 in let y = r nbi.1 nbj.1 in absurd (nbj.1 (sym y ∙ sym e ∙ x))
            ]
          ]
          | inr nai ↦ elim (eqb_tells a j) [
            | inl aj ↦ elim (eqb_tells b i) [
              | inl bi ↦ let x = g aj.1 in let y = p bi.1 in let z = aj.1 in let w = bi.1 in omega arith
              | inr nbi ↦ elim (eqb_tells b j) [
                | inl bj ↦ absurd (ne (aj.1 ∙ sym bj.1))
                | inr nbj ↦ let x = g aj.1 in let y = r nbi.1 nbj.1 in absurd (nbi.1 (sym y ∙ sym e ∙ x))
              ]
            ]
            | inr naj ↦ elim (eqb_tells b i) [
              | inl bi ↦ let x = h nai.1 naj.1 in let y = p bi.1 in absurd (naj.1 (sym x ∙ e ∙ y))
              | inr nbi ↦ elim (eqb_tells b j) [
                | inl bj ↦ let x = h nai.1 naj.1 in let y = q bj.1 in absurd (nai.1 (sym x ∙ e ∙ y))
                | inr nbj ↦ let x = h nai.1 naj.1 in let y = r nbi.1 nbj.1 in absurd (ne (sym x ∙ e ∙ y))
              ]
            ]
          ]
        ]

permuted : (xs ys : List ℕ) → IsPermutation xs ys → AllPairs (λ x y. x ≢ y) xs → AllPairs (λ x y. x ≢ y) ys
permuted xs ys p h = pairs_from_once ys (IsPermutation-keeps xs StandOnce (once_from_pairs xs h) swap_keeps ys p)

pub distinct_answer : (old new : List ℕ) (r : Bool) → IsPermutation old new → IsSorted nat_cmp new → IsAllAdjacentAnswer (λ x y b. b ≡ ltb x y) new r →
    IsTrue r ↔ AllPairs (λ x y. x ≢ y) old
distinct_answer old new true p s h =
    let up : IsStrictlyIncreasing new = λ k lt. let t = h k 0 lt in omega (arith, ltb-true _ _ (sym t)) in
    let below = AllPairs-from_increasing new up in
    let apart : AllPairs (λ x y. x ≢ y) new = λ i j d lt len. let l = below i j d lt len in omega arith in
    (λ t. permuted new old (IsPermutation-sym old new p) apart, λ t. refl)
distinct_answer old new false p s h =
    let k = h.0 in
    let up = IsNonDecreasingBy-from_sort (λ x. x) new s k (k + 1) 0 (omega arith) h.1 in
    let not = h.2 0 in
    (λ t. cc, λ t. absurd (permuted old new p t k (k + 1) 0 (omega arith) h.1 (omega (arith, up, ltb-false _ _ (sym not)))))

-- literals of distinct variables
pairs_of_variables : (ls : List Literal) → AreDistinct ls → AllPairs (λ x y. x ≢ y) (map (λ l. l.var) ls)
pairs_of_variables ls h = λ i j d lt len e.
    let var : Literal → ℕ = λ l. l.var in
    let l = literal d true in
    let count = length-map ls var in
    let i_within : i < length ls = omega arith in
    let j_within : j < length ls = omega arith in
    pairs_from_distinct ls h i j l lt j_within (sym (get_or-map var ls i l d i_within) ∙ e ∙ get_or-map var ls j l d j_within)

distinct_from_variables : (ls : List Literal) → AllPairs (λ x y. x ≢ y) (map (λ l. l.var) ls) → AreDistinct ls
distinct_from_variables ls h = distinct_from_pairs ls (λ i j l lt len e.
    let var : Literal → ℕ = λ k. k.var in
    let count = length-map ls var in
    let i_within : i < length ls = omega arith in
    h i j 0 lt (omega arith) (get_or-map var ls i l 0 i_within ∙ e ∙ sym (get_or-map var ls j l 0 len)))

pub distinct_variables : (ls : List Literal) (numbers : List ℕ) (r : Bool) → numbers ≡ map (λ l. l.var) ls → IsTrue r ↔ AllPairs (λ x y. x ≢ y) numbers →
    IsTrue r ↔ AreDistinct ls
distinct_variables ls numbers r e h =
    let P : List ℕ → Type 0 = AllPairs (λ x y. x ≢ y) in
    (λ t. distinct_from_variables ls (subst P e (h.0 t)), λ d. h.1 (subst P (sym e) (pairs_of_variables ls d)))
