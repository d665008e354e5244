-- The selecting variables of laws, one behind another.
use Rattle.std.proofs.Common.{◌≡◌, ◌<◌, ℕ, ◌+◌, List, [], ◌∷◌, ◌++◌, length, get_or, map, drop, sym, ◌∙◌, ap, arith, append_assoc}
use Rattle.law_core.specs.declared.parties.Law.{Law}
use Rattle.law_core.specs.Law.{instance_of}
use Rattle.law_core.specs.Choices.{choice_size, choices_size, selectors}
use Rattle.law_core.proofs.ChoiceCode.{next_is, law_there}

law_next : (laws : List Law) (k : ℕ) (d : Law) → k < length laws →
    drop k (map instance_of laws) ≡ instance_of (get_or laws k d) ∷ drop (k + 1) (map instance_of laws)
law_next laws k d lt = let t = law_there laws k d lt in next_is (map instance_of laws) k (instance_of (get_or laws k d)) t.0 t.1

pub size_next : (laws : List Law) (k : ℕ) (d : Law) (sum size total : ℕ) → k < length laws → size ≡ choice_size (instance_of (get_or laws k d)) →
    sum + choices_size (drop k (map instance_of laws)) ≡ total → (sum + size) + choices_size (drop (k + 1) (map instance_of laws)) ≡ total
size_next laws k d sum size total lt is before =
    let next : choices_size (drop k (map instance_of laws)) ≡ choice_size (instance_of (get_or laws k d)) + choices_size
    (drop (k + 1) (map instance_of laws)) = ap choices_size (law_next laws k d lt) in
    omega (arith, is, before, next)

pub list_next : (laws : List Law) (k : ℕ) (d : Law) (at size : ℕ) (now new all : List ℕ) → k < length laws →
    size ≡ choice_size (instance_of (get_or laws k d)) → now ++ selectors at (drop k (map instance_of laws)) ≡ all → new ≡ now ++ at ∷ [] →
    new ++ selectors (at + size) (drop (k + 1) (map instance_of laws)) ≡ all
list_next laws k d at size now new all lt is before pushed =
    let rest = selectors (at + size) (drop (k + 1) (map instance_of laws)) in
    let next : selectors at (drop k (map instance_of laws)) ≡ at ∷ rest =
    ap (selectors at) (law_next laws k d lt) ∙ ap (λ n. at ∷ selectors (at + n) (drop (k + 1) (map instance_of laws))) (sym is) in
    ap (λ (xs : List ℕ). xs ++ rest) pushed ∙ append_assoc now (at ∷ []) rest ∙ ap (λ (xs : List ℕ). now ++ xs) (sym next) ∙ before
