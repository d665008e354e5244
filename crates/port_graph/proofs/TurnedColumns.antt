-- Seen from its other end, a station's columns count from the other end.
use Rattle.std.proofs.Common.{◌≡◌, ℕ, ◌-◌, ◌<◌, ℤ, Bool, ◌||◌, List, [], ◌∷◌, length, map, reverse, get_or, refl, sym, ap, ◌∙◌, subst, arith}
use Rattle.std.specs.Prelude.{◌<ℤ◌, neg_ℤ, slice_get, Some, AllPairs}
use Rattle.std.specs.Ordering.{int_eq}
use Rattle.std.proofs.Math.IntN.{neg_ℤ-neg_ℤ}
use Rattle.std.proofs.lemmas.Bool.Decides.{Decides-int_eq}
use Rattle.std.proofs.lemmas.List.{length-map, get_or-map, get_or-reverse, length-reverse}
use Rattle.std.proofs.lemmas.List.Sorted.{IsPermutation-reverse, list_any-IsPermutation}
use Rattle.std.proofs.lemmas.Option.{slice_get_within, slice_get-get_or, get_or_from_slice_get}
use Rattle.plan_core.specs.Graph.{Graph, Node, mileage}
use Rattle.plan_core.proofs.TruthFacts.{same_when}
use Rattle.port_graph.specs.Columns.{mileages, rising, columns_of}
use Rattle.port_graph.specs.Turned.{turned_node, turned_graph}
use Rattle.port_graph.proofs.ColumnLemmas.{rising_pairs}
use Rattle.port_graph.proofs.RisingLemmas.{rises_from_pairs, is_in, rising_rises, is_in-rising, same_rising}
use Rattle.port_graph.proofs.MileLemmas.{neg_less}
use Rattle.port_graph.proofs.TurnedNodes.{node-turned}

back_rises : (xs : List ℤ) → AllPairs (λ (x y : ℤ). x <ℤ y) xs → AllPairs (λ (x y : ℤ). x <ℤ y) (reverse (map neg_ℤ xs))
back_rises xs pairs i j d less within =
    let long : length (map neg_ℤ xs) ≡ length xs = length-map xs neg_ℤ in
    let within' : j < length xs = omega (arith, length-reverse (map neg_ℤ xs)) in
    let first : get_or (reverse (map neg_ℤ xs)) i d ≡ neg_ℤ (get_or xs (length xs - 1 - i) d) =
    get_or-reverse (map neg_ℤ xs) i d (omega arith) ∙ ap (λ (n : ℕ). get_or (map neg_ℤ xs) (n - 1 - i) d) long
    ∙ get_or-map neg_ℤ xs (length xs - 1 - i) d d (omega arith) in
    let second : get_or (reverse (map neg_ℤ xs)) j d ≡ neg_ℤ (get_or xs (length xs - 1 - j) d) =
    get_or-reverse (map neg_ℤ xs) j d (omega arith) ∙ ap (λ (n : ℕ). get_or (map neg_ℤ xs) (n - 1 - j) d) long
    ∙ get_or-map neg_ℤ xs (length xs - 1 - j) d d (omega arith) in
    let below : get_or xs (length xs - 1 - j) d <ℤ get_or xs (length xs - 1 - i) d = pairs (length xs - 1 - j) (length xs - 1 - i) d (omega arith)
    (omega arith) in
    subst (λ (z : ℤ). z <ℤ get_or (reverse (map neg_ℤ xs)) j d) (sym first)
    (subst (λ (z : ℤ). neg_ℤ (get_or xs (length xs - 1 - i) d) <ℤ z) (sym second)
    (neg_less (get_or xs (length xs - 1 - j) d) (get_or xs (length xs - 1 - i) d) below))

same_test : (a b c d : ℤ) → (a ≡ b → c ≡ d) → (c ≡ d → a ≡ b) → int_eq a b ≡ int_eq c d
same_test a b c d f g = same_when (int_eq a b) (int_eq c d) (λ e. (Decides-int_eq c d).1 (f ((Decides-int_eq a b).0 e)))
    (λ e. (Decides-int_eq a b).1 (g ((Decides-int_eq c d).0 e)))

is_in-negated : (q : ℤ) (xs : List ℤ) → is_in q (map neg_ℤ xs) ≡ is_in (neg_ℤ q) xs
is_in-negated q [] = refl
is_in-negated q (x ∷ xs) =
    ap (λ (b : Bool). b || is_in q (map neg_ℤ xs)) (same_test q (neg_ℤ x) (neg_ℤ q) x (λ e. ap neg_ℤ e ∙ neg_ℤ-neg_ℤ x) (λ e. sym (neg_ℤ-neg_ℤ q) ∙ ap neg_ℤ e))
    ∙ ap (λ (b : Bool). int_eq (neg_ℤ q) x || b) (is_in-negated q xs)

rising-negated : (ms : List ℤ) → rising (map neg_ℤ ms) ≡ reverse (map neg_ℤ (rising ms))
rising-negated ms =
    same_rising (rising (map neg_ℤ ms)) (reverse (map neg_ℤ (rising ms))) (rising_rises (map neg_ℤ ms))
    (rises_from_pairs (reverse (map neg_ℤ (rising ms))) (back_rises (rising ms) (rising_pairs ms)))
    (λ q.
    is_in-rising q (map neg_ℤ ms) ∙ is_in-negated q ms ∙ sym (is_in-rising (neg_ℤ q) ms) ∙ sym (is_in-negated q (rising ms))
    ∙ list_any-IsPermutation (int_eq q) (map neg_ℤ (rising ms)) (reverse (map neg_ℤ (rising ms))) (IsPermutation-reverse (map neg_ℤ (rising ms))))

mileages-turned : (nodes : List Node) → map (λ (n : Node). n.mileage) (map turned_node nodes) ≡ map neg_ℤ (map (λ (n : Node). n.mileage) nodes)
mileages-turned [] = refl
mileages-turned (n ∷ nodes) = ap (λ (ms : List ℤ). neg_ℤ n.mileage ∷ ms) (mileages-turned nodes)

pub columns_of-turned : (g : Graph) → columns_of (turned_graph g) ≡ reverse (map neg_ℤ (columns_of g))
unfolding columns_of
columns_of-turned g = ap rising (mileages-turned g.nodes) ∙ rising-negated (mileages g)

pub opposite_column : (g : Graph) (n i : ℕ) → n < length g.nodes → slice_get (columns_of g) i ≡ Some (mileage g n) →
    slice_get (columns_of (turned_graph g)) (length (columns_of g) - 1 - i) ≡ Some (mileage (turned_graph g) n)
opposite_column g n i within is =
    let cs : List ℤ = columns_of g in
    let d : ℤ = mileage g n in
    let inside : i < length cs = slice_get_within cs i d is in
    let j : ℕ = length cs - 1 - i in
    let long : length (map neg_ℤ cs) ≡ length cs = length-map cs neg_ℤ in
    let long' : length (reverse (map neg_ℤ cs)) ≡ length cs = length-reverse (map neg_ℤ cs) ∙ long in
    let place : length cs - 1 - j ≡ i = omega arith in
    let read : get_or (reverse (map neg_ℤ cs)) j d ≡ neg_ℤ d =
    get_or-reverse (map neg_ℤ cs) j d (omega arith) ∙ ap (λ (n : ℕ). get_or (map neg_ℤ cs) (n - 1 - j) d) long
    ∙ get_or-map neg_ℤ cs (length cs - 1 - j) d d (omega arith) ∙ ap (λ (k : ℕ). neg_ℤ (get_or cs k d)) place
    ∙ ap neg_ℤ (get_or_from_slice_get cs i d d is) in
    ap (λ (l : List ℤ). slice_get l j) (columns_of-turned g) ∙ slice_get-get_or (reverse (map neg_ℤ cs)) j d (omega arith)
    ∙ ap (λ (z : ℤ). Some z) (read ∙ sym (ap (λ (x : Node). x.mileage) (node-turned g n within)))
