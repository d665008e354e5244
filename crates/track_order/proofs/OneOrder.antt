-- A graph has one order or one least contradiction.
use Rattle.std.proofs.Common.{◌≡◌, ◌⊎◌, inl, inr, ℕ, ◌<◌, Bool, true, false, List, [], length, get_or, Result, sym, ◌∙◌, ap, subst, arith}
use Rattle.std.specs.Prelude.{◌↔◌, IfOk, IfErr}
use Rattle.std.proofs.lemmas.Bool.{cases_order}
use Rattle.std.proofs.lemmas.List.{ext_get_or}
use Rattle.std.proofs.lemmas.List.Elements.{All-get_or}
use Rattle.plan_core.specs.Exactly.{AnswersExactly}
use Rattle.plan_core.specs.Graph.{Graph}
use Rattle.plan_core.proofs.ExactlyLemmas.{answers_exactly}
use Rattle.plan_core.proofs.TruthFacts.{same_when}
use Rattle.track_order.specs.declared.fault.OrderFault.{OrderFault}
use Rattle.track_order.specs.declared.fault.OrderFault.TheVariants.{Contradicts, Memory}
use Rattle.track_order.specs.Tables.{entry, IsTable}
use Rattle.track_order.specs.Order.{EdgeOrder, edge_order, IsOrderOf, IsFirstContradiction}
use Rattle.track_order.specs.Causes.{IsOrderFault}

same_rows : (n : ℕ) (xs ys : List (List Bool)) → IsTable n xs → IsTable n ys → ((e f : ℕ) → e < n → f < n → entry xs e f ≡ entry ys e f) → xs ≡ ys
same_rows n xs ys x y same =
    ext_get_or [] xs ys (x.high ∙ sym y.high)
    (λ e within.
    let high = x.high in
    let here : e < n = omega (arith, within, high) in
    let wide : length (get_or xs e []) ≡ n = All-get_or (λ (row : List Bool). length row ≡ n) xs e [] within x.wide in
    let as_wide : length (get_or ys e []) ≡ n = (let h = y.high in All-get_or (λ (row : List Bool). length row ≡ n) ys e [] (omega (arith, here, h)) y.wide) in
    ext_get_or false (get_or xs e []) (get_or ys e []) (wide ∙ sym as_wide) (λ f there. same e f here (omega (arith, there, wide))))

-- two tests that both say whether a fact holds
same_says : {P : Type 0} (p q : Bool) → (p ≡ true) ↔ P → (q ≡ true) ↔ P → p ≡ q
same_says p q by_p by_q = same_when p q (λ is. by_q.1 (by_p.0 is)) (λ is. by_p.1 (by_q.0 is))

same_order : (o p : EdgeOrder) → o.edges ≡ p.edges → o.above_rows ≡ p.above_rows → o.overlap_rows ≡ p.overlap_rows → o ≡ p
same_order o p edges above overlap =
    ap (λ (n : ℕ). edge_order n o.above_rows o.overlap_rows) edges
    ∙ ap (λ (rows : List (List Bool)). edge_order p.edges rows o.overlap_rows) above
    ∙ ap (λ (rows : List (List Bool)). edge_order p.edges p.above_rows rows) overlap

pub one_order : (g : Graph) (o p : EdgeOrder) → IsOrderOf g o → IsOrderOf g p → o ≡ p
one_order g o p is also =
    let count : p.edges ≡ o.edges = also.edges ∙ sym is.edges in
    let edges = is.edges in
    same_order o p (sym count)
    (same_rows o.edges o.above_rows p.above_rows is.tables.above (subst (λ (n : ℕ). IsTable n p.above_rows) count also.tables.above)
    (λ e f first second. same_says (entry o.above_rows e f) (entry p.above_rows e f) (is.above e f (omega (arith, edges, first)) (omega (arith, edges, second)))
    (also.above e f (omega (arith, edges, first)) (omega (arith, edges, second)))))
    (same_rows o.edges o.overlap_rows p.overlap_rows is.tables.overlap (subst (λ (n : ℕ). IsTable n p.overlap_rows) count also.tables.overlap)
    (λ e f first second. same_says (entry o.overlap_rows e f) (entry p.overlap_rows e f)
    (is.overlap e f (omega (arith, edges, first)) (omega (arith, edges, second)))
    (also.overlap e f (omega (arith, edges, first)) (omega (arith, edges, second)))))

one_contradiction : (g : Graph) (e f a b : ℕ) → IsFirstContradiction g e f → IsFirstContradiction g a b → (e ≡ a) × (f ≡ b)
one_contradiction g e f a b is also = elim (cases_order e a) [
  | inr (inl less) ↦ absurd (also.first e f is.rising is.there (inl less) is.both)
  | inr (inr more) ↦ absurd (is.first a b also.rising also.there (inl more) also.both)
  | inl same ↦ (
    same,
    elim (cases_order f b) [
      | inl one ↦ one
      | inr (inl less) ↦ absurd (also.first e f is.rising is.there (inr (same, less)) is.both)
      | inr (inr more) ↦ absurd (is.first a b also.rising also.there (inr (sym same, more)) also.both)
    ],
  )
]

pub one_fault : (g : Graph) (x y : OrderFault) → IsOrderFault g x → IsOrderFault g y → x ≡ y
one_fault g (Contradicts e f) (Contradicts a b) is also =
    let one = one_contradiction g e.0 f.0 a.0 b.0 is also in
    let told : ℕ → ℕ → OrderFault = λ m n. Contradicts (record { 0 = m }) (record { 0 = n }) in
    ap (λ (m : ℕ). told m f.0) one.0 ∙ ap (told a.0) one.1
one_fault g Memory y is also = absurd is
one_fault g x Memory is also = absurd also

pub never_both : (g : Graph) (o : EdgeOrder) (x : OrderFault) → IsOrderOf g o → IsOrderFault g x → ⊥
never_both g o (Contradicts e f) is fault =
    let rising = fault.rising in
    let there = fault.there in
    is.one_way e.0 f.0 (omega (arith, rising, there)) there fault.both
never_both g o Memory is fault = fault

-- of a result that is the order, a fault or want of memory
pub order_exactly : (g : Graph) (result : Result EdgeOrder OrderFault) → IfOk result (IsOrderOf g) → IfErr result (λ x. (x ≡ Memory) ⊎ IsOrderFault g x) →
    AnswersExactly result Memory (IsOrderOf g) (IsOrderFault g)
order_exactly g result value fault = answers_exactly result Memory (IsOrderOf g) (IsOrderFault g) value fault (one_order g) (one_fault g) (never_both g)
