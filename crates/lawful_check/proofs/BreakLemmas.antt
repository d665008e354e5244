-- From what each law's search found to the least broken law, or none: one step for each law, in the order in which laws are named.
use Rattle.std.specs.Prelude.{◌≡◌, ℕ, ◌+◌, ◌<◌, Bool, true, Option, Some, None, MatchOption, length, All}
use Rattle.std.specs.Option.{option_map, option_or}
use Rattle.std.proofs.Common.{inl, inr, refl, sym, ◌∙◌, subst, arith}
use Rattle.plan_core.specs.declared.numbers.NodeNo.{NodeNo}
use Rattle.plan_core.specs.declared.numbers.EdgeNo.{EdgeNo}
use Rattle.plan_core.specs.Grid.{GridSize}
use Rattle.plan_core.specs.Graph.{Graph}
use Rattle.plan_core.specs.Line.{is_line}
use Rattle.plan_core.specs.Drawing.{Drawing}
use Rattle.plan_core.specs.Laws.{NodeIsOnGrid, LineIsOnGrid, NodesAreApart}
use Rattle.plan_core.specs.Lawful.{HasSizeOf, Instance, NodeOnGrid, LineOnGrid, Ordered, Joined, Aligned, Apart, Over, Parted, IsPair, IsInstance, Meets}
use Rattle.plan_core.specs.Lawful.{Lawful}
use Rattle.plan_core.proofs.TruthFacts.{below_or_is}
use Rattle.track_order.specs.Order.{IsEarlier}
use Rattle.lawful_check.specs.declared.law_break.LawBreak.{LawBreak}
use Rattle.lawful_check.specs.Breaks.{law_rank, first_of, second_of, node_party, edge_party, law_break, break_of, IsLeastBreak}
use Rattle.lawful_check.specs.Holding.{HoldsForAll, FailsFirst, HoldsForPairs, FailsFirstPair}

-- the drawing that is looked at, and what it is looked at for
pub record Asked : Type 0 where
  pub graph : Graph
  pub above : ℕ → ℕ → Bool
  pub grid : GridSize
  pub drawing : Drawing

-- the law speaks of these parties, and its sentence holds for them
abbrev pub Speaks : Asked → Instance → Type 0
Speaks q i = IsInstance q.graph q.above i

abbrev pub Holds : Asked → Instance → Type 0
Holds q i = Meets q.graph q.grid q.drawing i

-- all instances of a lower rank are met; all of this rank
pub record MetBelow (q : Asked) (r : ℕ) : Type 0 where
  pub each : (i : Instance) → law_rank i < r → Speaks q i → Holds q i

pub record MetAt (q : Asked) (r : ℕ) : Type 0 where
  pub each : (i : Instance) → law_rank i ≡ r → Speaks q i → Holds q i

-- this names the least broken instance of this rank
pub record IsLeastAt (q : Asked) (r : ℕ) (b : LawBreak) : Type 0 where
  pub instance : Instance
  pub ranked : law_rank instance ≡ r
  pub is : Speaks q instance
  pub broken : Holds q instance → ⊥
  pub before : (j : Instance) → law_rank j ≡ r → IsEarlier (first_of j) (second_of j) (first_of instance) (second_of instance) → Speaks q j → Holds q j
  pub named : b ≡ break_of instance

-- what was found of one law, and of all laws up to one
abbrev pub IsSearched : Asked → ℕ → Option LawBreak → Type 0
IsSearched q r found = MatchOption found (MetAt q r) (IsLeastAt q r)

abbrev pub IsJudged : Asked → ℕ → Option LawBreak → Type 0
IsJudged q r found = MatchOption found (MetBelow q r) (IsLeastBreak q.graph q.above q.grid q.drawing)

pub begins : (q : Asked) → IsJudged q 0 None
begins q = record { each = λ i less is. absurd (omega (arith, less)) }

-- one law more
pub next : (q : Asked) (r : ℕ) (found here after : Option LawBreak) → after ≡ option_or found here → IsJudged q r found → IsSearched q r here →
    IsJudged q (r + 1) after
next q r found here after same judged searched = subst (IsJudged q (r + 1)) (sym same) (step found here judged searched)
  where
    step : (found here : Option LawBreak) → IsJudged q r found → IsSearched q r here → IsJudged q (r + 1) (option_or found here)
    step (Some b) here judged searched = judged
    step None None below at = record {
      each = λ i less is. elim (below_or_is (law_rank i) r less) [ inl lower ↦ below.each i lower is | inr same ↦ at.each i same is ];
    }
    step None (Some b) below least = record {
      instance = least.instance;
      least = record {
        is = least.is;
        broken = least.broken;
        least = λ j is before. elim before [
          | inl lower ↦ below.each j (subst (λ (n : ℕ). law_rank j < n) least.ranked lower) is
          | inr tie ↦ least.before j (tie.0 ∙ least.ranked) tie.1 is
        ];
      };
      named = least.named;
    }

-- ---- laws of one party each

pub record IsOfOne (r : ℕ) (make : ℕ → Instance) : Type 0 where
  pub only : (i : Instance) → law_rank i ≡ r → make (first_of i) ≡ i
  pub ranked : (n : ℕ) → law_rank (make n) ≡ r
  pub first : (n : ℕ) → first_of (make n) ≡ n
  pub second : (n : ℕ) → second_of (make n) ≡ 0

module _ {X : Type 0} (q : Asked) (r : ℕ) (make : ℕ → Instance) (one : IsOfOne r make) (number : X → ℕ) (name : X → LawBreak)
    (named : (x : X) → name x ≡ break_of (make (number x))) where
  pub searched_one : (found : Option X) (told : Option LawBreak) → told ≡ option_map name found →
      MatchOption found (HoldsForAll (λ n. Speaks q (make n)) (λ n. Holds q (make n)))
      (λ x. FailsFirst (λ n. Speaks q (make n)) (λ n. Holds q (make n)) (number x)) → IsSearched q r told
  searched_one found told same h = subst (IsSearched q r) (sym same) (of found h)
    where
      of : (found : Option X) → MatchOption found (HoldsForAll (λ n. Speaks q (make n)) (λ n. Holds q (make n)))
          (λ x. FailsFirst (λ n. Speaks q (make n)) (λ n. Holds q (make n)) (number x)) → IsSearched q r (option_map name found)
      of None all = record {
        each = λ i same is. let here = one.only i same in subst (Holds q) here ((all.each (first_of i)).met (subst (Speaks q) (sym here) is));
      }
      of (Some x) first = record {
        instance = make (number x);
        ranked = one.ranked (number x);
        is = first.is;
        broken = first.fails;
        before = λ j same earlier is.
            let here = one.only j same in
            elim earlier [
              | inl less ↦ subst (Holds q) here ((first.before.each (first_of j) (subst (λ (n : ℕ). first_of j < n) (one.first (number x)) less)).met
                  (subst (Speaks q) (sym here) is))
              | inr tie ↦ (let less = tie.1 in let none = one.second (number x) in absurd (omega (arith, less, none)))
            ];
        named = named x;
      }

-- ---- laws of two parties each

pub record IsOfTwo (r : ℕ) (make : ℕ → ℕ → Instance) : Type 0 where
  pub only : (i : Instance) → law_rank i ≡ r → make (first_of i) (second_of i) ≡ i
  pub ranked : (a b : ℕ) → law_rank (make a b) ≡ r
  pub first : (a b : ℕ) → first_of (make a b) ≡ a
  pub second : (a b : ℕ) → second_of (make a b) ≡ b

module _ {X : Type 0} (q : Asked) (r : ℕ) (make : ℕ → ℕ → Instance) (two : IsOfTwo r make) (first_no second_no : X → ℕ) (name : X → LawBreak)
    (named : (x : X) → name x ≡ break_of (make (first_no x) (second_no x))) where
  pub searched_two : (found : Option X) (told : Option LawBreak) → told ≡ option_map name found →
      MatchOption found (HoldsForPairs (λ a b. Speaks q (make a b)) (λ a b. Holds q (make a b)))
      (λ x. FailsFirstPair (λ a b. Speaks q (make a b)) (λ a b. Holds q (make a b)) (first_no x) (second_no x)) → IsSearched q r told
  searched_two found told same h = subst (IsSearched q r) (sym same) (of found h)
    where
      of : (found : Option X) → MatchOption found (HoldsForPairs (λ a b. Speaks q (make a b)) (λ a b. Holds q (make a b)))
          (λ x. FailsFirstPair (λ a b. Speaks q (make a b)) (λ a b. Holds q (make a b)) (first_no x) (second_no x)) → IsSearched q r (option_map name found)
      of None all = record {
        each = λ i same is. let here = two.only i same in subst (Holds q) here ((all.each (first_of i) (second_of i)).met (subst (Speaks q) (sym here) is));
      }
      of (Some x) first = record {
        instance = make (first_no x) (second_no x);
        ranked = two.ranked (first_no x) (second_no x);
        is = first.is;
        broken = first.fails;
        before = λ j same earlier is.
            let here = two.only j same in
            let sooner : IsEarlier (first_of j) (second_of j) (first_no x) (second_no x) =
            subst (λ (a : ℕ). IsEarlier (first_of j) (second_of j) a (second_no x)) (two.first (first_no x) (second_no x))
            (subst (λ (b : ℕ). IsEarlier (first_of j) (second_of j) (first_of (make (first_no x) (second_no x))) b) (two.second (first_no x) (second_no x))
            earlier) in
            subst (Holds q) here ((first.before.each (first_of j) (second_of j) sooner).met (subst (Speaks q) (sym here) is));
        named = named x;
      }

-- ---- each law

pub of_nodes_on_grid : IsOfOne 0 NodeOnGrid
of_nodes_on_grid = record { only = only; ranked = λ n. refl; first = λ n. refl; second = λ n. refl }
  where
    only : (i : Instance) → law_rank i ≡ 0 → NodeOnGrid (first_of i) ≡ i
    only (NodeOnGrid n) same = refl
    only other same = absurd (omega (arith, same))

pub of_lines_on_grid : IsOfOne 1 LineOnGrid
of_lines_on_grid = record { only = only; ranked = λ n. refl; first = λ n. refl; second = λ n. refl }
  where
    only : (i : Instance) → law_rank i ≡ 1 → LineOnGrid (first_of i) ≡ i
    only (LineOnGrid n) same = refl
    only other same = absurd (omega (arith, same))

pub of_ordered : IsOfTwo 2 Ordered
of_ordered = record { only = only; ranked = λ a b. refl; first = λ a b. refl; second = λ a b. refl }
  where
    only : (i : Instance) → law_rank i ≡ 2 → Ordered (first_of i) (second_of i) ≡ i
    only (Ordered u v) same = refl
    only other same = absurd (omega (arith, same))

pub of_joined : IsOfOne 3 Joined
of_joined = record { only = only; ranked = λ n. refl; first = λ n. refl; second = λ n. refl }
  where
    only : (i : Instance) → law_rank i ≡ 3 → Joined (first_of i) ≡ i
    only (Joined e) same = refl
    only other same = absurd (omega (arith, same))

pub of_aligned : IsOfOne 4 Aligned
of_aligned = record { only = only; ranked = λ n. refl; first = λ n. refl; second = λ n. refl }
  where
    only : (i : Instance) → law_rank i ≡ 4 → Aligned (first_of i) ≡ i
    only (Aligned n) same = refl
    only other same = absurd (omega (arith, same))

pub of_apart : IsOfTwo 5 Apart
of_apart = record { only = only; ranked = λ a b. refl; first = λ a b. refl; second = λ a b. refl }
  where
    only : (i : Instance) → law_rank i ≡ 5 → Apart (first_of i) (second_of i) ≡ i
    only (Apart u v) same = refl
    only other same = absurd (omega (arith, same))

pub of_over : IsOfTwo 6 Over
of_over = record { only = only; ranked = λ a b. refl; first = λ a b. refl; second = λ a b. refl }
  where
    only : (i : Instance) → law_rank i ≡ 6 → Over (first_of i) (second_of i) ≡ i
    only (Over e f) same = refl
    only other same = absurd (omega (arith, same))

pub of_parted : IsOfTwo 7 Parted
of_parted = record { only = only; ranked = λ a b. refl; first = λ a b. refl; second = λ a b. refl }
  where
    only : (i : Instance) → law_rank i ≡ 7 → Parted (first_of i) (second_of i) ≡ i
    only (Parted e f) same = refl
    only other same = absurd (omega (arith, same))

-- a law of one node or one edge, and of two

pub searched_node : (q : Asked) (r law : ℕ) (make : ℕ → Instance) → IsOfOne r make → ((n : ℕ) → law_break law (node_party n) None ≡ break_of (make n)) →
    (found : Option NodeNo) (told : Option LawBreak) → told ≡ option_map (λ (n : NodeNo). law_break law (node_party n.0) None) found →
    MatchOption found (HoldsForAll (λ n. Speaks q (make n)) (λ n. Holds q (make n))) (λ n. FailsFirst (λ m. Speaks q (make m)) (λ m. Holds q (make m)) n.0)
    → IsSearched q r told
searched_node q r law make one named = searched_one q r make one (λ n. n.0) (λ (n : NodeNo). law_break law (node_party n.0) None) (λ n. named n.0)

pub searched_edge : (q : Asked) (r law : ℕ) (make : ℕ → Instance) → IsOfOne r make → ((n : ℕ) → law_break law (edge_party n) None ≡ break_of (make n)) →
    (found : Option EdgeNo) (told : Option LawBreak) → told ≡ option_map (λ (e : EdgeNo). law_break law (edge_party e.0) None) found →
    MatchOption found (HoldsForAll (λ n. Speaks q (make n)) (λ n. Holds q (make n))) (λ e. FailsFirst (λ m. Speaks q (make m)) (λ m. Holds q (make m)) e.0)
    → IsSearched q r told
searched_edge q r law make one named = searched_one q r make one (λ e. e.0) (λ (e : EdgeNo). law_break law (edge_party e.0) None) (λ e. named e.0)

pub searched_nodes : (q : Asked) (r law : ℕ) (make : ℕ → ℕ → Instance) → IsOfTwo r make →
    ((a b : ℕ) → law_break law (node_party a) (Some (node_party b)) ≡ break_of (make a b)) → (found : Option (NodeNo × NodeNo)) (told : Option LawBreak) →
    told ≡ option_map (λ (p : NodeNo × NodeNo). law_break law (node_party p.0.0) (Some (node_party p.1.0))) found →
    MatchOption found (HoldsForPairs (λ a b. Speaks q (make a b)) (λ a b. Holds q (make a b)))
    (λ p. FailsFirstPair (λ a b. Speaks q (make a b)) (λ a b. Holds q (make a b)) p.0.0 p.1.0) → IsSearched q r told
searched_nodes q r law make two named = searched_two q r make two (λ p. p.0.0) (λ p. p.1.0)
    (λ (p : NodeNo × NodeNo). law_break law (node_party p.0.0) (Some (node_party p.1.0))) (λ p. named p.0.0 p.1.0)

pub searched_edges : (q : Asked) (r law : ℕ) (make : ℕ → ℕ → Instance) → IsOfTwo r make →
    ((a b : ℕ) → law_break law (edge_party a) (Some (edge_party b)) ≡ break_of (make a b)) → (found : Option (EdgeNo × EdgeNo)) (told : Option LawBreak) →
    told ≡ option_map (λ (p : EdgeNo × EdgeNo). law_break law (edge_party p.0.0) (Some (edge_party p.1.0))) found →
    MatchOption found (HoldsForPairs (λ a b. Speaks q (make a b)) (λ a b. Holds q (make a b)))
    (λ p. FailsFirstPair (λ a b. Speaks q (make a b)) (λ a b. Holds q (make a b)) p.0.0 p.1.0) → IsSearched q r told
searched_edges q r law make two named = searched_two q r make two (λ p. p.0.0) (λ p. p.1.0)
    (λ (p : EdgeNo × EdgeNo). law_break law (edge_party p.0.0) (Some (edge_party p.1.0))) (λ p. named p.0.0 p.1.0)

-- laws 1 and 5 are looked through by the drawing's points and lines, of which there are as many as nodes and edges

pub searched_on_grid : (q : Asked) → HasSizeOf q.graph q.drawing → (found : Option NodeNo) (told : Option LawBreak) →
    told ≡ option_map (λ (n : NodeNo). law_break 1 (node_party n.0) None) found →
    MatchOption found (HoldsForAll (λ n. n < length q.drawing.places) (NodeIsOnGrid q.grid q.drawing))
    (λ n. FailsFirst (λ m. m < length q.drawing.places) (NodeIsOnGrid q.grid q.drawing) n.0) → IsSearched q 0 told
searched_on_grid q size found told same h =
    searched_node q 0 1 NodeOnGrid of_nodes_on_grid (λ n. refl) found told same
    (subst (λ (count : ℕ). MatchOption found (HoldsForAll (λ n. n < count) (NodeIsOnGrid q.grid q.drawing))
    (λ (n : NodeNo). FailsFirst (λ m. m < count) (NodeIsOnGrid q.grid q.drawing) n.0)) size.places h)

pub searched_lines : (q : Asked) → HasSizeOf q.graph q.drawing → (found : Option EdgeNo) (told : Option LawBreak) →
    told ≡ option_map (λ (e : EdgeNo). law_break 1 (edge_party e.0) None) found →
    MatchOption found (HoldsForAll (λ n. n < length q.drawing.lines) (LineIsOnGrid q.grid q.drawing))
    (λ e. FailsFirst (λ m. m < length q.drawing.lines) (LineIsOnGrid q.grid q.drawing) e.0) → IsSearched q 1 told
searched_lines q size found told same h =
    searched_edge q 1 1 LineOnGrid of_lines_on_grid (λ n. refl) found told same
    (subst (λ (count : ℕ). MatchOption found (HoldsForAll (λ n. n < count) (LineIsOnGrid q.grid q.drawing))
    (λ (e : EdgeNo). FailsFirst (λ m. m < count) (LineIsOnGrid q.grid q.drawing) e.0)) size.lines h)

pub searched_apart : (q : Asked) → HasSizeOf q.graph q.drawing → (found : Option (NodeNo × NodeNo)) (told : Option LawBreak) →
    told ≡ option_map (λ (p : NodeNo × NodeNo). law_break 5 (node_party p.0.0) (Some (node_party p.1.0))) found →
    MatchOption found (HoldsForPairs (IsPair (length q.drawing.places)) (NodesAreApart q.drawing))
    (λ p. FailsFirstPair (IsPair (length q.drawing.places)) (NodesAreApart q.drawing) p.0.0 p.1.0) → IsSearched q 5 told
searched_apart q size found told same h =
    searched_nodes q 5 5 Apart of_apart (λ a b. refl) found told same
    (subst (λ (count : ℕ). MatchOption found (HoldsForPairs (IsPair count) (NodesAreApart q.drawing))
    (λ (p : NodeNo × NodeNo). FailsFirstPair (IsPair count) (NodesAreApart q.drawing) p.0.0 p.1.0)) size.places h)

-- ---- all laws

rank_below : (i : Instance) → law_rank i < 8
rank_below (NodeOnGrid a) = omega arith
rank_below (LineOnGrid a) = omega arith
rank_below (Ordered a b) = omega arith
rank_below (Joined a) = omega arith
rank_below (Aligned a) = omega arith
rank_below (Apart a b) = omega arith
rank_below (Over a b) = omega arith
rank_below (Parted a b) = omega arith

pub all_judged : (q : Asked) (found : Option LawBreak) → HasSizeOf q.graph q.drawing → All (λ l. is_line l ≡ true) q.drawing.lines → IsJudged q 8 found →
    MatchOption found (Lawful q.graph q.above q.grid q.drawing) (IsLeastBreak q.graph q.above q.grid q.drawing)
all_judged q None size are_lines below = record { fits = record { size = size; are_lines = are_lines }; laws = λ i is. below.each i (rank_below i) is }
all_judged q (Some b) size are_lines least = least
