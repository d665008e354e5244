-- Rows and tables that grow, and looking through one.
use Rattle.std.specs.Prelude.{◌≡◌, ◌↔◌, ℕ, ◌+◌, ◌<◌, Bool, true, false, List, [], ◌∷◌, ◌++◌, length, slice_index_or}
use Rattle.std.proofs.Common.{inl, inr, refl, sym, ◌∙◌, ap, subst, arith, length-append}
use Rattle.std.proofs.lemmas.List.{get_or_append_left, get_or_default}
use Rattle.std.proofs.Math.Seq.{get_or-append_seam}
use Rattle.plan_core.proofs.TruthFacts.{below_or_is}
use Rattle.track_order.specs.Tables.{is_marked, IsMarked, IsTable, IsRowOf, IsTableOf}
use Rattle.track_order.specs.Searching.{IsBothWays, HasNoneBefore}

pub row_begins : (R : ℕ → Type 0) → IsRowOf 0 R []
row_begins R = record { size = refl; exact = λ f less. absurd (omega arith) }

pub row_on : (n : ℕ) (R : ℕ → Type 0) (row : List Bool) (b : Bool) → IsRowOf n R row → (b ≡ true) ↔ R n → IsRowOf (n + 1) R (row ++ b ∷ [])
row_on n R row b so_far last = record {
  size = omega (arith, so_far.size, length-append row (b ∷ []));
  exact = λ f less. elim (below_or_is f n less) [
    | inl before ↦ subst (λ (x : Bool). (x ≡ true) ↔ R f) (sym (get_or_append_left row (b ∷ []) false f (omega (arith, so_far.size, before))))
        (so_far.exact f before)
    | inr same ↦ subst (λ (i : ℕ). IsMarked (row ++ b ∷ []) i ↔ R i) (sym same)
        (subst (λ (x : Bool). (x ≡ true) ↔ R n) (sym (ap (λ (i : ℕ). is_marked (row ++ b ∷ []) i) (sym so_far.size) ∙ get_or-append_seam row b [] false)) last)
  ];
}

pub table_begins : (edges : ℕ) (R : ℕ → ℕ → Type 0) → IsTableOf 0 edges R []
table_begins edges R = record { high = refl; each = λ e less. absurd (omega arith) }

pub table_on : (n edges : ℕ) (R : ℕ → ℕ → Type 0) (rows : List (List Bool)) (row : List Bool) → IsTableOf n edges R rows → IsRowOf edges (R n) row →
    IsTableOf (n + 1) edges R (rows ++ row ∷ [])
table_on n edges R rows row so_far last = record {
  high = omega (arith, so_far.high, length-append rows (row ∷ []));
  each = λ e less. elim (below_or_is e n less) [
    | inl before ↦ subst (λ (x : List Bool). IsRowOf edges (R e) x) (sym (get_or_append_left rows (row ∷ []) [] e (omega (arith, so_far.high, before))))
        (so_far.each e before)
    | inr same ↦ subst (λ (i : ℕ). IsRowOf edges (R i) (slice_index_or (rows ++ row ∷ []) i [])) (sym same)
        (subst (λ (x : List Bool). IsRowOf edges (R n) x) (sym (ap (λ (i : ℕ). slice_index_or (rows ++ row ∷ []) i []) (sym so_far.high)
        ∙ get_or-append_seam rows row [] [])) last)
  ];
}

pub table_is : (edges : ℕ) (R : ℕ → ℕ → Type 0) (rows : List (List Bool)) → IsTableOf edges edges R rows → IsTable edges rows
table_is edges R rows t = record {
  high = t.high;
  wide = λ k d less. ap (λ (row : List Bool). length row) (get_or_default rows k d [] less) ∙ (t.each k (omega (arith, t.high, less))).size;
}

pub none_begins : (rows : List (List Bool)) (count : ℕ) → HasNoneBefore rows count 0 0
none_begins rows count = record {
  none = λ a b rising there before both. elim before [ inl less ↦ omega arith | inr same ↦ (let less = same.1 in omega arith) ];
}

-- behind the first of a row nothing rises up to e
pub none_up_to : (rows : List (List Bool)) (count e : ℕ) → HasNoneBefore rows count e 0 → HasNoneBefore rows count e (e + 1)
none_up_to rows count e so_far = record {
  none = λ a b rising there before both. elim before [
    | inl less ↦ so_far.none a b rising there (inl less) both
    | inr same ↦ (let first = same.0 in let less = same.1 in omega (arith, rising))
  ];
}

pub none_on : (rows : List (List Bool)) (count e f : ℕ) → HasNoneBefore rows count e f → (IsBothWays rows e f → ⊥) → HasNoneBefore rows count e (f + 1)
none_on rows count e f so_far none = record {
  none = λ a b rising there before both. elim before [
    | inl less ↦ so_far.none a b rising there (inl less) both
    | inr same ↦ (elim (below_or_is b f same.1) [
      | inl before ↦ so_far.none a b rising there (inr (same.0, before)) both
      | inr is ↦ none (subst (λ (x : ℕ). IsBothWays rows x f) same.0 (subst (λ (x : ℕ). IsBothWays rows a x) is both))
    ])
  ];
}

pub none_in_row : (rows : List (List Bool)) (count e : ℕ) → HasNoneBefore rows count e count → HasNoneBefore rows count (e + 1) 0
none_in_row rows count e so_far = record {
  none = λ a b rising there before both. elim before [
    | inl less ↦ (elim (below_or_is a e less) [
      | inl before ↦ so_far.none a b rising there (inl before) both
      | inr is ↦ so_far.none a b rising there (inr (is, there)) both
    ])
    | inr same ↦ (let less = same.1 in omega arith)
  ];
}

pub none_at_all : (rows : List (List Bool)) (count : ℕ) → HasNoneBefore rows count count 0 → (e f : ℕ) → e < f → f < count → IsBothWays rows e f → ⊥
none_at_all rows count all e f rising there both = all.none e f rising there (inl (omega arith)) both

-- what a walk over the pairs keeps
pub ruleset none_so_far = (none_up_to, none_on, none_in_row)
