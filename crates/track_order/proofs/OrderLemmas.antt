-- What the two tables say together.
use Rattle.std.specs.Prelude.{◌≡◌, ◌<◌, ◌≤◌, ◌⊎◌, ℕ, Bool, List, length}
use Rattle.std.proofs.Common.{inl, inr, rules, sym, subst, arith}
use Rattle.plan_core.specs.declared.limits.TheConstants.{MAX_EDGES}
use Rattle.plan_core.specs.Graph.{Graph, Overlap}
use Rattle.track_order.specs.Above.{Above, Contradicts}
use Rattle.track_order.specs.Tables.{IsTable, IsTableOf}
use Rattle.track_order.specs.Order.{edge_order, AreTables, IsOrderOf, IsFirstContradiction}
use Rattle.track_order.specs.Searching.{IsBothWays, IsFirstBothWays}
use Rattle.track_order.proofs.TableLemmas.{table_is}

both_ways : (g : Graph) (above : List (List Bool)) (e f : ℕ) → IsTableOf (length g.edges) (length g.edges) (Above g) above → e < length g.edges →
    f < length g.edges → Contradicts g e f → IsBothWays above e f
both_ways g above e f table e_there f_there c = (((table.each e e_there).exact f f_there).1 c.over, ((table.each f f_there).exact e e_there).1 c.under)

contradicts : (g : Graph) (above : List (List Bool)) (e f : ℕ) → IsTableOf (length g.edges) (length g.edges) (Above g) above → e < length g.edges →
    f < length g.edges → IsBothWays above e f → Contradicts g e f
contradicts g above e f table e_there f_there both = record {
  over = ((table.each e e_there).exact f f_there).0 both.0;
  under = ((table.each f f_there).exact e e_there).0 both.1;
}

pub tables_are : (g : Graph) (edges : ℕ) (above overlap : List (List Bool)) → edges ≡ length g.edges → edges ≤ MAX_EDGES →
    IsTableOf (length g.edges) (length g.edges) (Above g) above →
    IsTableOf (length g.edges) (length g.edges) (Overlap g) overlap → AreTables (edge_order edges above overlap)
tables_are g edges above overlap count few is_above is_overlap = record {
  few = few;
  above = subst (λ (n : ℕ). IsTable n above) (sym count) (table_is (length g.edges) (Above g) above is_above);
  overlap = subst (λ (n : ℕ). IsTable n overlap) (sym count) (table_is (length g.edges) (Overlap g) overlap is_overlap);
}

-- of two different numbers one is the smaller; an edge and itself don't contradict
never_both : (g : Graph) (above : List (List Bool)) → IsTableOf (length g.edges) (length g.edges) (Above g) above →
    ((e f : ℕ) → e < f → f < length g.edges → IsBothWays above e f → ⊥) → (e f : ℕ) → e < length g.edges → f < length g.edges → Contradicts g e f → ⊥
never_both g above table none e f e_there f_there c = elim (compare e f) [
  | inl less ↦ none e f less f_there (both_ways g above e f table e_there f_there c)
  | inr (inl same) ↦ not_itself (subst (λ (x : ℕ). Above g e x) (sym same) c.over)
  | inr (inr more) ↦ none f e more e_there (both_ways g above f e table f_there e_there (record { over = c.under; under = c.over }))
]
  where
    compare : (a b : ℕ) → (a < b) ⊎ ((a ≡ b) ⊎ (b < a))
    compare a b = search (rules, arith)

    not_itself : Above g e e → ⊥
    not_itself above = above.parts.second.alone above.parts.first.reached

pub order_is : (g : Graph) (edges : ℕ) (above overlap : List (List Bool)) → edges ≡ length g.edges → edges ≤ MAX_EDGES →
    IsTableOf (length g.edges) (length g.edges) (Above g) above →
    IsTableOf (length g.edges) (length g.edges) (Overlap g) overlap → ((e f : ℕ) → e < f → f < edges → IsBothWays above e f → ⊥) →
    IsOrderOf g (edge_order edges above overlap)
order_is g edges above overlap count few is_above is_overlap none = record {
  edges = count;
  tables = tables_are g edges above overlap count few is_above is_overlap;
  above = λ e f e_there f_there. (is_above.each e e_there).exact f f_there;
  overlap = λ e f e_there f_there. (is_overlap.each e e_there).exact f f_there;
  one_way = never_both g above is_above (λ e f rising there both. none e f rising (subst (λ (n : ℕ). f < n) (sym count) there) both);
}

pub first_is : (g : Graph) (edges e f : ℕ) (above : List (List Bool)) → edges ≡ length g.edges → IsTableOf (length g.edges) (length g.edges) (Above g) above →
    IsFirstBothWays above edges e f → IsFirstContradiction g e f
first_is g edges e f above count table first =
    let there : f < length g.edges = subst (λ (n : ℕ). f < n) count first.there in
    let rising = first.rising in
    let e_there : e < length g.edges = omega (arith, there, rising) in
    record {
      rising = rising;
      there = there;
      both = contradicts g above e f table e_there there first.both;
      first = λ a b less b_there earlier c. first.before.none a b less (subst (λ (n : ℕ). b < n) (sym count) b_there) earlier
          (both_ways g above a b table (omega (arith, less, b_there)) b_there c);
    }
