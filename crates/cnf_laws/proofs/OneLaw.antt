-- The clauses of one law, both ways.
use Rattle.std.proofs.Common.{ℕ, ◌+◌, ◌≤◌, ◌<◌, List, [], length, inl, inr, refl, arith}
use Rattle.std.specs.Ordering.{int_cmp}
use Rattle.plan_core.specs.Grid.{GridSize, IsGrid}
use Rattle.plan_core.specs.Graph.{Graph, mileage, IsTrackGraph}
use Rattle.plan_core.specs.Drawing.{place}
use Rattle.plan_core.specs.Laws.{NodesAreOrdered, NodeIsAligned, NodesAreApart, EdgeIsOver, EdgesAreParted}
use Rattle.cnf_core.specs.declared.limits.TheConstants.{VARS}
use Rattle.cnf_core.specs.declared.literal.LitOrTruth.TheVariants.{False}
use Rattle.cnf_core.specs.Lit.{Literal}
use Rattle.cnf_core.specs.Assignment.{SatisfiesAll}
use Rattle.cnf_core.proofs.SettingLemmas.{same_none}
use Rattle.cnf_laws.specs.LawClauses.{ordered_clauses, aligned_clauses, apart_size, apart_clauses, anywhere_clauses, over_clauses, parted_clauses}
use Rattle.cnf_laws.specs.Expected.{drawing_vars, laws_first}
use Rattle.cnf_laws.specs.OneLaw.{SaysLaw, AllowsLaw}
use Rattle.cnf_laws.proofs.SlopeLemmas.{aligned_means, aligned_holds}
use Rattle.cnf_laws.proofs.ApartLemmas.{ordered_means, ordered_holds, apart_means, apart_extends, anywhere_means, anywhere_extends}
use Rattle.cnf_laws.proofs.OverLemmas.{Read, over_means, over_holds, parted_means, parted_holds}
use Rattle.cnf_laws.proofs.InstanceLemmas.{nothing_new, before_of, parted_extends}
use Rattle.cnf_laws.proofs.BaseLemmas.{base_last, base_vars}

pub ordered_says : (g : Graph) (grid : GridSize) (u n : ℕ) (unless : List Literal) → u < length g.nodes → n < length g.nodes →
    SaysLaw g grid unless (ordered_clauses (int_cmp (mileage g u) (mileage g n)) ((drawing_vars g grid).node u).x ((drawing_vars g grid).node n).x unless)
    (λ d. NodesAreOrdered g d u n)
ordered_says g grid u n unless lu ln v d reads loose on h =
    let x = drawing_vars g grid in
    ordered_means v (int_cmp (mileage g u) (mileage g n)) (x.node u).x (x.node n).x (place d u).x (place d n).x unless (reads.points u lu).x
    (reads.points n ln).x on h

pub ordered_allows : (g : Graph) (grid : GridSize) (u n : ℕ) (unless : List Literal) (first : ℕ) → u < length g.nodes → n < length g.nodes →
    AllowsLaw g grid unless first 0 (ordered_clauses (int_cmp (mileage g u) (mileage g n)) ((drawing_vars g grid).node u).x ((drawing_vars g grid).node n).x
    unless) (λ d. NodesAreOrdered g d u n)
ordered_allows g grid u n unless first lu ln v d reads loose h =
    let x = drawing_vars g grid in
    let o = int_cmp (mileage g u) (mileage g n) in
    nothing_new v first (λ w. SatisfiesAll w (ordered_clauses o (x.node u).x (x.node n).x unless))
    (ordered_holds v o (x.node u).x (x.node n).x (place d u).x (place d n).x unless (reads.points u lu).x (reads.points n ln).x h)

pub aligned_says : (g : Graph) (grid : GridSize) (n : ℕ) (unless : List Literal) → IsTrackGraph g → n < length g.nodes →
    SaysLaw g grid unless (aligned_clauses g (drawing_vars g grid) n unless) (λ d. NodeIsAligned g d n)
aligned_says g grid n unless is lt v d reads loose on h = aligned_means v g (drawing_vars g grid) grid.width d n unless is lt reads on h

pub aligned_allows : (g : Graph) (grid : GridSize) (n : ℕ) (unless : List Literal) (first : ℕ) → IsTrackGraph g → n < length g.nodes →
    AllowsLaw g grid unless first 0 (aligned_clauses g (drawing_vars g grid) n unless) (λ d. NodeIsAligned g d n)
aligned_allows g grid n unless first is lt v d reads loose h =
    nothing_new v first (λ w. SatisfiesAll w (aligned_clauses g (drawing_vars g grid) n unless))
    (aligned_holds v g (drawing_vars g grid) grid.width d n unless is lt reads h)

pub anywhere_says : (g : Graph) (grid : GridSize) (u n : ℕ) (unless : List Literal) (first : ℕ) → u < length g.nodes → n < length g.nodes →
    SaysLaw g grid unless (anywhere_clauses first ((drawing_vars g grid).node u) ((drawing_vars g grid).node n) unless) (λ d. NodesAreApart d u n)
anywhere_says g grid u n unless first lu ln v d reads loose on h =
    let x = drawing_vars g grid in
    anywhere_means v first (x.node u) (x.node n) (place d u) (place d n) unless (reads.points u lu) (reads.points n ln) on h

pub anywhere_allows : (g : Graph) (grid : GridSize) (u n : ℕ) (unless : List Literal) (first : ℕ) → IsGrid grid → laws_first g grid ≤ VARS + 1 →
    laws_first g grid ≤ first → u < length g.nodes → n < length g.nodes →
    AllowsLaw g grid unless first 2 (anywhere_clauses first ((drawing_vars g grid).node u) ((drawing_vars g grid).node n) unless) (λ d. NodesAreApart d u n)
anywhere_allows g grid u n unless first size few later lu ln v d reads loose h =
    let x = drawing_vars g grid in
    let a = base_vars g grid size few in
    let before : base_last g grid < first = omega arith in
    anywhere_extends v first (x.node u) (x.node n) (place d u) (place d n) unless
    (before_of (base_last g grid) first (x.node u) before (a.node_x u lu) (a.node_y u lu))
    (before_of (base_last g grid) first (x.node n) before (a.node_x n ln) (a.node_y n ln))
    (reads.points u lu) (reads.points n ln) h

-- the same where the columns are in the order of the mileages, as encode has it
pub apart_says : (g : Graph) (grid : GridSize) (u n first : ℕ) → u < length g.nodes → n < length g.nodes →
    SaysLaw g grid [] (apart_clauses (int_cmp (mileage g u) (mileage g n)) first ((drawing_vars g grid).node u) ((drawing_vars g grid).node n) [])
    (λ d. NodesAreApart d u n)
apart_says g grid u n first lu ln v d reads loose on h =
    let x = drawing_vars g grid in
    apart_means v (int_cmp (mileage g u) (mileage g n)) first (x.node u) (x.node n) (place d u) (place d n) [] (reads.points u lu) (reads.points n ln) on h

pub apart_allows : (g : Graph) (grid : GridSize) (u n first : ℕ) → IsGrid grid → laws_first g grid ≤ VARS + 1 → laws_first g grid ≤ first → u < length g.nodes →
    n < length g.nodes →
    AllowsLaw g grid [] first (apart_size (int_cmp (mileage g u) (mileage g n))) (apart_clauses (int_cmp (mileage g u) (mileage g n)) first
    ((drawing_vars g grid).node u) ((drawing_vars g grid).node n) []) (λ d. NodesAreOrdered g d u n × NodesAreApart d u n)
apart_allows g grid u n first size few later lu ln v d reads loose (inl none) = absurd none
apart_allows g grid u n first size few later lu ln v d reads loose (inr both) =
    let x = drawing_vars g grid in
    let a = base_vars g grid size few in
    let before : base_last g grid < first = omega arith in
    apart_extends v (int_cmp (mileage g u) (mileage g n)) first (x.node u) (x.node n) (place d u) (place d n) []
    (before_of (base_last g grid) first (x.node u) before (a.node_x u lu) (a.node_y u lu))
    (before_of (base_last g grid) first (x.node n) before (a.node_x n ln) (a.node_y n ln))
    (reads.points u lu) (reads.points n ln) both.0 both.1

pub over_says : (g : Graph) (grid : GridSize) (e f : ℕ) (unless : List Literal) → IsTrackGraph g → e < length g.edges → f < length g.edges →
    SaysLaw g grid unless (over_clauses g (drawing_vars g grid) grid.width e f False unless) (λ d. EdgeIsOver g d e f)
over_says g grid e f unless is le lf v d reads loose on h =
    let r : Read v g (drawing_vars g grid) grid d = record { graph = is; reads = reads; loose = loose } in
    over_means v g (drawing_vars g grid) grid d e f False unless r le lf on refl h

pub over_allows : (g : Graph) (grid : GridSize) (e f : ℕ) (unless : List Literal) (first : ℕ) → IsTrackGraph g → e < length g.edges → f < length g.edges →
    AllowsLaw g grid unless first 0 (over_clauses g (drawing_vars g grid) grid.width e f False unless) (λ d. EdgeIsOver g d e f)
over_allows g grid e f unless first is le lf v d reads loose h =
    let x = drawing_vars g grid in
    let r : Read v g x grid d = record { graph = is; reads = reads; loose = loose } in
    nothing_new v first (λ w. SatisfiesAll w (over_clauses g x grid.width e f False unless))
    (over_holds v g x grid d e f False unless r le lf (elim h [ inl u ↦ inl u | inr k ↦ inr (inr k) ]))

pub parted_says : (g : Graph) (grid : GridSize) (e f : ℕ) (unless : List Literal) (first : ℕ) → IsTrackGraph g → e < length g.edges → f < length g.edges →
    SaysLaw g grid unless (parted_clauses g (drawing_vars g grid) grid.width e f first unless) (λ d. EdgesAreParted g d e f)
parted_says g grid e f unless first is le lf v d reads loose on h =
    let r : Read v g (drawing_vars g grid) grid d = record { graph = is; reads = reads; loose = loose } in
    parted_means v g (drawing_vars g grid) grid d e f first unless r le lf on h

pub parted_allows : (g : Graph) (grid : GridSize) (e f : ℕ) (unless : List Literal) (first : ℕ) → IsTrackGraph g → IsGrid grid → laws_first g grid ≤ VARS + 1 →
    laws_first g grid ≤ first → e < length g.edges → f < length g.edges →
    AllowsLaw g grid unless first 1 (parted_clauses g (drawing_vars g grid) grid.width e f first unless) (λ d. EdgesAreParted g d e f)
parted_allows g grid e f unless first is size few later le lf v d reads loose h =
    let x = drawing_vars g grid in
    let r : Read v g x grid d = record { graph = is; reads = reads; loose = loose } in
    let before : base_last g grid < first = omega arith in
    elim h [
      | inl u ↦ record { to = v; same = same_none first 1 v; holds = parted_holds v g x grid d e f first unless r le lf (inl u) }
      | inr k ↦ parted_extends v (base_last g grid) g x grid d e f first unless (base_vars g grid size few) before r le lf k
    ]
