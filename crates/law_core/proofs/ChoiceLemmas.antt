-- A law to choose: what its clauses say where it is selected, and a setting of its variables; then all of them.
use Rattle.std.proofs.Common.{◌≡◌, ◌⊎◌, ℕ, zero, suc, ◌+◌, ◌-◌, ◌≤◌, ◌<◌, Bool, true, false, not, List, [], ◌∷◌, ◌++◌, length, inl, inr, refl, sym, ◌∙◌, ap}
use Rattle.std.proofs.Common.{subst, arith}
use Rattle.std.specs.Prelude.{⊤, slice_index_or}
use Rattle.plan_core.specs.Grid.{GridSize, IsGrid}
use Rattle.plan_core.specs.Graph.{Graph, IsTrackGraph, mileage}
use Rattle.std.specs.Ordering.{int_cmp}
use Rattle.plan_core.specs.Drawing.{Drawing}
use Rattle.plan_core.specs.Lawful.{Instance, NodeOnGrid, LineOnGrid, Ordered, Joined, Aligned, Apart, Over, Parted, IsInstance, Meets}
use Rattle.cnf_core.specs.declared.limits.TheConstants.{VARS}
use Rattle.cnf_core.specs.declared.literal.LitOrTruth.TheVariants.{False}
use Rattle.cnf_core.specs.Lit.{Literal, negative_of}
use Rattle.cnf_core.specs.Clause.{Clauses, AreThere, AllThere}
use Rattle.cnf_core.specs.LitOrTruth.{yes, flip}
use Rattle.cnf_core.specs.Assignment.{Assignment, Satisfies, SatisfiesAll, Extends}
use Rattle.cnf_core.proofs.ClauseLemmas.{satisfies_left, satisfies_right, all_there_append}
use Rattle.cnf_core.proofs.SettingLemmas.{patch, patch_same, patch_at, same_none, extends_both, extends_weaker, satisfies_before}
use Rattle.drawing_cnf.specs.Stands.{DrawingVars, ReadsDrawing, IsJoinedOnGrid}
use Rattle.drawing_cnf.specs.LawClauses.{apart_rows_clauses, over_clauses}
use Rattle.drawing_cnf.specs.Expected.{drawing_vars, laws_first}
use Rattle.drawing_cnf.specs.OneLaw.{SaysLaw, AllowsLaw}
use Rattle.drawing_cnf.proofs.ThereLemmas.{AreVars, vars_more, ordered_there, aligned_there, rows_there, over_there}
use Rattle.drawing_cnf.proofs.InstanceLemmas.{drawing_stays}
use Rattle.drawing_cnf.proofs.BaseLemmas.{base_last, base_vars}
use Rattle.drawing_cnf.proofs.OneLaw.{ordered_says, ordered_allows, aligned_says, aligned_allows, anywhere_says, anywhere_allows, over_says, over_allows}
use Rattle.drawing_cnf.proofs.OneLaw.{parted_says, parted_allows}
use Rattle.search_why.specs.Explained.{IsChoice}
use Rattle.law_core.specs.Choices.{law_size, law_clauses, choice_size, choice_clauses, choices_size, choices_clauses, selectors}

-- ---- one law

pub law_says : (g : Graph) (above : ℕ → ℕ → Bool) (grid : GridSize) (i : Instance) (first : ℕ) (unless : List Literal) → IsTrackGraph g → IsInstance g above i →
    IsChoice i →
    SaysLaw g grid unless (law_clauses g (drawing_vars g grid) grid.width i first unless) (λ d. Meets g grid d i)
law_says g above grid (NodeOnGrid n) first unless is at choice = absurd choice
law_says g above grid (LineOnGrid e) first unless is at choice = absurd choice
law_says g above grid (Joined e) first unless is at choice = absurd choice
law_says g above grid (Ordered u n) first unless is at choice = ordered_says g grid u n unless (let r = at.rising in let w = at.within in omega arith) at.within
law_says g above grid (Aligned n) first unless is at choice = aligned_says g grid n unless is at
law_says g above grid (Apart u n) first unless is at choice = anywhere_says g grid u n unless first (let r = at.rising in let w = at.within in omega arith)
    at.within
law_says g above grid (Over e f) first unless is at choice = over_says g grid e f unless is at.first at.second
law_says g above grid (Parted e f) first unless is at choice = parted_says g grid e f unless first is
    (let r = at.pair.rising in let w = at.pair.within in omega arith) at.pair.within

pub law_allows : (g : Graph) (above : ℕ → ℕ → Bool) (grid : GridSize) (i : Instance) (first : ℕ) (unless : List Literal) → IsTrackGraph g → IsGrid grid →
    laws_first g grid ≤ VARS + 1 → laws_first g grid ≤ first →
    IsInstance g above i → IsChoice i → AllowsLaw g grid unless first (law_size i) (law_clauses g (drawing_vars g grid) grid.width i first unless)
    (λ d. Meets g grid d i)
law_allows g above grid (NodeOnGrid n) first unless is size few later at choice = absurd choice
law_allows g above grid (LineOnGrid e) first unless is size few later at choice = absurd choice
law_allows g above grid (Joined e) first unless is size few later at choice = absurd choice
law_allows g above grid (Ordered u n) first unless is size few later at choice = ordered_allows g grid u n unless first
    (let r = at.rising in let w = at.within in omega arith) at.within
law_allows g above grid (Aligned n) first unless is size few later at choice = aligned_allows g grid n unless first is at
law_allows g above grid (Apart u n) first unless is size few later at choice = anywhere_allows g grid u n unless first size few later
    (let r = at.rising in let w = at.within in omega arith) at.within
law_allows g above grid (Over e f) first unless is size few later at choice = over_allows g grid e f unless first is at.first at.second
law_allows g above grid (Parted e f) first unless is size few later at choice = parted_allows g grid e f unless first is size few later
    (let r = at.pair.rising in let w = at.pair.within in omega arith) at.pair.within

law_there : (vars : ℕ) (g : Graph) (above : ℕ → ℕ → Bool) (x : DrawingVars) (width : ℕ) (i : Instance) (first : ℕ) (unless : List Literal) → IsTrackGraph g →
    AreVars vars g x width → IsInstance g above i → 1 ≤ first → first + law_size i ≤ vars + 1 → AreThere vars unless →
    AllThere vars (law_clauses g x width i first unless)
law_there vars g above x width (NodeOnGrid n) first unless is a at from to u = tt
law_there vars g above x width (LineOnGrid e) first unless is a at from to u = tt
law_there vars g above x width (Joined e) first unless is a at from to u = tt
law_there vars g above x width (Ordered p q) first unless is a at from to u =
    let rising = at.rising in
    let within = at.within in
    ordered_there vars (int_cmp (mileage g p) (mileage g q)) (x.node p).x (x.node q).x unless (a.node_x p (omega arith)) (a.node_x q within) u
law_there vars g above x width (Aligned n) first unless is a at from to u = aligned_there vars g x width n unless is a at u
law_there vars g above x width (Apart p q) first unless is a at from to u =
    let rising = at.rising in
    let within = at.within in
    let lp : p < length g.nodes = omega arith in
    all_there_append vars (apart_rows_clauses (first + 1) (yes first) (x.node p).x (x.node q).x unless)
    (apart_rows_clauses (first + 1) (flip (yes first)) (x.node p).y (x.node q).y unless)
    (rows_there vars (first + 1) (yes first) (x.node p).x (x.node q).x unless (a.node_x p lp) (a.node_x q within) (omega arith, omega arith) (from, omega arith)
    u)
    (rows_there vars (first + 1) (flip (yes first)) (x.node p).y (x.node q).y unless (a.node_y p lp) (a.node_y q within) (omega arith, omega arith)
    (from, omega arith) u)
law_there vars g above x width (Over e f) first unless is a at from to u = over_there vars g x width e f False unless is a at.first at.second tt u
law_there vars g above x width (Parted e f) first unless is a at from to u =
    let rising = at.pair.rising in
    let within = at.pair.within in
    let le : e < length g.edges = omega arith in
    all_there_append vars (over_clauses g x width e f (flip (yes first)) unless) (over_clauses g x width f e (yes first) unless)
    (over_there vars g x width e f (flip (yes first)) unless is a le within (from, omega arith) u)
    (over_there vars g x width f e (yes first) unless is a within le (from, omega arith) u)

-- ---- a law to choose

unselected : (v : Assignment) (s : ℕ) → v s ≡ true → Satisfies v (negative_of s ∷ []) → ⊥
unselected v s on (inl off) = absurd (differ (not (v s)) (ap not on) off)
  where
    differ : (b : Bool) → b ≡ false → b ≡ true → ⊥
    differ true e f = cc
    differ false e f = cc
unselected v s on (inr none) = absurd none

pub choice_means : (v : Assignment) (g : Graph) (above : ℕ → ℕ → Bool) (grid : GridSize) (d : Drawing) (i : Instance) (first : ℕ) → IsTrackGraph g →
    IsInstance g above i → IsChoice i →
    ReadsDrawing v g (drawing_vars g grid) grid.width d → IsJoinedOnGrid g grid d → SatisfiesAll v (choice_clauses g (drawing_vars g grid) grid.width i first) →
    v first ≡ true → Meets g grid d i
choice_means v g above grid d i first is at choice reads loose h on =
    law_says g above grid i (first + 2) (negative_of first ∷ []) is at choice v d reads loose (unselected v first on) h.1

-- the clauses hold, and the law is selected or not
pub record ChoiceHolds (w : Assignment) (g : Graph) (grid : GridSize) (i : Instance) (first : ℕ) (c : Bool) : Type 0 where
  pub satisfies : SatisfiesAll w (choice_clauses g (drawing_vars g grid) grid.width i first)
  pub selects : w first ≡ c

allowed : (w : Assignment) (first : ℕ) (c : Bool) (P : Type 0) → w first ≡ c → (c ≡ true → P) → Satisfies w (negative_of first ∷ []) ⊎ P
allowed w first true P is h = inr (h refl)
allowed w first false P is h = inl (inl (ap not is))

-- the selecting variable, and the one behind it
abbrev pub choice_bits : Bool → ℕ → Bool
choice_bits c zero = c
choice_bits c (suc k) = true

pub choice_extends : (v : Assignment) (g : Graph) (above : ℕ → ℕ → Bool) (grid : GridSize) (d : Drawing) (i : Instance) (first : ℕ) (c : Bool) →
    IsTrackGraph g → IsGrid grid → laws_first g grid ≤ VARS + 1 → laws_first g grid ≤ first → IsInstance g above i → IsChoice i →
    ReadsDrawing v g (drawing_vars g grid) grid.width d → IsJoinedOnGrid g grid d → (c ≡ true → Meets g grid d i) →
    Extends first (choice_size i) v (λ w. ChoiceHolds w g grid i first c)
choice_extends v g above grid d i first c is size few later at choice reads loose meets =
    let u = patch first 2 (choice_bits c) v in
    let same = patch_same first 2 (choice_bits c) v in
    let z : first ≡ first + 0 = omega arith in
    let selected : u first ≡ c = ap u z ∙ patch_at first 2 (choice_bits c) v 0 (omega arith) in
    let spare : u (first + 1) ≡ true = patch_at first 2 (choice_bits c) v 1 (omega arith) in
    let last = base_last g grid in
    let u_reads = drawing_stays v u last g (drawing_vars g grid) grid.width d (base_vars g grid size few) (λ y le. same.below y (omega arith)) reads in
    extends_both first 2 (law_size i) v (λ w. w ≡ u) (λ w. ChoiceHolds w g grid i first c)
    (record { to = u; same = same; holds = refl })
    (λ w out e. subst (λ (w : Assignment). Extends (first + 2) (law_size i) w (λ w. ChoiceHolds w g grid i first c)) (sym e)
    (extends_weaker (first + 2) (law_size i) u (λ w. SatisfiesAll w (law_clauses g (drawing_vars g grid) grid.width i (first + 2) (negative_of first ∷ [])))
    (λ w. ChoiceHolds w g grid i first c)
    (λ w moved h. record {
      satisfies = (inr (inl (moved.below (first + 1) (omega arith) ∙ spare)), h);
      selects = moved.below first (omega arith) ∙ selected;
    })
    (law_allows g above grid i (first + 2) (negative_of first ∷ []) is size few (omega arith) at choice u d u_reads loose
    (allowed u first c (Meets g grid d i) selected meets))))

pub choice_there : (vars : ℕ) (g : Graph) (above : ℕ → ℕ → Bool) (x : DrawingVars) (width : ℕ) (i : Instance) (first : ℕ) → IsTrackGraph g →
    AreVars vars g x width → IsInstance g above i → 1 ≤ first → first + choice_size i ≤ vars + 1 → AllThere vars (choice_clauses g x width i first)
choice_there vars g above x width i first is a at low high = (
  ((low, omega arith), ((omega arith, omega arith), tt)),
  law_there vars g above x width i (first + 2) (negative_of first ∷ []) is a at (omega arith) (omega arith) ((low, omega arith), tt),
)

-- ---- a list of them

-- laws of 2, 4, 5, 6 and 7 of the graph
abbrev pub AreChoices : Graph → (ℕ → ℕ → Bool) → List Instance → Type 0
AreChoices g above [] = ⊤
AreChoices g above (i ∷ rest) = (IsInstance g above i × IsChoice i) × AreChoices g above rest

abbrev pub at_place : List Instance → ℕ → Instance
at_place laws n = slice_index_or laws n (NodeOnGrid 0)

abbrev pub selector : ℕ → List Instance → ℕ → ℕ
selector first laws n = slice_index_or (selectors first laws) n 0

pub choices_mean : (v : Assignment) (g : Graph) (above : ℕ → ℕ → Bool) (grid : GridSize) (d : Drawing) (first : ℕ) (laws : List Instance) → IsTrackGraph g →
    AreChoices g above laws →
    ReadsDrawing v g (drawing_vars g grid) grid.width d → IsJoinedOnGrid g grid d →
    SatisfiesAll v (choices_clauses g (drawing_vars g grid) grid.width first laws) →
    (n : ℕ) → n < length laws → v (selector first laws n) ≡ true → Meets g grid d (at_place laws n)
choices_mean v g above grid d first [] is are reads loose h n lt on = absurd (omega (arith, lt))
choices_mean v g above grid d first (i ∷ rest) is are reads loose h zero lt on =
    choice_means v g above grid d i first is are.0.0 are.0.1 reads loose
    (satisfies_left v (choice_clauses g (drawing_vars g grid) grid.width i first)
    (choices_clauses g (drawing_vars g grid) grid.width (first + choice_size i) rest) h) on
choices_mean v g above grid d first (i ∷ rest) is are reads loose h (suc n) lt on =
    choices_mean v g above grid d (first + choice_size i) rest is are.1 reads loose
    (satisfies_right v (choice_clauses g (drawing_vars g grid) grid.width i first)
    (choices_clauses g (drawing_vars g grid) grid.width (first + choice_size i) rest) h)
    n (omega (arith, lt)) on

pub record ChoicesHold (w : Assignment) (g : Graph) (grid : GridSize) (first : ℕ) (laws : List Instance) (chosen : ℕ → Bool) : Type 0 where
  pub satisfies : SatisfiesAll w (choices_clauses g (drawing_vars g grid) grid.width first laws)
  pub selects : (n : ℕ) → n < length laws → w (selector first laws n) ≡ chosen n

pub choices_extend : (v : Assignment) (g : Graph) (above : ℕ → ℕ → Bool) (grid : GridSize) (d : Drawing) (first : ℕ) (laws : List Instance) (chosen : ℕ → Bool)
    → IsTrackGraph g → IsGrid grid → laws_first g grid ≤ VARS + 1 → laws_first g grid ≤ first → AreChoices g above laws →
    ReadsDrawing v g (drawing_vars g grid) grid.width d → IsJoinedOnGrid g grid d →
    ((n : ℕ) → n < length laws → chosen n ≡ true → Meets g grid d (at_place laws n)) →
    Extends first (choices_size laws) v (λ w. ChoicesHold w g grid first laws chosen)
choices_extend v g above grid d first [] chosen is size few later are reads loose meets = record {
  to = v;
  same = same_none first 0 v;
  holds = record { satisfies = tt; selects = λ n lt. absurd (omega (arith, lt)) };
}
choices_extend v g above grid d first (i ∷ rest) chosen is size few later are reads loose meets =
    let x = drawing_vars g grid in
    let m = choice_size i in
    let last = base_last g grid in
    let one = choice_clauses g x grid.width i first in
    let a = base_vars g grid size few in
    extends_both first m (choices_size rest) v (λ w. ChoiceHolds w g grid i first (chosen 0)) (λ w. ChoicesHold w g grid first (i ∷ rest) chosen)
    (choice_extends v g above grid d i first (chosen 0) is size few later are.0.0 are.0.1 reads loose (λ c. meets 0 (omega arith) c))
    (λ w out h. extends_weaker (first + m) (choices_size rest) w (λ u. ChoicesHold u g grid (first + m) rest (λ n. chosen (suc n)))
    (λ u. ChoicesHold u g grid first (i ∷ rest) chosen)
    (λ u moved k. record {
      satisfies = join u one (choices_clauses g x grid.width (first + m) rest)
          (satisfies_before (first + m) (choices_size rest) (first + m - 1) w u one (omega arith)
          (choice_there (first + m - 1) g above x grid.width i first is (vars_more last (first + m - 1) g x grid.width (omega arith) a) are.0.0 (omega arith)
          (omega arith)) moved h.satisfies)
          k.satisfies;
      selects = each u first m rest chosen (moved.below first (omega arith) ∙ h.selects) k.selects;
    })
    (choices_extend w g above grid d (first + m) rest (λ n. chosen (suc n)) is size few (omega arith) are.1
    (drawing_stays v w last g x grid.width d a (λ y le. out.below y (omega arith)) reads) loose
    (λ n lt c. meets (suc n) (omega arith) c)))
  where
    join : (u : Assignment) (xs ys : Clauses) → SatisfiesAll u xs → SatisfiesAll u ys → SatisfiesAll u (xs ++ ys)
    join u [] ys h k = k
    join u (x ∷ xs) ys h k = (h.0, join u xs ys h.1 k)

    each : (u : Assignment) (first m : ℕ) (rest : List Instance) (chosen : ℕ → Bool) → u first ≡ chosen 0 →
        ((n : ℕ) → n < length rest → u (selector (first + m) rest n) ≡ chosen (suc n)) →
        (n : ℕ) → n < suc (length rest) → u (slice_index_or (first ∷ selectors (first + m) rest) n 0) ≡ chosen n
    each u first m rest chosen one more zero lt = one
    each u first m rest chosen one more (suc n) lt = more n (omega (arith, lt))
