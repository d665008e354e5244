-- The formula of loose drawings with laws to choose: sound and complete.
use Rattle.std.proofs.Common.{◌≡◌, ℕ, zero, suc, ◌+◌, ◌-◌, ◌≤◌, Bool, true, false, not, cond, List, [], ◌∷◌, ◌++◌, length, arith}
use Rattle.std.specs.Prelude.{⊤, ◌||◌}
use Rattle.std.specs.List.{All}
use Rattle.std.proofs.lemmas.List.Elements.{All-nil, All-cons}
use Rattle.plan_core.specs.Grid.{GridSize, IsGrid}
use Rattle.plan_core.specs.Graph.{Graph, IsTrackGraph}
use Rattle.plan_core.specs.Lawful.{Instance, NodeOnGrid, LineOnGrid, Ordered, Joined, Aligned, Apart, Over, Parted}
use Rattle.cnf_core.specs.declared.limits.TheConstants.{VARS}
use Rattle.cnf_core.specs.Assignment.{Extends}
use Rattle.cnf_core.proofs.ClauseLemmas.{satisfies_append, satisfies_left, satisfies_right, satisfies_all_same}
use Rattle.drawing_cnf.specs.Expected.{drawing_vars, laws_first, base_clauses, instances_from, pairs_from, instance_pairs, edge_pair, instances}
use Rattle.drawing_cnf.proofs.InstanceLemmas.{AreInstances, drawing_stays}
use Rattle.drawing_cnf.proofs.BaseLemmas.{base_means, base_last, base_vars, base_there, BaseHolds, base_extends}
use Rattle.drawing_cnf.proofs.MainLemmas.{reads_stand, HasClauses, AreTablesOf, all_listed}
use Rattle.search_why.specs.Explained.{IsChoice, IsChoiceOf}
use Rattle.search_why.specs.Task.{HasAllLaws}
use Rattle.law_core.specs.Choices.{choices_size, choices_clauses, loose_clauses, why_clauses}
use Rattle.law_core.specs.Chosen.{SoundChoices, CoversChoices}
use Rattle.law_core.proofs.LooseLemmas.{joined_loose, loose_joined}
use Rattle.law_core.proofs.ChoiceLemmas.{AreChoices, choices_mean, ChoicesHold, choices_extend}

pub sound : (g : Graph) (above : ℕ → ℕ → Bool) (grid : GridSize) (laws : List Instance) → IsTrackGraph g → IsGrid grid → AreChoices g above laws →
    SoundChoices g grid laws (loose_clauses g grid laws)
sound g above grid laws is size are v h =
    let x = drawing_vars g grid in
    let base = base_clauses g x grid in
    let more = choices_clauses g x grid.width (laws_first g grid) laws in
    let b = base_means v g grid is size (satisfies_left v base more h) in
    record {
      drawing = b.drawing;
      stands = reads_stand v g x grid b.drawing b.reads b.loose;
      loose = joined_loose g grid b.drawing b.loose;
      meets = choices_mean v g above grid b.drawing (laws_first g grid) laws is are b.reads b.loose (satisfies_right v base more h);
    }

pub covers : (g : Graph) (above : ℕ → ℕ → Bool) (grid : GridSize) (laws : List Instance) → IsTrackGraph g → IsGrid grid → laws_first g grid ≤ VARS + 1 →
    AreChoices g above laws → CoversChoices g grid laws (loose_clauses g grid laws)
covers g above grid laws is size few are d loose chosen meets =
    let x = drawing_vars g grid in
    let joined = loose_joined g grid d is loose in
    let last = base_last g grid in
    let first = laws_first g grid in
    let a = base_vars g grid size few in
    let b : Extends 1 last (λ y. true) (λ w. BaseHolds w g grid d) = base_extends g grid d (λ y. true) is size few joined in
    let c : Extends first (choices_size laws) b.to (λ w. ChoicesHold w g grid first laws chosen) =
    choices_extend b.to g above grid d first laws chosen is size few (omega arith) are b.holds.reads joined meets in
    let same : (y : ℕ) → y ≤ last → c.to y ≡ b.to y = λ y le. c.same.below y (omega arith) in
    let reads = drawing_stays b.to c.to last g x grid.width d a same b.holds.reads in
    record {
      to = c.to;
      satisfies = satisfies_append c.to (base_clauses g x grid) (choices_clauses g x grid.width first laws)
          (satisfies_all_same b.to c.to last (base_clauses g x grid) (base_there g grid is size few) same b.holds.satisfies) c.holds.satisfies;
      stands = reads_stand c.to g x grid d reads joined;
      selects = c.holds.selects;
    }

-- ---- all laws of a graph

-- laws of 2, 4, 5, 6 and 7
abbrev pub AllChoices : List Instance → Type 0
AllChoices [] = ⊤
AllChoices (i ∷ rest) = IsChoice i × AllChoices rest

choices_both : (xs ys : List Instance) → AllChoices xs → AllChoices ys → AllChoices (xs ++ ys)
choices_both [] ys h k = k
choices_both (x ∷ xs) ys h k = (h.0, choices_both xs ys h.1 k)

listed_choices : (f : ℕ → List Instance) (first n : ℕ) → ((k : ℕ) → AllChoices (f k)) → AllChoices (instances_from f first n)
listed_choices f first zero h = tt
listed_choices f first (suc n) h = choices_both (f first) (instances_from f (first + 1) n) (h first) (listed_choices f (first + 1) n h)

paired_choices : (f : ℕ → ℕ → List Instance) (n : ℕ) → ((a b : ℕ) → AllChoices (f a b)) → AllChoices (instance_pairs n f)
paired_choices f n h = listed_choices (pairs_from n f) 0 n (λ a. listed_choices (f a) (a + 1) (n - (a + 1)) (h a))

edge_choices : (a b o : Bool) (e f : ℕ) → AllChoices (cond a (Over e f ∷ []) [] ++ (cond b (Over f e ∷ []) [] ++ cond (a || (b || not o)) [] (Parted e f ∷ [])))
edge_choices true true o e f = (tt, (tt, tt))
edge_choices true false o e f = (tt, tt)
edge_choices false true o e f = (tt, tt)
edge_choices false false true e f = (tt, tt)
edge_choices false false false e f = tt

all_choices : (g : Graph) (above overlap : ℕ → ℕ → Bool) → AllChoices (instances g above overlap)
all_choices g above overlap =
    choices_both (instance_pairs (length g.nodes) (λ u v. Ordered u v ∷ [])) (instances_from (λ n. Aligned n ∷ []) 0 (length g.nodes)
    ++ (instance_pairs (length g.nodes) (λ u v. Apart u v ∷ []) ++ instance_pairs (length g.edges) (edge_pair above overlap)))
    (paired_choices (λ u v. Ordered u v ∷ []) (length g.nodes) (λ a b. (tt, tt)))
    (choices_both (instances_from (λ n. Aligned n ∷ []) 0 (length g.nodes)) (instance_pairs (length g.nodes) (λ u v. Apart u v ∷ []) ++ instance_pairs
    (length g.edges) (edge_pair above overlap))
    (listed_choices (λ n. Aligned n ∷ []) 0 (length g.nodes) (λ k. (tt, tt)))
    (choices_both (instance_pairs (length g.nodes) (λ u v. Apart u v ∷ [])) (instance_pairs (length g.edges) (edge_pair above overlap))
    (paired_choices (λ u v. Apart u v ∷ []) (length g.nodes) (λ a b. (tt, tt)))
    (paired_choices (edge_pair above overlap) (length g.edges) (λ e f. edge_choices (above e f) (above f e) (overlap e f) e f))))

-- the listed laws are those that a loose drawing may meet or not
are_choices : (g : Graph) (above : ℕ → ℕ → Bool) (laws : List Instance) → AreInstances g above laws → AllChoices laws → AreChoices g above laws
are_choices g above [] are h = tt
are_choices g above (i ∷ rest) are h = ((are.0, h.0), are_choices g above rest are.1 h.1)

pub laws_are_choices : (g : Graph) (above overlap : ℕ → ℕ → Bool) → AreTablesOf g above overlap → AreChoices g above (instances g above overlap)
laws_are_choices g above overlap t = are_choices g above (instances g above overlap) (all_listed g above overlap t).are (all_choices g above overlap)

each_choice : (g : Graph) (above : ℕ → ℕ → Bool) (laws : List Instance) → AreChoices g above laws → All (IsChoiceOf g above) laws
each_choice g above [] h = All-nil (IsChoiceOf g above)
each_choice g above (i ∷ rest) h = All-cons (IsChoiceOf g above) i rest (record { is = h.0.0; choice = h.0.1 }) (each_choice g above rest h.1)

has_clauses : (i : Instance) → IsChoice i → HasClauses i
has_clauses (NodeOnGrid n) h = absurd h
has_clauses (LineOnGrid e) h = absurd h
has_clauses (Joined e) h = absurd h
has_clauses (Ordered u v) h = tt
has_clauses (Aligned n) h = tt
has_clauses (Apart u v) h = tt
has_clauses (Over e f) h = tt
has_clauses (Parted e f) h = tt

-- the list that a search goes over
pub all_laws : (g : Graph) (above overlap : ℕ → ℕ → Bool) (grid : GridSize) (budget room : ℕ) → AreTablesOf g above overlap →
    HasAllLaws (record {
      graph = g;
      above = above;
      grid = grid;
      laws = instances g above overlap;
      clauses = why_clauses g above overlap grid;
      budget = budget;
      room = room;
    })
all_laws g above overlap grid budget room t = record {
  each = each_choice g above (instances g above overlap) (laws_are_choices g above overlap t);
  all = λ i is choice. (all_listed g above overlap t).all i is (has_clauses i choice);
}

-- the formula
pub why_sound : (g : Graph) (above overlap : ℕ → ℕ → Bool) (grid : GridSize) → IsTrackGraph g → IsGrid grid → AreTablesOf g above overlap →
    SoundChoices g grid (instances g above overlap) (why_clauses g above overlap grid)
why_sound g above overlap grid is size t = sound g above grid (instances g above overlap) is size (laws_are_choices g above overlap t)

pub why_covers : (g : Graph) (above overlap : ℕ → ℕ → Bool) (grid : GridSize) → IsTrackGraph g → IsGrid grid → laws_first g grid ≤ VARS + 1 →
    AreTablesOf g above overlap → CoversChoices g grid (instances g above overlap) (why_clauses g above overlap grid)
why_covers g above overlap grid is size few t = covers g above grid (instances g above overlap) is size few (laws_are_choices g above overlap t)
