-- The clauses of loose drawings with laws to choose: each law holds where its selecting variable is true.
use Rattle.std.specs.Prelude.{ℕ, ◌+◌, ◌-◌, Bool, List, [], ◌∷◌, ◌++◌}
use Rattle.std.specs.Ordering.{int_cmp}
use Rattle.plan_core.specs.Grid.{GridSize}
use Rattle.plan_core.specs.Graph.{Graph, mileage}
use Rattle.plan_core.specs.Lawful.{Instance, Ordered, Aligned, Apart, Over, Parted}
use Rattle.cnf_core.specs.declared.literal.LitOrTruth.TheVariants.{False}
use Rattle.cnf_core.specs.Lit.{Literal, positive_of, negative_of}
use Rattle.cnf_core.specs.Clause.{Clauses}
use Rattle.drawing_cnf.specs.Stands.{DrawingVars}
use Rattle.drawing_cnf.specs.LawClauses.{ordered_clauses, aligned_clauses, anywhere_clauses}
use Rattle.drawing_cnf.specs.LawClauses.{over_clauses, parted_clauses}
use Rattle.drawing_cnf.specs.Expected.{drawing_vars, laws_first, base_clauses, instances}

-- how many variables of its own a law has
abbrev pub law_size : Instance → ℕ
law_size (Apart u v) = 2
law_size (Parted e f) = 1
law_size other = 0

-- a law's clauses, unless one of these literals is true; its own variables begin at first. The laws on the grid and on
-- ends of lines have none: they hold of every loose drawing. Law 5 presumes nothing of law 2
abbrev pub law_clauses : Graph → DrawingVars → ℕ → Instance → ℕ → List Literal → Clauses
law_clauses g x width (Ordered u v) first unless =
    ordered_clauses (int_cmp (mileage g u) (mileage g v)) (x.node u).x (x.node v).x unless
law_clauses g x width (Aligned n) first unless = aligned_clauses g x n unless
law_clauses g x width (Apart u v) first unless = anywhere_clauses first (x.node u) (x.node v) unless
law_clauses g x width (Over e f) first unless = over_clauses g x width e f False unless
law_clauses g x width (Parted e f) first unless = parted_clauses g x width e f first unless
law_clauses g x width other first unless = []

-- a law to choose: the variable at first selects it. The next is true where it is selected, which names the selecting
-- variable in a clause and says nothing of drawings; the law's own variables lie behind
abbrev pub choice_size : Instance → ℕ
choice_size i = 2 + law_size i

abbrev pub choice_clauses : Graph → DrawingVars → ℕ → Instance → ℕ → Clauses
choice_clauses g x width i first =
    (negative_of first ∷ positive_of (first + 1) ∷ []) ∷ law_clauses g x width i (first + 2) (negative_of first ∷ [])

abbrev pub choices_size : List Instance → ℕ
choices_size [] = 0
choices_size (i ∷ rest) = choice_size i + choices_size rest

abbrev pub choices_clauses : Graph → DrawingVars → ℕ → ℕ → List Instance → Clauses
choices_clauses g x width first [] = []
choices_clauses g x width first (i ∷ rest) =
    choice_clauses g x width i first ++ choices_clauses g x width (first + choice_size i) rest

-- the selecting variable of each law
abbrev pub selectors : ℕ → List Instance → List ℕ
selectors first [] = []
selectors first (i ∷ rest) = first ∷ selectors (first + choice_size i) rest

-- the formula of these laws. The variables of nodes and edges lie as in the formula of lawful drawings, the laws'
-- behind
abbrev pub loose_clauses : Graph → GridSize → List Instance → Clauses
loose_clauses g grid laws =
    base_clauses g (drawing_vars g grid) grid
    ++ choices_clauses g (drawing_vars g grid) grid.width (laws_first g grid) laws

-- how many variables it has
abbrev pub loose_size : Graph → GridSize → List Instance → ℕ
loose_size g grid laws = laws_first g grid + choices_size laws - 1

-- The formula of a graph whose tables say which edges are above which, and which overlap: with all of its laws.

-- the clauses of all laws of a graph, each of which can be selected
abbrev pub why_clauses : Graph → (ℕ → ℕ → Bool) → (ℕ → ℕ → Bool) → GridSize → Clauses
why_clauses g above overlap grid = loose_clauses g grid (instances g above overlap)

-- how many variables these clauses have
abbrev pub why_size : Graph → (ℕ → ℕ → Bool) → (ℕ → ℕ → Bool) → GridSize → ℕ
why_size g above overlap grid = loose_size g grid (instances g above overlap)
