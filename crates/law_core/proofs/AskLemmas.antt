-- A question about laws, and what its answer says of drawings.
use Rattle.std.proofs.Common.{◌≡◌, ◌≢◌, ◌≤◌, ◌<◌, ℕ, zero, suc, ◌+◌, Bool, true, false, List, [], ◌∷◌, length, get_or, refl, sym, ◌∙◌, ap, subst, inl, inr}
use Rattle.std.proofs.Common.{arith}
use Rattle.std.specs.Prelude.{All, AllPairs, Contains, Some, ◌||◌, ◌==◌, cond, filter, slice_index_or}
use Rattle.std.proofs.lemmas.Bool.Decides.{nat_tests}
use Rattle.std.proofs.lemmas.List.Elements.{All-nil, All-cons, All-head, All-tail, All-contains, All-weaker, Contains-get_or, Contains-append_cases}
use Rattle.std.proofs.lemmas.List.Elements.{Contains-append_right}
use Rattle.plan_core.proofs.Listing.{Contains-filter}
use Rattle.plan_core.proofs.ListFacts.{pairs_head, pairs_tail}
use Rattle.plan_core.specs.Graph.{Graph}
use Rattle.plan_core.specs.Grid.{GridSize}
use Rattle.plan_core.specs.Drawing.{Drawing}
use Rattle.plan_core.specs.Lawful.{Instance}
use Rattle.cnf_core.specs.declared.limits.TheConstants.{VARS}
use Rattle.cnf_core.specs.Lit.{Literal, positive_of}
use Rattle.cnf_core.specs.Clause.{Clauses, Avoids, AreDistinct, IsNamed}
use Rattle.cnf_core.specs.Assignment.{Assignment, SatisfiesAll, truth}
use Rattle.cnf_core.specs.Truths.{assignment}
use Rattle.cnf_core.specs.Propagation.{AreAmong}
use Rattle.cnf_core.proofs.ClauseLemmas.{satisfies_left}
use Rattle.cnf_core.proofs.PropagationLemmas.{only_one}
use Rattle.drawing_cnf.specs.Stands.{StandsFor, IsJoinedOnGrid}
use Rattle.drawing_cnf.specs.Expected.{drawing_vars, laws_first, base_clauses}
use Rattle.drawing_cnf.specs.Layout.{Layout}
use Rattle.cdcl_core.specs.Kept.{Kept, MakesTrue, HasModel, AreRefuted}
use Rattle.lex_minimise.proofs.GrowLemmas.{named_in}
use Rattle.search_why.specs.Task.{MeetsAt}
use Rattle.search_why.specs.Asked.{AreLawPlaces, NoneMeetsLaws}
use Rattle.search_why.specs.Narrowed.{has_number}
use Rattle.search_why.proofs.PlaceLemmas.{has_contained}
use Rattle.law_core.specs.Choices.{choice_size, choices_size, choices_clauses, selectors, loose_clauses}
use Rattle.law_core.specs.Chosen.{selector_at, ChoiceModel}
use Rattle.law_core.specs.Known.{laws_of, formula_of, task_of, IsWhyFormula, AreSelecting, IsReady}
use Rattle.law_core.specs.Query.{query_of, has_variable, places_in}
use Rattle.law_core.proofs.LooseLemmas.{loose_joined}
use Rattle.law_core.proofs.SelectorLemmas.{selectors_named, selectors_apart}

-- ---- the selecting variables

pub selectors_count : (first : ℕ) (laws : List Instance) → length (selectors first laws) ≡ length laws
selectors_count first [] = refl
selectors_count first (i ∷ rest) = ap suc (selectors_count (first + choice_size i) rest)

selectors_within : (first : ℕ) (laws : List Instance) (top : ℕ) → 1 ≤ first → first + choices_size laws ≤ top + 1 →
    All (λ x. (1 ≤ x) × (x ≤ top)) (selectors first laws)
selectors_within first [] top low high = All-nil (λ (x : ℕ). (1 ≤ x) × (x ≤ top))
selectors_within first (i ∷ rest) top low high =
    All-cons (λ (x : ℕ). (1 ≤ x) × (x ≤ top)) first (selectors (first + choice_size i) rest) (low, omega (arith, high))
    (selectors_within (first + choice_size i) rest top (omega (arith, low)) (omega (arith, high)))

pub selecting_within : (y : Layout) (selecting : List ℕ) (budget room : ℕ) (k : Kept) → IsReady y selecting budget room k →
    All (λ x. (1 ≤ x) × (x ≤ VARS)) selecting
selecting_within y selecting budget room k ready =
    let few = (ready.facts).few in
    subst (All (λ x. (1 ≤ x) × (x ≤ VARS))) (sym ready.selecting_are)
    (selectors_within (laws_first y.graph y.grid) (laws_of y) VARS (omega arith) (omega (arith, few)))

pub selecting_count : (y : Layout) (selecting : List ℕ) → AreSelecting y selecting → length selecting ≡ length (laws_of y)
selecting_count y selecting is = ap length is ∙ selectors_count (laws_first y.graph y.grid) (laws_of y)

fewer : (laws : List Instance) → length laws ≤ choices_size laws
fewer [] = omega arith
fewer (i ∷ rest) = let le = fewer rest in omega (arith, le)

pub selecting_few : (y : Layout) (selecting : List ℕ) (budget room : ℕ) (k : Kept) → IsReady y selecting budget room k → length selecting ≤ VARS
selecting_few y selecting budget room k ready =
    let count = selecting_count y selecting ready.selecting_are in
    let le = fewer (laws_of y) in
    let few = (ready.facts).few in
    omega (arith, count, le, few)

pub wanted_there : (y : Layout) (selecting wanted : List ℕ) (budget room : ℕ) → AreSelecting y selecting → AreLawPlaces (task_of y budget room) wanted →
    All (λ n. n < length selecting) wanted
wanted_there y selecting wanted budget room is places =
    All-weaker (λ n. n < length (laws_of y)) (λ n. n < length selecting) (λ n lt. subst (λ m. n < m) (sym (selecting_count y selecting is)) lt) wanted
    places.there

-- ---- the query

query_avoids : (g : Graph) (grid : GridSize) (laws : List Instance) (n : ℕ) (wanted : List ℕ) → n < length laws → All (λ k. k < length laws) wanted →
    All (λ k. n ≢ k) wanted →
    Avoids (selector_at g grid laws n) (query_of (selectors (laws_first g grid) laws) wanted)
query_avoids g grid laws n [] lt there other = tt
query_avoids g grid laws n (k ∷ ks) lt there other = (
  selectors_apart g grid laws n k lt (All-head (λ i. i < length laws) k ks there) (All-head (λ i. n ≢ i) k ks other),
  query_avoids g grid laws n ks lt (All-tail (λ i. i < length laws) k ks there) (All-tail (λ i. n ≢ i) k ks other),
)

query_distinct : (g : Graph) (grid : GridSize) (laws : List Instance) (wanted : List ℕ) → All (λ k. k < length laws) wanted → AllPairs (λ a b. a ≢ b) wanted →
    AreDistinct (query_of (selectors (laws_first g grid) laws) wanted)
query_distinct g grid laws [] there once = tt
query_distinct g grid laws (n ∷ ns) there once = (
  query_avoids g grid laws n ns (All-head (λ i. i < length laws) n ns there) (All-tail (λ i. i < length laws) n ns there) (pairs_head (λ a b. a ≢ b) n ns once),
  query_distinct g grid laws ns (All-tail (λ i. i < length laws) n ns there) (pairs_tail (λ a b. a ≢ b) n ns once),
)

pub distinct : (y : Layout) (selecting wanted : List ℕ) (budget room : ℕ) → AreSelecting y selecting → AreLawPlaces (task_of y budget room) wanted →
    AreDistinct (query_of selecting wanted)
distinct y selecting wanted budget room is places =
    subst (λ (xs : List ℕ). AreDistinct (query_of xs wanted)) (sym is) (query_distinct y.graph y.grid (laws_of y) wanted places.there places.once)

query_named : (g : Graph) (grid : GridSize) (laws : List Instance) (ds : Clauses) (wanted : List ℕ) → AreAmong (loose_clauses g grid laws) ds →
    All (λ k. k < length laws) wanted →
    All (λ l. IsNamed ds l.var) (query_of (selectors (laws_first g grid) laws) wanted)
query_named g grid laws ds [] among there = All-nil (λ (l : Literal). IsNamed ds l.var)
query_named g grid laws ds (n ∷ ns) among there =
    let x = selector_at g grid laws n in
    All-cons (λ (l : Literal). IsNamed ds l.var) (positive_of x) (query_of (selectors (laws_first g grid) laws) ns)
    (named_in (loose_clauses g grid laws) ds x among (selectors_named g grid laws n (All-head (λ i. i < length laws) n ns there)))
    (query_named g grid laws ds ns among (All-tail (λ i. i < length laws) n ns there))

pub named : (y : Layout) (selecting wanted : List ℕ) (budget room : ℕ) (ds : Clauses) → AreSelecting y selecting → AreAmong (formula_of y) ds →
    AreLawPlaces (task_of y budget room) wanted →
    All (λ l. IsNamed ds l.var) (query_of selecting wanted)
named y selecting wanted budget room ds is among places =
    subst (λ (xs : List ℕ). All (λ l. IsNamed ds l.var) (query_of xs wanted)) (sym is) (query_named y.graph y.grid (laws_of y) ds wanted among places.there)

-- ---- the drawing that is found

pub base_model : (y : Layout) (v : Assignment) → SatisfiesAll v (formula_of y) → SatisfiesAll v (base_clauses y.graph (drawing_vars y.graph y.grid) y.grid)
base_model y v h = satisfies_left v (base_clauses y.graph (drawing_vars y.graph y.grid) y.grid)
    (choices_clauses y.graph (drawing_vars y.graph y.grid) y.grid.width (laws_first y.graph y.grid) (laws_of y)) h

pub long_enough : (y : Layout) (selecting : List ℕ) (budget room : ℕ) (k : Kept) (n : ℕ) → IsReady y selecting budget room k → n ≡ k.vars →
    laws_first y.graph y.grid ≤ n + 1
long_enough y selecting budget room k n ready is = let v = ready.vars in omega (arith, v, is)

pub meets_each : (y : Layout) (budget room : ℕ) (v : Assignment) (d : Drawing) (wanted : List ℕ) →
    ((n : ℕ) → n < length (laws_of y) → v (selector_at y.graph y.grid (laws_of y) n) ≡ true → MeetsAt (task_of y budget room) d n) →
    All (λ k. k < length (laws_of y)) wanted → MakesTrue v (query_of (selectors (laws_first y.graph y.grid) (laws_of y)) wanted) →
    All (MeetsAt (task_of y budget room) d) wanted
meets_each y budget room v d [] meets there true_all = All-nil (MeetsAt (task_of y budget room) d)
meets_each y budget room v d (n ∷ ns) meets there true_all =
    let x = selector_at y.graph y.grid (laws_of y) n in
    let rest = query_of (selectors (laws_first y.graph y.grid) (laws_of y)) ns in
    let holds : v x ≡ true = All-head (λ l. truth v l ≡ true) (positive_of x) rest true_all in
    All-cons (MeetsAt (task_of y budget room) d) n ns (meets n (All-head (λ i. i < length (laws_of y)) n ns there) holds)
    (meets_each y budget room v d ns meets (All-tail (λ i. i < length (laws_of y)) n ns there) (All-tail (λ l. truth v l ≡ true) (positive_of x) rest true_all))

found_meets : (y : Layout) (selecting wanted : List ℕ) (budget room : ℕ) (v : Assignment) (d : Drawing) → IsWhyFormula y → AreSelecting y selecting →
    AreLawPlaces (task_of y budget room) wanted → SatisfiesAll v (formula_of y) → MakesTrue v (query_of selecting wanted) →
    ((other : Drawing) → IsJoinedOnGrid y.graph y.grid other → StandsFor v y.graph (drawing_vars y.graph y.grid) other → other ≡ d) →
    All (MeetsAt (task_of y budget room) d) wanted
found_meets y selecting wanted budget room v d facts is places all true_all alone =
    let s = facts.sound v all in
    let same : s.drawing ≡ d = alone s.drawing (loose_joined y.graph y.grid s.drawing facts.graph s.loose) s.stands in
    subst (λ (x : Drawing). All (MeetsAt (task_of y budget room) x) wanted) same
    (meets_each y budget room v s.drawing wanted s.meets places.there (subst (λ (xs : List ℕ). MakesTrue v (query_of xs wanted)) is true_all))

pub model_meets : (y : Layout) (selecting wanted : List ℕ) (budget room : ℕ) (k : Kept) (assume : List Literal) (m : List Bool) (d : Drawing) →
    IsReady y selecting budget room k → AreLawPlaces (task_of y budget room) wanted → assume ≡ query_of selecting wanted →
    HasModel (formula_of y) assume k → k.model ≡ Some m → ((other : Drawing) → IsJoinedOnGrid y.graph y.grid other → StandsFor (assignment m) y.graph
    (drawing_vars y.graph y.grid) other → other ≡ d) → All (MeetsAt (task_of y budget room) d) wanted
model_meets y selecting wanted budget room k assume m d ready places is model k_model alone =
    let same : model.values ≡ m = (let e : Some (model.values) ≡ Some m = sym model.model ∙ k_model in cc) in
    found_meets y selecting wanted budget room (assignment m) d ready.facts ready.selecting_are places
    (subst (λ (x : List Bool). SatisfiesAll (assignment x) (formula_of y)) same model.clauses)
    (subst (MakesTrue (assignment m)) is (subst (λ (x : List Bool). MakesTrue (assignment x) assume) same model.assumptions)) alone

-- ---- the places that a refutation needs

number_there : (xs : List ℕ) (n : ℕ) → has_number xs n ≡ true → Contains xs n
number_there [] n h = absurd (cc)
number_there (x ∷ xs) n h = by (x == n) refl h (λ k. number_there xs n k)
  where
    by : (b : Bool) → (x == n) ≡ b → (b || has_number xs n) ≡ true → (has_number xs n ≡ true → Contains xs n) → Contains (x ∷ xs) n
    by true e k later = (0, omega arith, (let same : x ≡ n = grind (arith, nat_tests, e) in same))
    by false e k later = let c = later k in (suc c.0, (let lt = c.1 in omega (arith, lt)), c.2)

itself : (n : ℕ) → (n == n) ≡ true
itself n = grind (arith, nat_tests)

pub variable_there : (ls : List Literal) (l : Literal) → Contains ls l → has_variable ls l.var ≡ true
variable_there [] l (k, lt, is) = absurd (omega (arith, lt))
variable_there (m ∷ ms) l (zero, lt, is) = ap (λ (z : Literal). (z.var == l.var) || has_variable ms l.var) is
    ∙ ap (λ b. b || has_variable ms l.var) (itself l.var)
variable_there (m ∷ ms) l (suc k, lt, is) = or_right (m.var == l.var) (has_variable ms l.var) (variable_there ms l (k, omega (arith, lt), is))
  where
    or_right : (a b : Bool) → b ≡ true → (a || b) ≡ true
    or_right true b h = refl
    or_right false b h = h

-- an assumption is of one of the places
record IsOfPlace (selecting wanted : List ℕ) (l : Literal) : Type 0 where
  place : ℕ
  among : Contains wanted place
  is : l ≡ positive_of (slice_index_or selecting place 0)

of_place : (selecting wanted : List ℕ) (l : Literal) → Contains (query_of selecting wanted) l → IsOfPlace selecting wanted l
of_place selecting [] l there = absurd (let lt = there.1 in omega (arith, lt))
of_place selecting (n ∷ ns) l there = elim (Contains-append_cases (positive_of (slice_index_or selecting n 0) ∷ []) (query_of selecting ns) l there) [
  | inl here ↦ record { place = n; among = (0, omega arith, refl); is = sym (only_one (positive_of (slice_index_or selecting n 0)) l here) }
  | inr later ↦ let r = of_place selecting ns l later in record { place = r.place; among = Contains-append_right (n ∷ []) ns r.place r.among; is = r.is }
]

core_true : (y : Layout) (selecting wanted : List ℕ) (refuted : List Literal) (v : Assignment) → AreSelecting y selecting →
    All (λ k. k < length (laws_of y)) wanted → All (λ l. Contains (query_of selecting wanted) l) refuted →
    ((n : ℕ) → n < length (laws_of y) → v (selector_at y.graph y.grid (laws_of y) n) ≡ has_number (places_in selecting refuted wanted) n) → MakesTrue v refuted
core_true y selecting wanted refuted v is there among selects = λ k d lt.
    let l = get_or refuted k d in
    let r : IsOfPlace selecting wanted l = of_place selecting wanted l (among k d lt) in
    let n = r.place in
    let x = slice_index_or selecting n 0 in
    let named : has_variable refuted x ≡ true = ap (has_variable refuted) (sym (ap (λ (z : Literal). z.var) r.is))
    ∙ variable_there refuted l (Contains-get_or refuted k d lt) in
    let core : Contains (places_in selecting refuted wanted) n = Contains-filter (λ i. has_variable refuted (slice_index_or selecting i 0)) wanted n r.among
    named in
    let within : n < length (laws_of y) = All-contains (λ i. i < length (laws_of y)) wanted n there r.among in
    let same : v x ≡ v (selector_at y.graph y.grid (laws_of y) n) = ap (λ (xs : List ℕ). v (slice_index_or xs n 0)) is in
    ap (truth v) r.is ∙ (same ∙ selects n within ∙ has_contained (places_in selecting refuted wanted) n core)

pub core_refuted : (y : Layout) (selecting wanted : List ℕ) (budget room : ℕ) (assume refuted : List Literal) → IsWhyFormula y → AreSelecting y selecting →
    AreLawPlaces (task_of y budget room) wanted → assume ≡ query_of selecting wanted →
    AreRefuted (formula_of y) assume refuted → NoneMeetsLaws (task_of y budget room) (places_in selecting refuted wanted)
core_refuted y selecting wanted budget room assume refuted facts is places asked none = λ d loose all.
    let core = places_in selecting refuted wanted in
    let m : ChoiceModel y.graph y.grid (laws_of y) (formula_of y) d (has_number core) =
    facts.covers d loose (has_number core) (λ n lt yes. All-contains (MeetsAt (task_of y budget room) d) core n all (number_there core n yes)) in
    let among : All (λ l. Contains (query_of selecting wanted) l) refuted = subst (λ (ls : List Literal). All (λ l. Contains ls l) refuted) asked none.among in
    none.none m.to m.satisfies (core_true y selecting wanted refuted m.to is places.there among m.selects)

-- those that are kept are among the places
pub kept_among : (t : ℕ → Bool) (xs : List ℕ) → All (Contains xs) (filter t xs)
kept_among t [] = All-nil (Contains [])
kept_among t (x ∷ xs) = by (t x) (All-weaker (Contains xs) (Contains (x ∷ xs)) (λ n c. Contains-append_right (x ∷ []) xs n c) (filter t xs) (kept_among t xs))
  where
    by : (b : Bool) → All (Contains (x ∷ xs)) (filter t xs) → All (Contains (x ∷ xs)) (cond b (x ∷ filter t xs) (filter t xs))
    by true h = All-cons (Contains (x ∷ xs)) x (filter t xs) (0, omega arith, refl) h
    by false h = h

-- the reply of a refuted question
pub core_reply : (y : Layout) (selecting slice wanted core : List ℕ) (budget room : ℕ) (assume refuted literals : List Literal) → IsWhyFormula y →
    AreSelecting y selecting → AreLawPlaces (task_of y budget room) wanted → assume ≡ query_of selecting wanted →
    AreRefuted (formula_of y) assume refuted → slice ≡ selecting → literals ≡ refuted → core ≡ places_in slice literals wanted →
    All (Contains wanted) core × NoneMeetsLaws (task_of y budget room) core
core_reply y selecting slice wanted core budget room assume refuted literals facts are places asked none same_slice same_literals is =
    subst (λ (c : List ℕ). All (Contains wanted) c × NoneMeetsLaws (task_of y budget room) c)
    (sym (is ∙ ap (λ (ls : List Literal). places_in slice ls wanted) same_literals ∙ ap (λ (xs : List ℕ). places_in xs refuted wanted) same_slice)) (
      kept_among (λ n. has_variable refuted (slice_index_or selecting n 0)) wanted,
      core_refuted y selecting wanted budget room assume refuted facts are places
          asked none,
    )
