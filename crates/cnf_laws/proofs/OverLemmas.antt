-- Laws 6 and 7: lines over one another.
use Rattle.std.proofs.Common.{◌≡◌, ◌⊎◌, ℕ, ◌+◌, ◌≤◌, ◌<◌, Bool, true, false, not, cond, List, length, inl, inr, refl, sym, ◌∙◌, ap, subst, arith}
use Rattle.std.specs.Prelude.{nat_le, nat_eq, ◌&&◌}
use Rattle.std.proofs.lemmas.Bool.Decides.{nat_tests, leb_tells, eqb_tells}
use Rattle.plan_core.specs.declared.point.Point.{Point}
use Rattle.plan_core.specs.Grid.{GridSize}
use Rattle.plan_core.specs.Graph.{Graph, edge, IsEndOf, IsTrackGraph}
use Rattle.plan_core.specs.Line.{west_end, east_end, HasColumn, height}
use Rattle.plan_core.specs.Drawing.{Drawing, place, line}
use Rattle.plan_core.specs.Laws.{AreCompared, EdgeIsOver, EdgesAreParted}
use Rattle.cnf_core.specs.declared.literal.LitOrTruth.{LitOrTruth}
use Rattle.cnf_core.specs.Lit.{Literal}
use Rattle.cnf_core.specs.Assignment.{Assignment, Satisfies, SatisfiesAll}
use Rattle.cnf_core.specs.LitOrTruth.{yes, flip, value, SomeTrue}
use Rattle.cnf_core.proofs.ClauseLemmas.{satisfies_append, satisfies_left, satisfies_right, satisfies_each, satisfies_at}
use Rattle.cnf_core.proofs.GatherLemmas.{value-flip}
use Rattle.order_int.specs.OrderInt.{int_at_least, Reads}
use Rattle.cnf_laws.specs.Guards.{guard_list}
use Rattle.cnf_laws.specs.Stands.{DrawingVars, ReadsDrawing, IsJoinedOnGrid}
use Rattle.cnf_laws.specs.LawClauses.{is_end, shared_west, shared_east, over_guards, over_column, over_clauses, parted_clauses}
use Rattle.cnf_laws.proofs.GuardLemmas.{Is, guarded_means, guarded_holds}
use Rattle.cnf_laws.proofs.ApartLemmas.{flipped}

-- ends of an edge, as a test
is_end_says : (g : Graph) (e n : ℕ) → is_end g e n ≡ true → IsEndOf g e n
is_end_says g e n h = elim (eqb_tells (edge g e).west n) [
  | inl a ↦ inl a.1
  | inr a ↦ elim (eqb_tells (edge g e).east n) [
    | inl b ↦ inr b.1
    | inr b ↦ cc (rw (a.0, b.0) at h)
  ]
]

is_end_holds : (g : Graph) (e n : ℕ) → IsEndOf g e n → is_end g e n ≡ true
is_end_holds g e n (inl h) = let t : nat_eq (edge g e).west n ≡ true = grind (arith, nat_tests, h) in rw t refl
is_end_holds g e n (inr h) = elim (eqb_tells (edge g e).west n) [
  | inl a ↦ rw a.0 refl
  | inr a ↦ let t : nat_eq (edge g e).east n ≡ true = grind (arith, nat_tests, h) in rw (a.0, t) refl
]

-- common nodes
shared_west_says : (v : Assignment) (g : Graph) (x : DrawingVars) (e f c p : ℕ) → Reads v (x.node (edge g e).west).x p → Is (value v (shared_west g x e f c)) →
    IsEndOf g f (edge g e).west × (c ≤ p)
shared_west_says v g x e f c p r h = cases (is_end g f (edge g e).west) refl h
  where
    cases : (b : Bool) → is_end g f (edge g e).west ≡ b → Is (value v (cond b (int_at_least (x.node (edge g e).west).x c) LitOrTruth.False)) →
        IsEndOf g f (edge g e).west × (c ≤ p)
    cases true s k = let t : nat_le c p ≡ true = sym (r.each c) ∙ k in (is_end_says g f (edge g e).west s, grind (arith, nat_tests, t))
    cases false s k = cc

shared_west_holds : (v : Assignment) (g : Graph) (x : DrawingVars) (e f c p : ℕ) → Reads v (x.node (edge g e).west).x p → IsEndOf g f (edge g e).west → c ≤ p →
    Is (value v (shared_west g x e f c))
shared_west_holds v g x e f c p r end le =
    let s = is_end_holds g f (edge g e).west end in
    let t : nat_le c p ≡ true = grind (arith, nat_tests) in
    rw s (r.each c ∙ t)

shared_east_says : (v : Assignment) (g : Graph) (x : DrawingVars) (e f c p : ℕ) → Reads v (x.node (edge g e).east).x p → Is (value v (shared_east g x e f c)) →
    IsEndOf g f (edge g e).east × (p ≤ c)
shared_east_says v g x e f c p r h = cases (is_end g f (edge g e).east) refl h
  where
    cases : (b : Bool) → is_end g f (edge g e).east ≡ b → Is (value v (cond b (flip (int_at_least (x.node (edge g e).east).x (c + 1))) LitOrTruth.False)) →
        IsEndOf g f (edge g e).east × (p ≤ c)
    cases true s k =
        let o : value v (int_at_least (x.node (edge g e).east).x (c + 1)) ≡ false = flipped (value v (int_at_least (x.node (edge g e).east).x (c + 1)))
        (sym (value-flip v (int_at_least (x.node (edge g e).east).x (c + 1))) ∙ k) in
        let t : nat_le (c + 1) p ≡ false = sym (r.each (c + 1)) ∙ o in
        (is_end_says g f (edge g e).east s, grind (arith, nat_tests, t))
    cases false s k = cc

shared_east_holds : (v : Assignment) (g : Graph) (x : DrawingVars) (e f c p : ℕ) → Reads v (x.node (edge g e).east).x p → IsEndOf g f (edge g e).east → p ≤ c →
    Is (value v (shared_east g x e f c))
shared_east_holds v g x e f c p r end le =
    let s = is_end_holds g f (edge g e).east end in
    let t : nat_le (c + 1) p ≡ false = grind (arith, nat_tests) in
    rw s (value-flip v (int_at_least (x.node (edge g e).east).x (c + 1)) ∙ ap not (r.each (c + 1) ∙ t))

-- columns of a line
has_column_says : (l : List Point) (c : ℕ) → (nat_le (west_end l).x c && nat_le c (east_end l).x) ≡ true → HasColumn l c
has_column_says l c h = elim (leb_tells (west_end l).x c) [
  | inr a ↦ cc (rw a.0 at h)
  | inl a ↦ elim (leb_tells c (east_end l).x) [
    | inl b ↦ record { from_west = a.1; to_east = b.1 }
    | inr b ↦ cc (rw (a.0, b.0) at h)
  ]
]

has_column_holds : (l : List Point) (c : ℕ) → HasColumn l c → (nat_le (west_end l).x c && nat_le c (east_end l).x) ≡ true
has_column_holds l c h =
    let a = h.from_west in
    let b = h.to_east in
    let s : nat_le (west_end l).x c ≡ true = grind (arith, nat_tests) in
    let t : nat_le c (east_end l).x ≡ true = grind (arith, nat_tests) in
    rw (s, t) refl

-- what laws 6 and 7 need of two edges, e and f: both are there, and the drawing is read
pub record Read (v : Assignment) (g : Graph) (x : DrawingVars) (grid : GridSize) (d : Drawing) : Type 0 where
  pub graph : IsTrackGraph g
  pub reads : ReadsDrawing v g x grid.width d
  pub loose : IsJoinedOnGrid g grid d

west_is : (v : Assignment) (g : Graph) (x : DrawingVars) (grid : GridSize) (d : Drawing) (e : ℕ) → Read v g x grid d → e < length g.edges →
    (west_end (line d e)).x ≡ (place d (edge g e).west).x
west_is v g x grid d e r le = ap (λ (p : Point). p.x) (r.loose.joins e le).begins

east_is : (v : Assignment) (g : Graph) (x : DrawingVars) (grid : GridSize) (d : Drawing) (e : ℕ) → Read v g x grid d → e < length g.edges →
    (east_end (line d e)).x ≡ (place d (edge g e).east).x
east_is v g x grid d e r le = ap (λ (p : Point). p.x) (r.loose.joins e le).ends

-- all guards are false where the lines are compared
over_at : (v : Assignment) (g : Graph) (x : DrawingVars) (grid : GridSize) (d : Drawing) (e f c : ℕ) (guard : LitOrTruth) → Read v g x grid d →
    e < length g.edges → f < length g.edges → c ≤ grid.width → value v guard ≡ false → AreCompared g d e f c →
    SomeTrue v (guard_list (over_guards g x e f guard c)) → ⊥
over_at v g x grid d e f c guard r le lf w off k (inl h) = cc (
  flipped (v ((x.edge e).inside c)) h,
  (r.reads.lines e le).inside c w
      ∙ has_column_holds (line d e) c k.first,
)
over_at v g x grid d e f c guard r le lf w off k (inr (inl h)) = cc (
  flipped (v ((x.edge f).inside c)) h,
  (r.reads.lines f lf).inside c w
      ∙ has_column_holds (line d f) c k.second,
)
over_at v g x grid d e f c guard r le lf w off k (inr (inr (inl h))) =
    let n = (edge g e).west in
    let s = shared_west_says v g x e f c (place d n).x (r.reads.points n (r.graph.nodes e le).0).x h in
    let z = west_is v g x grid d e r le in
    let from = k.first.from_west in
    let near = s.1 in
    k.no_shared_end n (inl refl) s.0 (omega arith)
over_at v g x grid d e f c guard r le lf w off k (inr (inr (inr (inl h)))) =
    let n = (edge g e).east in
    let s = shared_east_says v g x e f c (place d n).x (r.reads.points n (r.graph.nodes e le).1).x h in
    let z = east_is v g x grid d e r le in
    let to = k.first.to_east in
    let near = s.1 in
    k.no_shared_end n (inr refl) s.0 (omega arith)
over_at v g x grid d e f c guard r le lf w off k (inr (inr (inr (inr (inl h))))) = cc (off, h)
over_at v g x grid d e f c guard r le lf w off k (inr (inr (inr (inr (inr h))))) = h

-- LAW 6
pub over_means : (v : Assignment) (g : Graph) (x : DrawingVars) (grid : GridSize) (d : Drawing) (e f : ℕ) (guard : LitOrTruth) (unless : List Literal) →
    Read v g x grid d → e < length g.edges → f < length g.edges → (Satisfies v unless → ⊥) → value v guard ≡ false →
    SatisfiesAll v (over_clauses g x grid.width e f guard unless) → EdgeIsOver g d e f
over_means v g x grid d e f guard unless r le lf on off h c k =
    let to = k.first.to_east in
    let wide = (r.loose.joins e le).in_width in
    let z = east_is v g x grid d e r le in
    let w : c ≤ grid.width = omega arith in
    elim (guarded_means v ((x.edge f).height c) ((x.edge e).height c) (height (line d f) c) (height (line d e) c) 1 (over_guards g x e f guard c) unless
    ((r.reads.lines f lf).height c w) ((r.reads.lines e le).height c w) on
    (satisfies_at v (over_column g x e f guard unless) 0 (grid.width + 1) h c (omega arith) (omega arith))) [
      | inl s ↦ absurd (over_at v g x grid d e f c guard r le lf w off k s)
      | inr lt ↦ omega arith
    ]

-- at a column a guard is true, or the lines are compared
compared_or : (v : Assignment) (g : Graph) (x : DrawingVars) (grid : GridSize) (d : Drawing) (e f c : ℕ) (guard : LitOrTruth) → Read v g x grid d →
    e < length g.edges → f < length g.edges → c ≤ grid.width → SomeTrue v (guard_list (over_guards g x e f guard c)) ⊎ AreCompared g d e f c
compared_or v g x grid d e f c guard r le lf w = first (v ((x.edge e).inside c)) (v ((x.edge f).inside c)) (value v (shared_west g x e f c))
    (value v (shared_east g x e f c)) refl refl refl refl
  where
    west : ℕ
    west = (edge g e).west

    east : ℕ
    east = (edge g e).east

    first : (i j a b : Bool) → v ((x.edge e).inside c) ≡ i → v ((x.edge f).inside c) ≡ j → value v (shared_west g x e f c) ≡ a →
        value v (shared_east g x e f c) ≡ b → SomeTrue v (guard_list (over_guards g x e f guard c)) ⊎ AreCompared g d e f c
    first false j a b ei ej ea eb = inl (inl (ap not ei))
    first true false a b ei ej ea eb = inl (inr (inl (ap not ej)))
    first true true true b ei ej ea eb = inl (inr (inr (inl ea)))
    first true true false true ei ej ea eb = inl (inr (inr (inr (inl eb))))
    first true true false false ei ej ea eb = inr (record {
      first = has_column_says (line d e) c (sym ((r.reads.lines e le).inside c w) ∙ ei);
      second = has_column_says (line d f) c (sym ((r.reads.lines f lf).inside c w) ∙ ej);
      no_shared_end = λ n one two is. elim one [
        | inl at ↦ cc (
          ea,
          shared_west_holds v g x e f c (place d west).x (r.reads.points west (r.graph.nodes e le).0).x
              (subst (λ m. IsEndOf g f m) (sym at) two) (let z : (place d west).x ≡ (place d n).x = ap (λ m. (place d m).x) at in omega arith),
        )
        | inr at ↦ cc (
          eb,
          shared_east_holds v g x e f c (place d east).x (r.reads.points east (r.graph.nodes e le).1).x
              (subst (λ m. IsEndOf g f m) (sym at) two) (let z : (place d east).x ≡ (place d n).x = ap (λ m. (place d m).x) at in omega arith),
        )
      ];
    })

pub over_holds : (v : Assignment) (g : Graph) (x : DrawingVars) (grid : GridSize) (d : Drawing) (e f : ℕ) (guard : LitOrTruth) (unless : List Literal) →
    Read v g x grid d → e < length g.edges → f < length g.edges → Satisfies v unless ⊎ (Is (value v guard) ⊎ EdgeIsOver g d e f) →
    SatisfiesAll v (over_clauses g x grid.width e f guard unless)
over_holds v g x grid d e f guard unless r le lf h = satisfies_each v (over_column g x e f guard unless) 0 (grid.width + 1) (λ c from to.
    let w : c ≤ grid.width = omega arith in
    guarded_holds v ((x.edge f).height c) ((x.edge e).height c) (height (line d f) c) (height (line d e) c) 1 (over_guards g x e f guard c) unless
    ((r.reads.lines f lf).height c w) ((r.reads.lines e le).height c w) (elim h [
      | inl u ↦ inl u
      | inr (inl t) ↦ inr (inl (inr (inr (inr (inr (inl t))))))
      | inr (inr over) ↦ inr (elim (compared_or v g x grid d e f c guard r le lf w) [ inl s ↦ inl s | inr k ↦ inr (let lt = over c k in omega arith) ])
    ]))

-- LAW 7
pub parted_means : (v : Assignment) (g : Graph) (x : DrawingVars) (grid : GridSize) (d : Drawing) (e f greater : ℕ) (unless : List Literal) →
    Read v g x grid d → e < length g.edges → f < length g.edges → (Satisfies v unless → ⊥) → SatisfiesAll v (parted_clauses g x grid.width e f greater unless) →
    EdgesAreParted g d e f
parted_means v g x grid d e f greater unless r le lf on h = cases (v greater) refl
  where
    one : SatisfiesAll v (over_clauses g x grid.width e f (flip (yes greater)) unless)
    one = satisfies_left v (over_clauses g x grid.width e f (flip (yes greater)) unless) (over_clauses g x grid.width f e (yes greater) unless) h

    two : SatisfiesAll v (over_clauses g x grid.width f e (yes greater) unless)
    two = satisfies_right v (over_clauses g x grid.width e f (flip (yes greater)) unless) (over_clauses g x grid.width f e (yes greater) unless) h

    cases : (b : Bool) → v greater ≡ b → EdgesAreParted g d e f
    cases true s = inl (over_means v g x grid d e f (flip (yes greater)) unless r le lf on (ap not s) one)
    cases false s = inr (over_means v g x grid d f e (yes greater) unless r lf le on s two)

pub parted_holds : (v : Assignment) (g : Graph) (x : DrawingVars) (grid : GridSize) (d : Drawing) (e f greater : ℕ) (unless : List Literal) →
    Read v g x grid d → e < length g.edges → f < length g.edges →
    Satisfies v unless ⊎ (((v greater ≡ true) × EdgeIsOver g d e f) ⊎ ((v greater ≡ false) × EdgeIsOver g d f e)) →
    SatisfiesAll v (parted_clauses g x grid.width e f greater unless)
parted_holds v g x grid d e f greater unless r le lf h = satisfies_append v (over_clauses g x grid.width e f (flip (yes greater)) unless)
    (over_clauses g x grid.width f e (yes greater) unless)
    (over_holds v g x grid d e f (flip (yes greater)) unless r le lf (elim h [
      | inl u ↦ inl u
      | inr (inl a) ↦ inr (inr a.1)
      | inr (inr b) ↦ inr
          (inl (ap not b.0))
    ]))
    (over_holds v g x grid d f e (yes greater) unless r lf le (elim h [ inl u ↦ inl u | inr (inl a) ↦ inr (inl a.0) | inr (inr b) ↦ inr (inr b.1) ]))
