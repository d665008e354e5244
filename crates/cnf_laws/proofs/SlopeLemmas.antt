-- Law 4: what its rules say of the slopes at a node.
use Rattle.std.proofs.Common.{◌≡◌, ◌⊎◌, ℕ, ◌<◌, Bool, true, false, List, length, inl, inr, refl, sym, ◌∙◌, ap, arith}
use Rattle.std.specs.Prelude.{All, ◌==◌, if◌then◌else◌, ◌++◌, ◌<ℤ◌, int_lt}
use Rattle.plan_core.specs.declared.sides.Compass.{Compass}
use Rattle.plan_core.specs.declared.sides.Compass.TheVariants.{East, West}
use Rattle.plan_core.specs.declared.sides.Side.{Side}
use Rattle.plan_core.specs.declared.sides.Side.TheVariants.{Upper, Lower}
use Rattle.plan_core.specs.declared.point.Slope.{Slope}
use Rattle.plan_core.specs.declared.point.Slope.TheVariants.{Down, Level, Up}
use Rattle.plan_core.specs.Graph.{Graph, Ports, End, Joint, Switch, Crossing, node, edge, edges_of, IsTrackGraph}
use Rattle.plan_core.specs.Line.{slope_west, slope_east}
use Rattle.plan_core.specs.Drawing.{Drawing, line}
use Rattle.plan_core.specs.Laws.{steepness, IsOneMore, Diverges, PortsAreAligned, slope_at, NodeIsAligned}
use Rattle.plan_core.proofs.Deciding.{decides_smaller}
use Rattle.cnf_core.specs.Lit.{Literal}
use Rattle.cnf_core.specs.Assignment.{Assignment, Satisfies, SatisfiesAll}
use Rattle.edge_shape.specs.Rules.{FollowsRules}
use Rattle.edge_shape.specs.Columns.{is_up, is_down}
use Rattle.cnf_laws.specs.Stands.{DrawingVars, SlopeVars, west_slope, east_slope, slope_vars, ReadsSlope, ReadsDrawing}
use Rattle.cnf_laws.specs.LawClauses.{flat_rules, same_rules, one_more_rules, greater_rules, diverge_rules, ports_rules, aligned_clauses}
use Rattle.cnf_laws.proofs.GuardLemmas.{Is, unless_rules_say, unless_rules_hold, follows_left, follows_right, follows_both}

only : {A : Type 0} → A ⊎ ⊥ → A
only (inl a) = a
only (inr x) = absurd x

bool_same : (p q : Bool) → (Is p → Is q) → (Is q → Is p) → p ≡ q
bool_same true q f g = sym (f refl)
bool_same false true f g = g refl
bool_same false false f g = refl

not_so : (a b : Bool) → a ≡ b → b ≡ false → Is a → ⊥
not_so a b e f h = cc

slope_by_bits : (s t : Slope) → is_up s ≡ is_up t → is_down s ≡ is_down t → s ≡ t
slope_by_bits Down Down e f = refl
slope_by_bits Down Level e f = cc
slope_by_bits Down Up e f = cc
slope_by_bits Level Down e f = cc
slope_by_bits Level Level e f = refl
slope_by_bits Level Up e f = cc
slope_by_bits Up Down e f = cc
slope_by_bits Up Level e f = cc
slope_by_bits Up Up e f = refl

-- level
flat_case : (s : Slope) → (Is (is_up s) → ⊥) → (Is (is_down s) → ⊥) → s ≡ Level
flat_case Down f g = absurd (g refl)
flat_case Level f g = refl
flat_case Up f g = absurd (f refl)

flat_mean : (v : Assignment) (a : SlopeVars) (s : Slope) → ReadsSlope v a s → FollowsRules v (flat_rules a) → s ≡ Level
flat_mean v a s r h = flat_case s (λ e. h.0 (r.rises ∙ e, tt)) (λ e. h.1.0 (r.falls ∙ e, tt))

flat_hold : (v : Assignment) (a : SlopeVars) (s : Slope) → ReadsSlope v a s → s ≡ Level → FollowsRules v (flat_rules a)
flat_hold v a s r e = ((λ x. not_so (v a.rises) (is_up s) r.rises (ap is_up e) x.0), ((λ x. not_so (v a.falls) (is_down s) r.falls (ap is_down e) x.0), tt))

-- one slope
same_mean : (v : Assignment) (a b : SlopeVars) (s t : Slope) → ReadsSlope v a s → ReadsSlope v b t → FollowsRules v (same_rules a b) → s ≡ t
same_mean v a b s t r q h = slope_by_bits s t
    (sym r.rises ∙ bool_same (v a.rises) (v b.rises) (λ e. only (h.0 (e, tt))) (λ e. only (h.1.0 (e, tt))) ∙ q.rises)
    (sym r.falls ∙ bool_same (v a.falls) (v b.falls) (λ e. only (h.1.1.0 (e, tt))) (λ e. only (h.1.1.1.0 (e, tt))) ∙ q.falls)

same_hold : (v : Assignment) (a b : SlopeVars) (s t : Slope) → ReadsSlope v a s → ReadsSlope v b t → s ≡ t → FollowsRules v (same_rules a b)
same_hold v a b s t r q e =
    let rises : v a.rises ≡ v b.rises = r.rises ∙ ap is_up e ∙ sym q.rises in
    let falls : v a.falls ≡ v b.falls = r.falls ∙ ap is_down e ∙ sym q.falls in
    ((λ x. inl (sym rises ∙ x.0)), ((λ x. inl (rises ∙ x.0)), ((λ x. inl (sym falls ∙ x.0)), ((λ x. inl (falls ∙ x.0)), tt))))

-- one more
one_more_case : (s t : Slope) → (Is (is_up s) → ⊥) → (Is (is_down t) → ⊥) → Is (is_down s) ⊎ Is (is_up t) → (Is (is_down s) → Is (is_up t) → ⊥) → IsOneMore s t
one_more_case Up t f g h k = absurd (f refl)
one_more_case Down Down f g h k = absurd (g refl)
one_more_case Down Level f g h k = refl
one_more_case Down Up f g h k = absurd (k refl refl)
one_more_case Level Down f g h k = absurd (g refl)
one_more_case Level Level f g (inl h) k = cc
one_more_case Level Level f g (inr h) k = cc
one_more_case Level Up f g h k = refl

-- the four rules in the slopes' own words
pub record OneMoreFacts (s t : Slope) : Type 0 where
  pub not_up : is_up s ≡ false
  pub not_down : is_down t ≡ false
  pub some : Is (is_down s) ⊎ Is (is_up t)
  pub one : Is (is_down s) → Is (is_up t) → ⊥

one_more_facts : (s t : Slope) → IsOneMore s t → OneMoreFacts s t
one_more_facts Down Down e = cc
one_more_facts Down Level e = record { not_up = refl; not_down = refl; some = inl refl; one = λ x y. cc }
one_more_facts Down Up e = cc
one_more_facts Level Down e = cc
one_more_facts Level Level e = cc
one_more_facts Level Up e = record { not_up = refl; not_down = refl; some = inr refl; one = λ x y. cc }
one_more_facts Up Down e = cc
one_more_facts Up Level e = cc
one_more_facts Up Up e = cc

one_more_mean : (v : Assignment) (a b : SlopeVars) (s t : Slope) → ReadsSlope v a s → ReadsSlope v b t → FollowsRules v (one_more_rules a b) → IsOneMore s t
one_more_mean v a b s t r q h = one_more_case s t (λ e. h.0 (r.rises ∙ e, tt)) (λ e. h.1.0 (q.falls ∙ e, tt))
    (elim (h.1.1.0 tt) [ inl x ↦ inl (sym r.falls ∙ x) | inr (inl x) ↦ inr (sym q.rises ∙ x) | inr (inr x) ↦ absurd x ])
    (λ x y. h.1.1.1.0 (r.falls ∙ x, (q.rises ∙ y, tt)))

one_more_hold : (v : Assignment) (a b : SlopeVars) (s t : Slope) → ReadsSlope v a s → ReadsSlope v b t → IsOneMore s t → FollowsRules v (one_more_rules a b)
one_more_hold v a b s t r q e =
    let f = one_more_facts s t e in (
      (λ x. not_so (v a.rises) (is_up s) r.rises f.not_up x.0),
      (
        (λ x. not_so (v b.falls) (is_down t) q.falls f.not_down x.0),
        (
          (λ x. elim f.some [ inl y ↦ inl (r.falls ∙ y) | inr y ↦ inr (inl (q.rises ∙ y)) ]),
          ((λ x. f.one (sym r.falls ∙ x.0) (sym q.rises ∙ x.1.0)), tt),
        ),
      ),
    )

-- greater
greater_case : (s t : Slope) → (Is (is_down t) → ⊥) → (Is (is_up s) → ⊥) → Is (is_up t) ⊎ Is (is_down s) → steepness s <ℤ steepness t
greater_case s Down f g h = absurd (f refl)
greater_case Up t f g h = absurd (g refl)
greater_case Down Level f g h = (decides_smaller (steepness Down) (steepness Level)).0 refl
greater_case Down Up f g h = (decides_smaller (steepness Down) (steepness Up)).0 refl
greater_case Level Level f g (inl h) = cc
greater_case Level Level f g (inr h) = cc
greater_case Level Up f g h = (decides_smaller (steepness Level) (steepness Up)).0 refl

pub record GreaterFacts (s t : Slope) : Type 0 where
  pub not_down : is_down t ≡ false
  pub not_up : is_up s ≡ false
  pub some : Is (is_up t) ⊎ Is (is_down s)

not_less : {A : Type 0} (s t : Slope) → steepness s <ℤ steepness t → int_lt (steepness s) (steepness t) ≡ false → A
not_less s t h e = absurd (cc ((decides_smaller (steepness s) (steepness t)).1 h ∙ refl, e))

greater_facts : (s t : Slope) → steepness s <ℤ steepness t → GreaterFacts s t
greater_facts Down Down h = not_less Down Down h refl
greater_facts Down Level h = record { not_down = refl; not_up = refl; some = inr refl }
greater_facts Down Up h = record { not_down = refl; not_up = refl; some = inr refl }
greater_facts Level Down h = not_less Level Down h refl
greater_facts Level Level h = not_less Level Level h refl
greater_facts Level Up h = record { not_down = refl; not_up = refl; some = inl refl }
greater_facts Up Down h = not_less Up Down h refl
greater_facts Up Level h = not_less Up Level h refl
greater_facts Up Up h = not_less Up Up h refl

greater_mean : (v : Assignment) (a b : SlopeVars) (s t : Slope) → ReadsSlope v a s → ReadsSlope v b t → FollowsRules v (greater_rules a b) →
    steepness s <ℤ steepness t
greater_mean v a b s t r q h = greater_case s t (λ e. h.0 (q.falls ∙ e, tt)) (λ e. h.1.0 (r.rises ∙ e, tt))
    (elim (h.1.1.0 tt) [ inl x ↦ inl (sym q.rises ∙ x) | inr (inl x) ↦ inr (sym r.falls ∙ x) | inr (inr x) ↦ absurd x ])

greater_hold : (v : Assignment) (a b : SlopeVars) (s t : Slope) → ReadsSlope v a s → ReadsSlope v b t → steepness s <ℤ steepness t →
    FollowsRules v (greater_rules a b)
greater_hold v a b s t r q h =
    let f = greater_facts s t h in (
      (λ x. not_so (v b.falls) (is_down t) q.falls f.not_down x.0),
      (
        (λ x. not_so (v a.rises) (is_up s) r.rises f.not_up x.0),
        ((λ x. elim f.some [ inl y ↦ inl (q.rises ∙ y) | inr y ↦ inr (inl (r.falls ∙ y)) ]), tt),
      ),
    )

-- the diverging leg
diverge_mean : (v : Assignment) (legs : Compass) (branch : Side) (a b : SlopeVars) (s t : Slope) → ReadsSlope v a s → ReadsSlope v b t →
    FollowsRules v (diverge_rules legs branch a b) → Diverges legs branch s t
diverge_mean v East Upper a b s t r q h = one_more_mean v a b s t r q h
diverge_mean v East Lower a b s t r q h = one_more_mean v b a t s q r h
diverge_mean v West Upper a b s t r q h = one_more_mean v b a t s q r h
diverge_mean v West Lower a b s t r q h = one_more_mean v a b s t r q h

diverge_hold : (v : Assignment) (legs : Compass) (branch : Side) (a b : SlopeVars) (s t : Slope) → ReadsSlope v a s → ReadsSlope v b t →
    Diverges legs branch s t → FollowsRules v (diverge_rules legs branch a b)
diverge_hold v East Upper a b s t r q h = one_more_hold v a b s t r q h
diverge_hold v East Lower a b s t r q h = one_more_hold v b a t s q r h
diverge_hold v West Upper a b s t r q h = one_more_hold v b a t s q r h
diverge_hold v West Lower a b s t r q h = one_more_hold v a b s t r q h

-- all kinds of nodes
pub ports_mean : (v : Assignment) (at : ℕ → SlopeVars) (slopes : ℕ → Slope) (m : ℕ) (ports : Ports) → ((e : ℕ) → e < m → ReadsSlope v (at e) (slopes e)) →
    All (λ e. e < m) (edges_of ports) → FollowsRules v (ports_rules at ports) → PortsAreAligned slopes ports
ports_mean v at slopes m (End e side) r there h = flat_mean v (at e) (slopes e) (r e (there 0 e (omega arith))) h
ports_mean v at slopes m (Joint a b) r there h = same_mean v (at a) (at b) (slopes a) (slopes b) (r a (there 0 a (omega arith))) (r b (there 1 a (omega arith)))
    h
ports_mean v at slopes m (Switch legs branch t s d) r there h =
    let rt = r t (there 0 t (omega arith)) in
    let rs = r s (there 1 t (omega arith)) in
    let rd = r d (there 2 t (omega arith)) in
    let one = same_rules (at s) (at t) in
    let two = diverge_rules legs branch (at t) (at d) in
    record {
      goes_straight = same_mean v (at s) (at t) (slopes s) (slopes t) rs rt (follows_left v one two h);
      turns_off = diverge_mean v legs branch (at t) (at d) (slopes t) (slopes d) rt rd (follows_right v one two h);
    }
ports_mean v at slopes m (Crossing wu wl eu el) r there h =
    let a = r wu (there 0 wu (omega arith)) in
    let b = r wl (there 1 wu (omega arith)) in
    let c = r eu (there 2 wu (omega arith)) in
    let d = r el (there 3 wu (omega arith)) in
    let one = same_rules (at wl) (at eu) in
    let two = same_rules (at wu) (at el) in
    let three = greater_rules (at wu) (at wl) in
    let rest = follows_right v one (two ++ three) h in
    record {
      rising_path = same_mean v (at wl) (at eu) (slopes wl) (slopes eu) b c (follows_left v one (two ++ three) h);
      falling_path = same_mean v (at wu) (at el) (slopes wu) (slopes el) a d (follows_left v two three rest);
      rising_is_greater = greater_mean v (at wu) (at wl) (slopes wu) (slopes wl) a b (follows_right v two three rest);
    }

pub ports_hold : (v : Assignment) (at : ℕ → SlopeVars) (slopes : ℕ → Slope) (m : ℕ) (ports : Ports) → ((e : ℕ) → e < m → ReadsSlope v (at e) (slopes e)) →
    All (λ e. e < m) (edges_of ports) → PortsAreAligned slopes ports → FollowsRules v (ports_rules at ports)
ports_hold v at slopes m (End e side) r there h = flat_hold v (at e) (slopes e) (r e (there 0 e (omega arith))) h
ports_hold v at slopes m (Joint a b) r there h = same_hold v (at a) (at b) (slopes a) (slopes b) (r a (there 0 a (omega arith))) (r b (there 1 a (omega arith)))
    h
ports_hold v at slopes m (Switch legs branch t s d) r there h =
    let rt = r t (there 0 t (omega arith)) in
    let rs = r s (there 1 t (omega arith)) in
    let rd = r d (there 2 t (omega arith)) in
    follows_both v (same_rules (at s) (at t)) (diverge_rules legs branch (at t) (at d))
    (same_hold v (at s) (at t) (slopes s) (slopes t) rs rt h.goes_straight)
    (diverge_hold v legs branch (at t) (at d) (slopes t) (slopes d) rt rd h.turns_off)
ports_hold v at slopes m (Crossing wu wl eu el) r there h =
    let a = r wu (there 0 wu (omega arith)) in
    let b = r wl (there 1 wu (omega arith)) in
    let c = r eu (there 2 wu (omega arith)) in
    let d = r el (there 3 wu (omega arith)) in
    let one = same_rules (at wl) (at eu) in
    let two = same_rules (at wu) (at el) in
    let three = greater_rules (at wu) (at wl) in
    follows_both v one (two ++ three) (same_hold v (at wl) (at eu) (slopes wl) (slopes eu) b c h.rising_path)
    (follows_both v two three (same_hold v (at wu) (at el) (slopes wu) (slopes el) a d h.falling_path)
    (greater_hold v (at wu) (at wl) (slopes wu) (slopes wl) a b h.rising_is_greater))

-- the slope at a node
pub slope_read : (v : Assignment) (g : Graph) (x : DrawingVars) (width : ℕ) (d : Drawing) (n e : ℕ) → ReadsDrawing v g x width d → e < length g.edges →
    ReadsSlope v (slope_vars g x n e) (slope_at g d n e)
slope_read v g x width d n e r lt = elim ((edge g e).west == n) as (λ (b : Bool). ReadsSlope v (if b then west_slope (x.edge e) else east_slope (x.edge e))
    (if b then slope_west (line d e) else slope_east (line d e))) [
      | true ↦ (r.lines e lt).west
      | false ↦ (r.lines e lt).east
    ]

-- LAW 4
pub aligned_means : (v : Assignment) (g : Graph) (x : DrawingVars) (width : ℕ) (d : Drawing) (n : ℕ) (unless : List Literal) → IsTrackGraph g →
    n < length g.nodes → ReadsDrawing v g x width d → (Satisfies v unless → ⊥) → SatisfiesAll v (aligned_clauses g x n unless) → NodeIsAligned g d n
aligned_means v g x width d n unless is lt r on h =
    let ports = (node g n).ports in
    ports_mean v (slope_vars g x n) (slope_at g d n) (length g.edges) ports (λ e le. slope_read v g x width d n e r le) (is.ports n lt).there
    (unless_rules_say v unless (ports_rules (slope_vars g x n) ports) on h)

pub aligned_holds : (v : Assignment) (g : Graph) (x : DrawingVars) (width : ℕ) (d : Drawing) (n : ℕ) (unless : List Literal) → IsTrackGraph g →
    n < length g.nodes → ReadsDrawing v g x width d → Satisfies v unless ⊎ NodeIsAligned g d n → SatisfiesAll v (aligned_clauses g x n unless)
aligned_holds v g x width d n unless is lt r h =
    let ports = (node g n).ports in
    unless_rules_hold v unless (ports_rules (slope_vars g x n) ports) (elim h [
      | inl u ↦ inl u
      | inr a ↦ inr (ports_hold v (slope_vars g x n) (slope_at g d n) (length g.edges) ports (λ e le. slope_read v g x width d n e r le) (is.ports n lt).there
          a)
    ])
