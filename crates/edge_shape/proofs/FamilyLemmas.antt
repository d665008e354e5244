-- Each family of rules: what it says of the truth values, and that these make it hold.
use Rattle.std.proofs.Common.{◌≡◌, ◌⊎◌, ℕ, ◌+◌, ◌≤◌, ◌<◌, Bool, true, false, not, inl, inr, refl, sym, ◌∙◌, ap, arith}
use Rattle.std.specs.Prelude.{◌&&◌, ◌||◌, nat_le, ⊤}
use Rattle.std.proofs.lemmas.Bool.Decides.{nat_tests, leb_tells}
use Rattle.cnf_core.specs.Assignment.{Assignment}
use Rattle.cnf_core.specs.LitOrTruth.{value}
use Rattle.order_int.specs.IntVars.{IntVars}
use Rattle.order_int.specs.OrderInt.{int_at_least, Reads}
use Rattle.edge_shape.specs.Rules.{FollowsRules}
use Rattle.edge_shape.specs.EdgeVars.{EdgeLits, before}
use Rattle.edge_shape.specs.Edge.{range_rules, step_rules, seen_rules, shape_rules, end_rules, same_where, bend_rules, inner_rules, end_piece_rules}
use Rattle.edge_shape.specs.Edge.{level_rules, beside_end_rules}
use Rattle.edge_shape.proofs.StepLemmas.{Is}

range_bool : (i a b : Bool) → (Is i × (Is a × ⊤) → ⊥) × ((Is i × ⊤ → Is b ⊎ ⊥) × ((Is b × ⊤ → Is a ⊎ (Is i ⊎ ⊥)) × ⊤)) → i ≡ (not a && b)
range_bool i a b h = grind (arith, h.0, h.1.0, h.1.1.0)

range_back : (i a b : Bool) → i ≡ (not a && b) → (Is i × (Is a × ⊤) → ⊥) × ((Is i × ⊤ → Is b ⊎ ⊥) × ((Is b × ⊤ → Is a ⊎ (Is i ⊎ ⊥)) × ⊤))
range_back i a b e = (
  (λ p. grind (arith, e, p.0, p.1.0)),
  (
    (λ p. inl (grind (arith, e, p.0))),
    ((λ p. elim a as (λ (x : Bool). i ≡ (not x && b) → Is x ⊎ (Is i ⊎ ⊥)) [ true ↦ λ q. inl refl | false ↦ λ q. inr (inl (q ∙ p.0)) ] e), tt),
  ),
)

pub range_means : (v : Assignment) (e : EdgeLits) (x z : IntVars) (c w m : ℕ) → Reads v x w → Reads v z m → FollowsRules v (range_rules e x z c) →
    v (e.inside c) ≡ (nat_le w c && nat_le c m)
range_means v e x z c w m rx rz h =
    let s : not (nat_le (c + 1) w) ≡ nat_le w c = grind (arith, nat_tests) in
    range_bool (v (e.inside c)) (value v (int_at_least x (c + 1))) (value v (int_at_least z c)) h
    ∙ ap (λ a. not a && value v (int_at_least z c)) (rx.each (c + 1)) ∙ ap (λ b. not (nat_le (c + 1) w) && b) (rz.each c) ∙ ap (λ a. a && nat_le c m) s

pub range_holds : (v : Assignment) (e : EdgeLits) (x z : IntVars) (c w m : ℕ) → Reads v x w → Reads v z m → v (e.inside c) ≡ (nat_le w c && nat_le c m) →
    FollowsRules v (range_rules e x z c)
range_holds v e x z c w m rx rz h =
    let s : nat_le w c ≡ not (nat_le (c + 1) w) = grind (arith, nat_tests) in
    range_back (v (e.inside c)) (value v (int_at_least x (c + 1))) (value v (int_at_least z c))
    (h ∙ ap (λ a. a && nat_le c m) s ∙ ap (λ a. not a && nat_le c m) (sym (rx.each (c + 1)))
    ∙ ap (λ b. not (value v (int_at_least x (c + 1))) && b) (sym (rz.each c)))

pub record StepFacts (i j u d : Bool) : Type 0 where
  pub up_west : Is u → Is i
  pub up_east : Is u → Is j
  pub down_west : Is d → Is i
  pub down_east : Is d → Is j
  pub one : Is u → Is d → ⊥

only : {A : Type 0} → A ⊎ ⊥ → A
only (inl a) = a
only (inr x) = absurd x

pub step_means : (v : Assignment) (e : EdgeLits) (c : ℕ) → FollowsRules v (step_rules e c) →
    StepFacts (v (e.inside c)) (v (e.inside (c + 1))) (v (e.up c)) (v (e.down c))
step_means v e c h = record {
  up_west = λ a. only (h.0 (a, tt));
  up_east = λ a. only (h.1.0 (a, tt));
  down_west = λ a. only (h.1.1.0 (a, tt));
  down_east = λ a. only (h.1.1.1.0 (a, tt));
  one = λ a b. h.1.1.1.1.0 (a, (b, tt));
}

pub step_holds : (v : Assignment) (e : EdgeLits) (c : ℕ) → StepFacts (v (e.inside c)) (v (e.inside (c + 1))) (v (e.up c)) (v (e.down c)) →
    FollowsRules v (step_rules e c)
step_holds v e c f = (
  (λ a. inl (f.up_west a.0)),
  (
    (λ a. inl (f.up_east a.0)),
    (
      (λ a. inl (f.down_west a.0)),
      ((λ a. inl (f.down_east a.0)), ((λ a. f.one a.0 a.1.0), tt)),
    ),
  ),
)

pub seen_means : (v : Assignment) (e : EdgeLits) (c : ℕ) → FollowsRules v (seen_rules e c) →
    v (e.seen c) ≡ (value v (before e.seen c) || (v (e.inside c) && (v (e.inside (c + 1)) && (not (v (e.up c)) && not (v (e.down c))))))
seen_means v e c h = cases (value v (before e.seen c)) (v (e.inside c)) (v (e.inside (c + 1))) (v (e.up c)) (v (e.down c)) (v (e.seen c))
    (λ a b. h.0 (a, (b, tt))) (λ a. only (h.1.0 (a, tt))) (λ a. h.1.1.0 (a, tt)) (λ a. h.1.1.1.0 (a, tt)) (λ a b. only (h.1.1.1.1.0 (a, (b, tt))))
    (λ a b. only (h.1.1.1.1.1.0 (a, (b, tt))))
  where
    cases : (p i j u d s : Bool) → (Is i → Is j → Is u ⊎ (Is d ⊎ (Is s ⊎ ⊥))) → (Is p → Is s) → (Is s → Is p ⊎ (Is i ⊎ ⊥)) → (Is s → Is p ⊎ (Is j ⊎ ⊥)) →
        (Is s → Is u → Is p) → (Is s → Is d → Is p) → s ≡ (p || (i && (j && (not u && not d))))
    cases p i j u d s f1 f2 f3 f4 f5 f6 = grind (arith, f1, f2, f3, f4, f5, f6)

pub seen_holds : (v : Assignment) (e : EdgeLits) (c : ℕ) → v (e.seen c) ≡ (value v (before e.seen c) ||
    (v (e.inside c) && (v (e.inside (c + 1)) && (not (v (e.up c)) && not (v (e.down c)))))) → FollowsRules v (seen_rules e c)
seen_holds v e c h = cases (value v (before e.seen c)) (v (e.inside c)) (v (e.inside (c + 1))) (v (e.up c)) (v (e.down c)) (v (e.seen c)) h
  where
    cases : (p i j u d s : Bool) → s ≡ (p || (i && (j && (not u && not d)))) →
        ((Is i × (Is j × ⊤)) → Is u ⊎ (Is d ⊎ (Is s ⊎ ⊥))) × ((Is p × ⊤ → Is s ⊎ ⊥) ×
        ((Is s × ⊤ → Is p ⊎ (Is i ⊎ ⊥)) × ((Is s × ⊤ → Is p ⊎ (Is j ⊎ ⊥)) × ((Is s × (Is u × ⊤) → Is p ⊎ ⊥) × ((Is s × (Is d × ⊤) → Is p ⊎ ⊥) × ⊤)))))
    cases p i j u d s e = (
      (λ a. grind (arith, e, a.0, a.1.0)),
      (
        (λ a. inl (grind (arith, e, a.0))),
        (
          (λ a. grind (arith, e, a.0)),
          (
            (λ a. grind (arith, e, a.0)),
            (
              (λ a. inl (grind (arith, e, a.0, a.1.0))),
              ((λ a. inl (grind (arith, e, a.0, a.1.0))), tt),
            ),
          ),
        ),
      ),
    )

pub record ShapeFacts (p q s j u d : Bool) : Type 0 where
  pub no_peak : Is p → Is d → ⊥
  pub no_dip : Is q → Is u → ⊥
  pub rises_on : Is s → Is p → Is j → Is u
  pub falls_on : Is s → Is q → Is j → Is d

pub shape_means : (v : Assignment) (e : EdgeLits) (c : ℕ) → FollowsRules v (shape_rules e c) →
    ShapeFacts (value v (before e.up c)) (value v (before e.down c)) (value v (before e.seen c)) (v (e.inside (c + 1))) (v (e.up c)) (v (e.down c))
shape_means v e c h = record {
  no_peak = λ a b. h.0 (a, (b, tt));
  no_dip = λ a b. h.1.0 (a, (b, tt));
  rises_on = λ a b g. only (h.1.1.0 (a, (b, (g, tt))));
  falls_on = λ a b g. only (h.1.1.1.0 (a, (b, (g, tt))));
}

pub shape_holds : (v : Assignment) (e : EdgeLits) (c : ℕ) → ShapeFacts (value v (before e.up c)) (value v (before e.down c)) (value v (before e.seen c))
    (v (e.inside (c + 1))) (v (e.up c)) (v (e.down c)) → FollowsRules v (shape_rules e c)
shape_holds v e c f = (
  (λ a. f.no_peak a.0 a.1.0),
  (
    (λ a. f.no_dip a.0 a.1.0),
    (
      (λ a. inl (f.rises_on a.0 a.1.0 a.1.1.0)),
      ((λ a. inl (f.falls_on a.0 a.1.0 a.1.1.0)), tt),
    ),
  ),
)

pub same_means : (v : Assignment) (x : IntVars) (c a b n : ℕ) → Reads v x n → n ≡ c → FollowsRules v (same_where x c a b) → v a ≡ v b
same_means v x c a b n r is h =
    let at : nat_le c n ≡ true = grind (arith, nat_tests) in
    let past : nat_le (c + 1) n ≡ false = grind (arith, nat_tests) in
    cases (value v (int_at_least x c)) (value v (int_at_least x (c + 1))) (v a) (v b) (r.each c ∙ at) (r.each (c + 1) ∙ past) (λ p q. h.0 (p, (q, tt)))
    (λ p q. h.1.0 (p, (q, tt)))
  where
    cases : (p q s t : Bool) → p ≡ true → q ≡ false → (Is p → Is s → Is q ⊎ (Is t ⊎ ⊥)) → (Is p → Is t → Is q ⊎ (Is s ⊎ ⊥)) → s ≡ t
    cases p q s t e f g h = grind (arith, e, f, g, h)

pub same_holds : (v : Assignment) (x : IntVars) (c a b n : ℕ) → Reads v x n → (n ≡ c → v a ≡ v b) → FollowsRules v (same_where x c a b)
same_holds v x c a b n r same = (
  (λ p. later (v a) (v b) (r.each c) (r.each (c + 1)) p.0 p.1.0 (λ e. same e)),
  ((λ p. later (v b) (v a) (r.each c) (r.each (c + 1)) p.0 p.1.0 (λ e. sym (same e))), tt),
)
  where
    later : (s t : Bool) → value v (int_at_least x c) ≡ nat_le c n → value v (int_at_least x (c + 1)) ≡ nat_le (c + 1) n → Is (value v (int_at_least x c)) →
        Is s → (n ≡ c → s ≡ t) → Is (value v (int_at_least x (c + 1))) ⊎ (Is t ⊎ ⊥)
    later s t e f p q eq = elim (leb_tells (c + 1) n) [
      | inl far ↦ inl (f ∙ far.0)
      | inr near ↦
          let less = near.1 in
          let there : nat_le c n ≡ true = sym e ∙ p in
          let is : n ≡ c = grind (arith, nat_tests) in
          inr (inl (sym (eq is) ∙ q))
    ]

pub bend_means : (v : Assignment) (b r f l : ℕ) → FollowsRules v (bend_rules b r f l) → v b ≡ ((v r || v f) && v l)
bend_means v b r f l h = cases (v b) (v r) (v f) (v l) (λ a. h.0 (a, tt)) (λ a. only (h.1.0 (a, tt))) (λ a g. only (h.1.1.0 (a, (g, tt))))
    (λ a g. only (h.1.1.1.0 (a, (g, tt))))
  where
    cases : (b r f l : Bool) → (Is b → Is r ⊎ (Is f ⊎ ⊥)) → (Is b → Is l) → (Is r → Is l → Is b) → (Is f → Is l → Is b) → b ≡ ((r || f) && l)
    cases b r f l g1 g2 g3 g4 = grind (arith, g1, g2, g3, g4)

pub bend_holds : (v : Assignment) (b r f l : ℕ) → v b ≡ ((v r || v f) && v l) → FollowsRules v (bend_rules b r f l)
bend_holds v b r f l e = cases (v b) (v r) (v f) (v l) e
  where
    cases : (b r f l : Bool) → b ≡ ((r || f) && l) → ((Is b × ⊤) → Is r ⊎ (Is f ⊎ ⊥)) ×
        (((Is b × ⊤) → Is l ⊎ ⊥) × (((Is r × (Is l × ⊤)) → Is b ⊎ ⊥) × (((Is f × (Is l × ⊤)) → Is b ⊎ ⊥) × ⊤)))
    cases b r f l e = (
      (λ a. grind (arith, e, a.0)),
      (
        (λ a. inl (grind (arith, e, a.0))),
        ((λ a. inl (grind (arith, e, a.0, a.1.0))), ((λ a. inl (grind (arith, e, a.0, a.1.0))), tt)),
      ),
    )

pub inner_means : (v : Assignment) (e : EdgeLits) (c : ℕ) → (Is (v (e.up c)) → Is (v (e.down c)) → ⊥) → (Is (v (e.up (c + 1))) → Is (v (e.down (c + 1))) → ⊥) →
    FollowsRules v (inner_rules e c)
    → v (e.bend (c + 1)) ≡ (v (e.inside c) && (v (e.inside (c + 2)) && ((v (e.up c) && not (v (e.up (c + 1))) || v (e.up (c + 1)) && not (v (e.up c))) ||
    (v (e.down c) && not (v (e.down (c + 1))) || v (e.down (c + 1)) && not (v (e.down c))))))
inner_means v e c one two h = cases (v (e.bend (c + 1))) (v (e.inside c)) (v (e.inside (c + 2))) (v (e.up c)) (v (e.up (c + 1))) (v (e.down c))
    (v (e.down (c + 1))) one two
    (λ a. only (h.0 (a, tt))) (λ a. only (h.1.0 (a, tt))) (λ a b g. h.1.1.0 (a, (b, (g, tt)))) (λ a b g. h.1.1.1.0 (a, (b, (g, tt)))) (λ a. h.1.1.1.1.0 (a, tt))
    (λ a b g. h.1.1.1.1.1.0 (a, (b, (g, tt)))) (λ a b g. h.1.1.1.1.1.1.0 (a, (b, (g, tt)))) (λ a b g. h.1.1.1.1.1.1.1.0 (a, (b, (g, tt))))
    (λ a b g. h.1.1.1.1.1.1.1.1.0 (a, (b, (g, tt))))
  where
    cases : (b i k u p d q : Bool) → (Is u → Is d → ⊥) → (Is p → Is q → ⊥) → (Is b → Is i) → (Is b → Is k) → (Is b → Is u → Is p → ⊥) →
        (Is b → Is d → Is q → ⊥) → (Is b → Is u ⊎ (Is d ⊎ (Is p ⊎ (Is q ⊎ ⊥))))
        → (Is i → Is k → Is u → Is p ⊎ (Is b ⊎ ⊥)) → (Is i → Is k → Is p → Is u ⊎ (Is b ⊎ ⊥)) → (Is i → Is k → Is d → Is q ⊎ (Is b ⊎ ⊥)) →
        (Is i → Is k → Is q → Is d ⊎ (Is b ⊎ ⊥))
        → b ≡ (i && (k && ((u && not p || p && not u) || (d && not q || q && not d))))
    cases true i k u p d q one two g1 g2 g3 g4 g5 g6 g7 g8 g9 = grind (arith, g1, g2, g3, g4, g5, one, two)
    cases false i k u p d q one two g1 g2 g3 g4 g5 g6 g7 g8 g9 = grind (arith, g6, g7, g8, g9)

pub inner_holds : (v : Assignment) (e : EdgeLits) (c : ℕ) → (Is (v (e.up c)) → Is (v (e.down c)) → ⊥) → (Is (v (e.up (c + 1))) → Is (v (e.down (c + 1))) → ⊥)
    → v (e.bend (c + 1)) ≡ (v (e.inside c) && (v (e.inside (c + 2)) && ((v (e.up c) && not (v (e.up (c + 1))) || v (e.up (c + 1)) && not (v (e.up c))) ||
    (v (e.down c) && not (v (e.down (c + 1))) || v (e.down (c + 1)) && not (v (e.down c))))))
    → FollowsRules v (inner_rules e c)
inner_holds v e c one two h = cases (v (e.bend (c + 1))) (v (e.inside c)) (v (e.inside (c + 2))) (v (e.up c)) (v (e.up (c + 1))) (v (e.down c))
    (v (e.down (c + 1))) one two h
  where
    cases : (b i k u p d q : Bool) → (Is u → Is d → ⊥) → (Is p → Is q → ⊥) → b ≡ (i && (k && ((u && not p || p && not u) || (d && not q || q && not d))))
        → ((Is b × ⊤) → Is i ⊎ ⊥) × (((Is b × ⊤) → Is k ⊎ ⊥) × (((Is b × (Is u × (Is p × ⊤))) → ⊥) ×
        (((Is b × (Is d × (Is q × ⊤))) → ⊥) × (((Is b × ⊤) → Is u ⊎ (Is d ⊎ (Is p ⊎ (Is q ⊎ ⊥)))) × (
        ((Is i × (Is k × (Is u × ⊤))) → Is p ⊎ (Is b ⊎ ⊥)) × (((Is i × (Is k × (Is p × ⊤))) → Is u ⊎ (Is b ⊎ ⊥)) ×
        (((Is i × (Is k × (Is d × ⊤))) → Is q ⊎ (Is b ⊎ ⊥)) × (((Is i × (Is k × (Is q × ⊤))) → Is d ⊎ (Is b ⊎ ⊥)) × ⊤))))))))
    cases b i k u p d q one two e = (
      (λ a. inl (grind (arith, e, a.0))),
      (
        (λ a. inl (grind (arith, e, a.0))),
        (
          (λ a. grind (arith, e, a.0, a.1.0, a.1.1.0, one, two)),
          (
            (λ a. grind (arith, e, a.0, a.1.0, a.1.1.0, one, two)),
            (
              (λ a. grind (arith, e, a.0)),
              (
                (λ a. grind (arith, e, a.0, a.1.0, a.1.1.0)),
                (
                  (λ a. grind (arith, e, a.0, a.1.0, a.1.1.0)),
                  (
                    (λ a. grind (arith, e, a.0, a.1.0, a.1.1.0)),
                    ((λ a. grind (arith, e, a.0, a.1.0, a.1.1.0)), tt),
                  ),
                ),
              ),
            ),
          ),
        ),
      ),
    )

pub end_holds : (v : Assignment) (e : EdgeLits) → (Is (v e.west_up) → Is (v e.west_down) → ⊥) → (Is (v e.east_up) → Is (v e.east_down) → ⊥) →
    FollowsRules v (end_rules e)
end_holds v e one two = ((λ a. one a.0 a.1.0), ((λ a. two a.0 a.1.0), tt))

-- the families that follow from the others are read in no proof: only that they hold
pub through_holds : (v : Assignment) (e : EdgeLits) (c : ℕ) → (Is (v (e.up c)) → Is (v e.west_up) ⊎ Is (v e.east_up)) →
    (Is (v (e.down c)) → Is (v e.west_down) ⊎ Is (v e.east_down)) → FollowsRules v (end_piece_rules e c)
through_holds v e c f g = ((λ a. two (f a.0)), ((λ a. two (g a.0)), tt))
  where
    two : {A B : Type 0} → A ⊎ B → A ⊎ (B ⊎ ⊥)
    two (inl a) = inl a
    two (inr b) = inr (inl b)

-- a level step was seen, or both end slopes are one diagonal slope
pub level_holds : (v : Assignment) (e : EdgeLits) (level : ℕ) → Is (v level) ⊎ ((Is (v e.west_up) ⊎ Is (v e.west_down)) ×
    ((v e.west_up ≡ v e.east_up) × (v e.west_down ≡ v e.east_down))) → FollowsRules v (level_rules e level)
level_holds v e level h = cases (v e.west_up) (v e.west_down) (v e.east_up) (v e.east_down) (v level) h
  where
    cases : (u d p q l : Bool) → Is l ⊎ ((Is u ⊎ Is d) × ((u ≡ p) × (d ≡ q))) →
        (⊤ → Is u ⊎ (Is d ⊎ (Is l ⊎ ⊥))) × ((⊤ → Is p ⊎ (Is q ⊎ (Is l ⊎ ⊥))) × (((Is u × ⊤) → Is p ⊎ (Is l ⊎ ⊥)) ×
        (((Is d × ⊤) → Is q ⊎ (Is l ⊎ ⊥)) × (((Is p × ⊤) → Is u ⊎ (Is l ⊎ ⊥)) × (((Is q × ⊤) → Is d ⊎ (Is l ⊎ ⊥)) × ⊤)))))
    cases u d p q l (inl s) = (
      (λ a. inr (inr (inl s))),
      (
        (λ a. inr (inr (inl s))),
        ((λ a. inr (inl s)), ((λ a. inr (inl s)), ((λ a. inr (inl s)), ((λ a. inr (inl s)), tt)))),
      ),
    )
    cases u d p q l (inr (some, same)) =
        let e = same.0 in
        let f = same.1 in (
          (λ a. elim some [ inl x ↦ inl x | inr x ↦ inr (inl x) ]),
          (
            (λ a. elim some [ inl x ↦ inl (sym e ∙ x) | inr x ↦ inr (inl (sym f ∙ x)) ]),
            ((λ a. inl (sym e ∙ a.0)), ((λ a. inl (sym f ∙ a.0)), ((λ a. inl (e ∙ a.0)), ((λ a. inl (f ∙ a.0)), tt)))),
          ),
        )

pub edge_holds : (v : Assignment) (e : EdgeLits) (a b : IntVars) (m n high : ℕ) → Reads v a m → Reads v b n → (Is (v e.west_down) → 1 ≤ m) →
    (Is (v e.west_up) → m < high) → (Is (v e.east_up) → 1 ≤ n) → (Is (v e.east_down) → n < high) → FollowsRules v (beside_end_rules e a b high)
edge_holds v e a b m n high ra rb f1 f2 f3 f4 = (
  (λ p. inl (ra.each 1 ∙ (let h = f1 p.0 in grind (arith, nat_tests)))),
  (
    (λ p. let h = f2 p.0 in let q : nat_le high m ≡ true = sym (ra.each high) ∙ p.1.0 in absurd (grind (arith, nat_tests))),
    (
      (λ p. inl (rb.each 1 ∙ (let h = f3 p.0 in grind (arith, nat_tests)))),
      ((λ p. let h = f4 p.0 in let q : nat_le high n ≡ true = sym (rb.each high) ∙ p.1.0 in absurd (grind (arith, nat_tests))), tt),
    ),
  ),
)
