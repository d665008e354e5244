-- The assumptions, and each move of the trail.
use Rattle.std.proofs.Common.{◌≡◌, ◌≢◌, ℕ, ◌+◌, ◌<◌, ◌≤◌, true, List, [], ◌∷◌, ◌++◌, length, take, get_or, refl, sym, ◌∙◌, ap, subst, inl, inr, arith}
use Rattle.std.proofs.Common.{length-append, length-take-le}
use Rattle.std.specs.Prelude.{Contains}
use Rattle.std.proofs.lemmas.Bool.{cases_lt, cases_eq}
use Rattle.std.proofs.lemmas.List.{get_or_default, get_or-set_same, get_or-set_other}
use Rattle.std.proofs.lemmas.List.Elements.{Contains-push_cases, Contains-get_or}
use Rattle.cnf_core.specs.Lit.{Literal, literal, negate, has}
use Rattle.cnf_core.specs.Clause.{AreDistinct}
use Rattle.cnf_core.specs.Propagation.{IsIn}
use Rattle.cnf_core.proofs.PropagationLemmas.{contains_from_has, has_from_contains}
use Rattle.cnf_core.proofs.TrailLemmas.{same_or_negated, has_last, same_place, negate_differs}
use Rattle.watch_arena.specs.Trail.{Marks, IsMarks, IsUnset, IsLonger, trail_level, undone, opened, with_lit}
use Rattle.watch_arena.specs.Walk.{KeepsReasons}
use Rattle.watch_arena.specs.Arena.{Attached, AreReasoned}
use Rattle.watch_arena.proofs.CutLemmas.{level_most}
use Rattle.cdcl_learn.specs.Sight.{Sight, sight, nth, level_of, reason_of}
use Rattle.cdcl_learn.specs.Levels.{upto}
use Rattle.cdcl_learn.specs.Analysis.{IsImpliedFalse}
use Rattle.cdcl_learn.proofs.LiteralLemmas.{placed_anywhere, stands}
use Rattle.cdcl_core.proofs.SetLemmas.{not_both}
use Rattle.cdcl_learn.proofs.LevelLemmas.{upto_parts, upto_from}
use Rattle.cdcl_core.specs.Roots.{IsAssuming}
use Rattle.cdcl_core.proofs.MoveLemmas.{IsFurther, further_longer, further_lit, further_decided, further_undone, further_upto, back_upto, further_old}
use Rattle.cdcl_core.proofs.MoveLemmas.{further_in, further_nth, further_cases, level_low}

-- what propagation adds has reasons, or is of level 0
pub asking_longer : (a b : Attached) (m k : Marks) (query : List Literal) (q n : ℕ) → IsMarks m → IsMarks k → IsLonger m k → KeepsReasons m k →
    AreReasoned b k → IsAssuming query (sight a m) q n → IsAssuming query (sight b k) q n
asking_longer a b m k query q n before after longer keeps reasoned h =
    let size : length k.cuts ≡ length m.cuts = ap length longer.cuts in
    let within = h.within in
    record {
      within = omega arith;
      some = h.some;
      first = λ i d lt. further_upto a b m k (length m.cuts) f q (get_or query i d) (h.first i d lt);
      only = λ l on none above low.
          let p = placed_anywhere (sight b k) l on in
          elim (cases_lt p.place (length m.lits)) [
            | inl lt ↦
                let is : nth (sight a m) p.place ≡ l = sym (further_nth a b m k (length m.cuts) f p.place lt) ∙ p.is in
                let old : IsIn (has m.lits) l = subst (λ (x : Literal). IsIn (has m.lits) x) is
                (has_from_contains m.lits (nth (sight a m) p.place) (stands (sight a m) p.place lt)) in
                let lvl : level_of (sight b k) l ≡ level_of (sight a m) l = further_old a b m k (length m.cuts) f l old in
                let same : get_or k.reasons l.var 0 ≡ get_or m.reasons l.var 0 = subst (λ (x : Literal). get_or k.reasons x.var 0 ≡ get_or m.reasons x.var 0) is
                (keeps p.place (literal 0 true) lt) in
                h.only l old (sym same ∙ none) (omega arith) (omega arith)
            | inr ge ↦
                let here : level_of (sight b k) l ≡ trail_level k.cuts p.place = sym (ap (level_of (sight b k)) p.is)
                ∙ after.levels p.place (literal 0 true) p.within in
                let most = level_most k.cuts p.place in
                let cuts = before.cuts in
                elim (reasoned.decided p.place l p.within (sym (get_or_default k.lits p.place (literal 0 true) l p.within) ∙ p.is) none) [
                  | inl begins ↦
                      let c : Contains m.cuts p.place = subst (λ (cs : List ℕ). Contains cs p.place) longer.cuts begins in
                      let lt = c.1 in
                      let at : get_or m.cuts c.0 0 ≡ p.place = get_or_default m.cuts c.0 0 p.place lt ∙ c.2 in
                      let below = cuts.below c.0 lt in
                      absurd (omega arith)
                  | inr before_all ↦
                      let some : 0 < length k.cuts = omega arith in
                      let early = before_all (get_or k.cuts 0 0) (Contains-get_or k.cuts 0 0 some) in
                      let at : get_or k.cuts 0 0 ≡ get_or m.cuts 0 0 = ap (λ (cs : List ℕ). get_or cs 0 0) longer.cuts in
                      let below = cuts.below 0 (omega arith) in
                      absurd (omega arith)
                ]
          ];
      left = λ lt. size ∙ h.left lt;
    }
  where
    f : IsFurther m k (length m.cuts)
    f = further_longer m k before after longer

-- levels are undone, and with them assumptions
pub asking_undone : (a : Attached) (m : Marks) (query : List Literal) (q n level : ℕ) → IsMarks m → IsMarks (undone m level) → level ≤ length m.cuts →
    q ≤ level → IsAssuming query (sight a m) q n → IsAssuming query (sight a (undone m level)) q n
asking_undone a m query q n level before after le low h =
    let size : length (take level m.cuts) ≡ level = length-take-le level m.cuts le in
    record {
      within = omega arith;
      some = h.some;
      first = λ i d lt. back_upto a a (undone m level) m (level + 1) f q (get_or query i d) (omega arith) (h.first i d lt);
      only = λ l on none above below.
          let same = further_old a a (undone m level) m (level + 1) f l on in
          h.only l (further_in a a (undone m level) m (level + 1) f l on) none (omega arith) (omega arith);
      left = λ lt. let e = h.left lt in omega arith;
    }
  where
    f : IsFurther (undone m level) m (level + 1)
    f = further_undone m level before after le

pub asking_again : (a : Attached) (m : Marks) (query : List Literal) (q n level : ℕ) → IsMarks m → IsMarks (undone m level) → level < q →
    IsAssuming query (sight a m) q n → IsAssuming query (sight a (undone m level)) level 0
asking_again a m query q n level before after lt h =
    let within = h.within in
    let size : length (take level m.cuts) ≡ level = length-take-le level m.cuts (omega arith) in
    record {
      within = omega arith;
      some = omega arith;
      first = λ i d none. absurd (omega arith);
      only = λ l on none above below.
          let same = further_old a a (undone m level) m (level + 1) f l on in
          h.only l (further_in a a (undone m level) m (level + 1) f l on) none (omega arith) (omega arith);
      left = λ _. size;
    }
  where
    f : IsFurther (undone m level) m (level + 1)
    f = further_undone m level before after (let within = h.within in omega arith)

-- nothing is assumed yet
pub asking_none : (a : Attached) (m : Marks) (query : List Literal) → m.cuts ≡ [] → IsAssuming query (sight a m) 0 0
asking_none a m query none = record {
  within = omega arith;
  some = omega arith;
  first = λ i d lt. absurd (omega arith);
  only = λ l on z above low. absurd (omega arith);
  left = λ _. ap length none;
}

-- the next assumptions are true already
pub asking_past : (a : Attached) (m : Marks) (query : List Literal) (q n more : ℕ) → IsMarks m → n ≤ more → more ≤ length query →
    ((i : ℕ) (d : Literal) → n ≤ i → i < more → IsIn (has m.lits) (get_or query i d)) → IsAssuming query (sight a m) q n → IsAssuming query (sight a m) q more
asking_past a m query q n more marks le within true_ h = record {
  within = h.within;
  some = within;
  first = λ i d lt. elim (cases_lt i n) [
    | inl old ↦ h.first i d old
    | inr ge ↦
        let e : length m.cuts ≡ q = h.left (omega arith) in
        let on = true_ i d ge lt in
        let p = placed_anywhere (sight a m) (get_or query i d) on in
        let here : level_of (sight a m) (get_or query i d) ≡ trail_level m.cuts p.place = sym (ap (level_of (sight a m)) p.is)
        ∙ marks.levels p.place (literal 0 true) p.within in
        let most = level_most m.cuts p.place in
        upto_from (sight a m) q (get_or query i d) on (omega arith)
  ];
  only = h.only;
  left = λ lt. h.left (omega arith);
}

-- a further literal has another variable
other_var : (m : Marks) (l : Literal) → IsUnset m.lits l → (k : Literal) → IsIn (has m.lits) k → k.var ≢ l.var
other_var m l un k on e = elim (same_or_negated k l e) [
  | inl same ↦ not_both (has m.lits l) (subst (λ (x : Literal). IsIn (has m.lits) x) same on) un.0
  | inr neg ↦ not_both (has m.lits (negate l)) (subst (λ (x : Literal). IsIn (has m.lits) x) neg on) un.1
]

kept_reason : (m : Marks) (l : Literal) (reason : ℕ) → IsUnset m.lits l → (k : Literal) → IsIn (has m.lits) k →
    get_or (with_lit m l reason).reasons k.var 0 ≡ get_or m.reasons k.var 0
kept_reason m l reason un k on = get_or-set_other m.reasons l.var k.var reason 0 (other_var m l un k on)

-- a literal is set by a clause, or at level 0
pub asking_set : (a b : Attached) (m : Marks) (l : Literal) (reason : ℕ) (query : List Literal) (q n : ℕ) → IsMarks m → IsMarks (with_lit m l reason) →
    IsUnset m.lits l → l.var < length m.reasons → (reason ≡ 0 → length m.cuts ≡ 0) → IsAssuming query (sight a m) q n →
    IsAssuming query (sight b (with_lit m l reason)) q n
asking_set a b m l reason query q n before after un within root h = record {
  within = h.within;
  some = h.some;
  first = λ i d lt. further_upto a b m (with_lit m l reason) (length m.cuts) f q (get_or query i d) (h.first i d lt);
  only = λ k on none above low. elim (Contains-push_cases m.lits l k (contains_from_has (m.lits ++ l ∷ []) k on)) [
    | inl c ↦
        let old = has_from_contains m.lits k c in
        let same = further_old a b m (with_lit m l reason) (length m.cuts) f k old in
        h.only k old (sym (kept_reason m l reason un k old) ∙ none) (omega arith) (omega arith)
    | inr e ↦
        let is : get_or (with_lit m l reason).reasons k.var 0 ≡ reason = ap (λ (x : Literal). get_or (with_lit m l reason).reasons x.var 0) (sym e)
        ∙ get_or-set_same m.reasons l.var reason 0 within in
        let z = root (sym is ∙ none) in
        let most = level_low b (with_lit m l reason) k after on in
        absurd (omega arith)
  ];
  left = h.left;
}
  where
    f : IsFurther m (with_lit m l reason) (length m.cuts)
    f = further_lit m l reason before after

-- the next assumption is decided
pub asking_assumed : (a : Attached) (m : Marks) (l : Literal) (query : List Literal) (q n : ℕ) → IsMarks m → IsMarks (with_lit (opened m) l 0) →
    IsUnset m.lits l → n < length query → ((d : Literal) → get_or query n d ≡ l) → IsAssuming query (sight a m) q n →
    IsAssuming query (sight a (with_lit (opened m) l 0)) (q + 1) (n + 1)
asking_assumed a m l query q n before after un lt at h =
    let size : length (m.cuts ++ length m.lits ∷ []) ≡ length m.cuts + 1 = length-append m.cuts (length m.lits ∷ []) in
    let busy : length m.cuts ≡ q = h.left lt in
    record {
      within = omega arith;
      some = omega arith;
      first = λ i d below. elim (cases_lt i n) [
        | inl old ↦
            let x = upto_parts (sight a (with_lit (opened m) l 0)) q (get_or query i d)
            (further_upto a a m (with_lit (opened m) l 0) (length m.cuts + 1) f q (get_or query i d) (h.first i d old)) in
            let low = x.1 in
            upto_from (sight a (with_lit (opened m) l 0)) (q + 1) (get_or query i d) x.0 (omega arith)
        | inr ge ↦
            let same : n ≡ i = omega arith in
            let is : get_or query i d ≡ l = ap (λ j. get_or query j d) (sym same) ∙ at d in
            let on : IsIn (has (m.lits ++ l ∷ [])) (get_or query i d) = subst (λ (x : Literal). IsIn (has (m.lits ++ l ∷ [])) x) (sym is) (has_last m.lits l) in
            let most = level_low a (with_lit (opened m) l 0) (get_or query i d) after on in
            upto_from (sight a (with_lit (opened m) l 0)) (q + 1) (get_or query i d) on (omega arith)
      ];
      only = λ k on none above low. elim (Contains-push_cases m.lits l k (contains_from_has (m.lits ++ l ∷ []) k on)) [
        | inl c ↦
            let old = has_from_contains m.lits k c in
            let same = further_old a a m (with_lit (opened m) l 0) (length m.cuts + 1) f k old in
            let most = level_low a m k before old in
            h.only k old (sym (kept_reason m l 0 un k old) ∙ none) (omega arith) (omega arith)
        | inr e ↦ (n, lt, at k ∙ e)
      ];
      left = λ _. omega arith;
    }
  where
    f : IsFurther m (with_lit (opened m) l 0) (length m.cuts + 1)
    f = further_decided m l before after

-- all assumptions are true, and another literal is decided
pub asking_decided : (a : Attached) (m : Marks) (l : Literal) (query : List Literal) (q n : ℕ) → IsMarks m → IsMarks (with_lit (opened m) l 0) →
    IsUnset m.lits l → length query ≤ n → IsAssuming query (sight a m) q n → IsAssuming query (sight a (with_lit (opened m) l 0)) q n
asking_decided a m l query q n before after un all h =
    let size : length (m.cuts ++ length m.lits ∷ []) ≡ length m.cuts + 1 = length-append m.cuts (length m.lits ∷ []) in
    let within = h.within in
    record {
      within = omega arith;
      some = h.some;
      first = λ i d lt. further_upto a a m (with_lit (opened m) l 0) (length m.cuts + 1) f q (get_or query i d) (h.first i d lt);
      only = λ k on none above low.
          let cases = further_cases a a m (with_lit (opened m) l 0) (length m.cuts + 1) f k on in
          elim cases.cases [
            | inl old ↦
                let same = further_old a a m (with_lit (opened m) l 0) (length m.cuts + 1) f k old in
                h.only k old (sym (kept_reason m l 0 un k old) ∙ none) (omega arith) (omega arith)
            | inr later ↦ absurd (omega arith)
          ];
      left = λ lt. absurd (omega arith);
    }
  where
    f : IsFurther m (with_lit (opened m) l 0) (length m.cuts + 1)
    f = further_decided m l before after

-- all assumptions are true, at levels up to q
pub asking_all : (query : List Literal) (s : Sight) (q n : ℕ) → length query ≤ n → IsAssuming query s q n → (l : Literal) → Contains query l → IsIn (upto s q) l
asking_all query s q n all h l c = let lt = c.1 in subst (λ (x : Literal). IsIn (upto s q) x) c.2 (h.first c.0 l (omega arith))

-- a false assumption wasn't decided
pub asking_implied : (a : Attached) (m : Marks) (query : List Literal) (q n : ℕ) (l : Literal) → IsMarks m → AreDistinct query → Contains query l →
    length m.cuts ≤ q → IsIn (has m.lits) (negate l) → IsAssuming query (sight a m) q n → IsImpliedFalse a m l
asking_implied a m query q n l marks distinct among low on h = record {
  falsified = on;
  undecided = elim (cases_eq (level_of (sight a m) l) 0) [
    | inl z ↦ inl z
    | inr nz ↦ elim (cases_lt 0 (reason_of (sight a m) l)) [
      | inl some ↦ inr some
      | inr none ↦
          let most = level_low a m (negate l) marks on in
          let above : 0 < level_of (sight a m) (negate l) = above_zero (level_of (sight a m) l) nz in
          let z : reason_of (sight a m) (negate l) ≡ 0 = omega arith in
          let other = h.only (negate l) on z above (omega arith) in
          absurd (negate_differs l (same_place query l (negate l) distinct among other refl))
    ]
  ];
}
  where
    above_zero : (n : ℕ) → n ≢ 0 → 0 < n
    above_zero n ne = omega arith

-- the same of the trail that a call leaves
pub assumed_at : (a : Attached) (m t : Marks) (l : Literal) (query : List Literal) (q n : ℕ) → t ≡ with_lit (opened m) l 0 → IsMarks m → IsMarks t →
    IsUnset m.lits l → n < length query → ((d : Literal) → get_or query n d ≡ l) → IsAssuming query (sight a m) q n →
    IsAssuming query (sight a t) (q + 1) (n + 1)
assumed_at a m t l query q n e before after un lt at h = subst (λ (x : Marks). IsAssuming query (sight a x) (q + 1) (n + 1)) (sym e)
    (asking_assumed a m l query q n before (subst IsMarks e after) un lt at h)

pub decided_at : (a : Attached) (m t : Marks) (l : Literal) (query : List Literal) (q n : ℕ) → t ≡ with_lit (opened m) l 0 → IsMarks m → IsMarks t →
    IsUnset m.lits l → length query ≤ n → IsAssuming query (sight a m) q n → IsAssuming query (sight a t) q n
decided_at a m t l query q n e before after un all h = subst (λ (x : Marks). IsAssuming query (sight a x) q n) (sym e)
    (asking_decided a m l query q n before (subst IsMarks e after) un all h)

pub undone_at : (a : Attached) (m t : Marks) (query : List Literal) (q n level : ℕ) → t ≡ undone m level → IsMarks m → IsMarks t → level ≤ length m.cuts →
    q ≤ level → IsAssuming query (sight a m) q n → IsAssuming query (sight a t) q n
undone_at a m t query q n level e before after le low h = subst (λ (x : Marks). IsAssuming query (sight a x) q n) (sym e)
    (asking_undone a m query q n level before (subst IsMarks e after) le low h)

pub again_at : (a : Attached) (m t : Marks) (query : List Literal) (q n level : ℕ) → t ≡ undone m level → IsMarks m → IsMarks t → level < q →
    IsAssuming query (sight a m) q n → IsAssuming query (sight a t) level 0
again_at a m t query q n level e before after lt h = subst (λ (x : Marks). IsAssuming query (sight a x) level 0) (sym e)
    (asking_again a m query q n level before (subst IsMarks e after) lt h)
