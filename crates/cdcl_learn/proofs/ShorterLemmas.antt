-- A shorter clause follows as well.
use Rattle.std.proofs.Common.{◌≡◌, ◌≢◌, ℕ, ◌+◌, ◌<◌, ◌≤◌, ◌⊎◌, Bool, true, false, not, zero, suc, take, List, [], ◌∷◌, ◌++◌, length, get_or, set, refl, sym}
use Rattle.std.proofs.Common.{◌∙◌, ap, subst, inl, inr, arith, length-append, length-set}
use Rattle.std.specs.Prelude.{All, Contains, nat_eq}
use Rattle.std.proofs.lemmas.Bool.{both_ways, cases_eq, cases_lt, eq-eqb, ne_eqb}
use Rattle.std.proofs.Math.ListN.{get_or-map}
use Rattle.std.proofs.lemmas.List.{map-set, get_or_default, take_more, take_more_set, get_or_append_left, get_or_push, get_or-set_other, get_or-take}
use Rattle.std.proofs.lemmas.List.{take-take, length-take}
use Rattle.std.proofs.lemmas.List.Elements.{All-contains, All-contains_itself, All-weaker, All-cons, All-head, All-tail, Contains-push, Contains-push_cases}
use Rattle.std.proofs.lemmas.List.Elements.{Contains-append_left}
use Rattle.cnf_core.specs.Lit.{Literal, negate, has}
use Rattle.cnf_core.specs.Clause.{AreDistinct, IsNamed}
use Rattle.cnf_core.specs.Propagation.{LiteralSet, IsIn, Closure, negations}
use Rattle.cnf_core.proofs.PropagationLemmas.{negate-negate, contains_from_has, has_from_contains, closure_start, closure_unit, falsifies_again}
use Rattle.cnf_core.proofs.PropagationLemmas.{contains_first, contains_later}
use Rattle.cnf_core.proofs.QuantifierLemmas.{pairs_from_distinct, distinct_from_pairs}
use Rattle.cdcl_learn.specs.Sight.{Sight, nth, level_of, reason_of, clause_in, clauses_in, IsReasonAt, IsSound, roots, known}
use Rattle.cdcl_learn.specs.Cut.{is_seen, IsLearnt}
use Rattle.cdcl_learn.specs.Shorter.{implied_in, IsFalseBelow, IsFounded, IsRedundant, AreImplied, KeepsImplied, IsShortenedBy, IsShortened, AreMarked}
use Rattle.cnf_core.proofs.TrailLemmas.{distinct_push}
use Rattle.cdcl_learn.proofs.LiteralLemmas.{avoids_all, Placed, placed, placed_anywhere, placed_on, front_in, same_place, same_lit, there_contains}
use Rattle.cdcl_learn.proofs.CountLemmas.{seen_cases, seen_keeps}
use Rattle.cdcl_learn.proofs.RupLemmas.{root_follows, text_among}
use Rattle.cdcl_learn.proofs.BackLemmas.{contains_rest, all_within}

last_differs : (ls : List Literal) (k m : Literal) → AreDistinct (ls ++ k ∷ []) → Contains ls m → m.var ≢ k.var
last_differs ls k m distinct among e =
    let there : get_or (ls ++ k ∷ []) among.0 m ≡ m = get_or_append_left ls (k ∷ []) m among.0 among.1 ∙ among.2 in
    let last : get_or (ls ++ k ∷ []) (length ls) m ≡ k = get_or_push ls k m (length ls) refl in
    pairs_from_distinct (ls ++ k ∷ []) distinct among.0 (length ls) m among.1 (omega (arith, length-append ls (k ∷ [])))
    (ap (λ (x : Literal). x.var) there ∙ e ∙ sym (ap (λ (x : Literal). x.var) last))

pub shortened_keep : (s : Sight) (seen implied : List Bool) (old new : List Literal) (k : Literal) → AreDistinct (old ++ k ∷ []) →
    IsShortenedBy s seen implied old new → IsShortenedBy s seen implied (old ++ k ∷ []) (new ++ k ∷ [])
shortened_keep s seen implied old new k distinct h = record {
  within = λ m c. elim (Contains-push_cases new k m c) [
    | inl a ↦ Contains-append_left old (k ∷ []) m (h.within m a)
    | inr e ↦ subst
        (λ (x : Literal). Contains (old ++ k ∷ []) x) e (Contains-push old k)
  ];
  dropped = λ m c. elim (Contains-push_cases old k m c) [
    | inl a ↦ elim (h.dropped m a) [ inl b ↦ inl (Contains-append_left new (k ∷ []) m b) | inr r ↦ inr r ]
    | inr e ↦ inl (subst (λ (x : Literal). Contains (new ++ k ∷ []) x) e (Contains-push new k))
  ];
  distinct = distinct_push new k h.distinct (λ m among. last_differs old k m distinct (h.within m among));
}

pub shortened_drop : (s : Sight) (seen implied : List Bool) (old new : List Literal) (k : Literal) → IsRedundant s seen implied k →
    IsShortenedBy s seen implied old new → IsShortenedBy s seen implied (old ++ k ∷ []) new
shortened_drop s seen implied old new k r h = record {
  within = λ m c. Contains-append_left old (k ∷ []) m (h.within m c);
  dropped = λ m c. elim (Contains-push_cases old k m c) [ inl a ↦ h.dropped m a | inr e ↦ inr (subst (IsRedundant s seen implied) e r) ];
  distinct = h.distinct;
}

-- what was found to follow still does where more is found
pub founded_wider : (seen old new : List Bool) (levels : List ℕ) (v : ℕ) → KeepsImplied old new → IsFounded seen old levels v → IsFounded seen new levels v
founded_wider seen old new levels v keeps met = elim met [
  | inl mark ↦ inl mark
  | inr other ↦ elim other [ inl found ↦ inr (inl (keeps.keeps v found)) | inr root ↦ inr (inr root) ]
]

pub beside_wider : (s : Sight) (seen old new : List Bool) (v : ℕ) (m : Literal) → KeepsImplied old new → (m.var ≡ v) ⊎ IsFounded seen old s.levels m.var →
    (m.var ≡ v) ⊎ IsFounded seen new s.levels m.var
beside_wider s seen old new v m keeps h = elim h [ inl same ↦ inl same | inr met ↦ inr (founded_wider seen old new s.levels m.var keeps met) ]

pub redundant_wider : (s : Sight) (seen old new : List Bool) (k : Literal) → KeepsImplied old new → IsRedundant s seen old k → IsRedundant s seen new k
redundant_wider s seen old new k keeps r = record {
  place = r.place;
  from = r.from;
  reason = r.reason;
  others = All-weaker (λ m. (m.var ≡ k.var) ⊎ IsFounded seen old s.levels m.var) (λ m. (m.var ≡ k.var) ⊎ IsFounded seen new s.levels m.var)
      (λ m h. beside_wider s seen old new k.var m keeps h) (clause_in s r.place) r.others;
}

pub shortened_wider : (s : Sight) (seen old new : List Bool) (from to : List Literal) → KeepsImplied old new → IsShortenedBy s seen old from to →
    IsShortenedBy s seen new from to
shortened_wider s seen old new from to keeps h = record {
  within = h.within;
  dropped = λ k c. elim (h.dropped k c) [ inl kept ↦ inl kept | inr r ↦ inr (redundant_wider s seen old new k keeps r) ];
  distinct = h.distinct;
}

pub keeps_both : (a b c : List Bool) → KeepsImplied a b → KeepsImplied b c → KeepsImplied a c
keeps_both a b c h k = record { size = k.size ∙ h.size; keeps = λ v x. k.keeps v (h.keeps v x) }

-- one more variable follows
pub keeps_one : (implied : List Bool) (v : ℕ) → v < length implied → KeepsImplied implied (set implied v true)
keeps_one implied v lt = record { size = length-set implied v true; keeps = λ w h. seen_keeps implied v w lt h }

pub implied_one : (s : Sight) (seen implied : List Bool) (k : Literal) (v : ℕ) → v ≡ k.var → v < length implied → AreDistinct s.lits → IsFalseBelow s k →
    IsRedundant s seen implied k → AreImplied s seen implied → AreImplied s seen (set implied v true)
implied_one s seen implied k v var lt distinct low red all m on mark =
    let keeps = keeps_one implied v lt in
    elim (seen_cases implied v m.var mark) [
      | inl same ↦
          let one : negate m ≡ negate k = same_lit s (negate m) (negate k) distinct on low.falsified (same ∙ var) in
          let is : k ≡ m = sym (negate-negate k) ∙ ap negate (sym one) ∙ negate-negate m in
          subst (λ (x : Literal). IsFalseBelow s x × IsRedundant s seen (set implied v true) x) is
          (low, redundant_wider s seen implied (set implied v true) k keeps red)
      | inr before ↦ let old = all m on before in (old.0, redundant_wider s seen implied (set implied v true) m keeps old.1)
    ]

-- nothing was found to follow yet
pub implied_none : (s : Sight) (seen implied : List Bool) → ((v : ℕ) → is_seen implied v ≡ false) → AreImplied s seen implied
implied_none s seen implied none k on mark = absurd (both_ways (is_seen implied k.var) (none k.var) mark)

pub shortened_none : (s : Sight) (seen implied : List Bool) → IsShortenedBy s seen implied [] []
shortened_none s seen implied = record { within = λ k c. c; dropped = λ k c. inl c; distinct = tt }

pub all_false_below : (s : Sight) (first : Literal) (rest : List Literal) → IsLearnt s first rest → All (IsFalseBelow s) rest
all_false_below s first rest learnt = All-weaker (Contains rest) (IsFalseBelow s) (λ k among. record {
  falsified = All-contains (λ m. IsIn (has s.lits) (negate m)) rest k (All-tail (λ m. IsIn (has s.lits) (negate m)) first rest learnt.falsified) among;
  below = All-contains (λ m. level_of s m < s.level) rest k learnt.lower among;
}) rest (All-contains_itself rest)

-- what was dropped follows, by the order of the trail
module _ (s : Sight) (r : IsSound s) (seen : List Bool) (first : Literal) (old new : List Literal) (marked : AreMarked s seen old)
    (learnt : IsLearnt s first old) (short : IsShortened s seen old new) where
  start : LiteralSet
  start = negations (first ∷ new)

  kept_follows : (k : Literal) → Contains (first ∷ new) k → Closure (known s) (negations (first ∷ new)) (negate k)
  kept_follows k c = closure_start (known s) (negations (first ∷ new)) (negate k)
      (ap (has (first ∷ new)) (negate-negate k) ∙ has_from_contains (first ∷ new) k c)

  lower_on : (k : Literal) → Contains old k → IsIn (has s.lits) (negate k)
  lower_on k c = All-contains (λ m. IsIn (has s.lits) (negate m)) old k (All-tail (λ m. IsIn (has s.lits) (negate m)) first old learnt.falsified) c

  -- a literal of the clause, or one that was found to follow
  abbrev IsFound : Literal → Type 0
  IsFound k = Contains old k ⊎ (is_seen short.implied k.var ≡ true)

  needs : (k : Literal) → IsFound k → IsIn (has s.lits) (negate k) → Contains new k ⊎ (IsFalseBelow s k × IsRedundant s seen short.implied k)
  needs k c on = elim c [
    | inl stands ↦ elim (short.short.dropped k stands) [
      | inl kept ↦ inl kept
      | inr red ↦ inr (record { falsified = on; below = All-contains (λ x. level_of s x < s.level) old k learnt.lower stands }, red)
    ]
    | inr found ↦ inr (short.follow k on found)
  ]

  follows : (n : ℕ) (k : Literal) → IsFound k → (p : Placed s (length s.lits) (negate k)) → p.place < n → Closure (known s) (negations (first ∷ new)) (negate k)
  follows zero k c p lt = absurd (omega arith)
  follows (suc n) k c p lt = elim (needs k c (placed_on s (negate k) p)) [
    | inl kept ↦ kept_follows k (contains_later first k new kept)
    | inr both ↦
        let red = both.1 in
        let reason : IsReasonAt s p.place red.place = r.reason p.place red.place p.within (ap (reason_of s) p.is ∙ red.reason) red.from in
        let unit = reason.unit in
        subst (λ (x : Literal). Closure (known s) (negations (first ∷ new)) x) p.is
        (closure_unit (known s) (negations (first ∷ new)) (clause_in s red.place) (nth s p.place)
        (Contains-append_left (clauses_in s) (roots s s.lits) (clause_in s red.place) (text_among s red.place reason.place)) unit.among
        (All-weaker (Contains (clause_in s red.place)) (λ m. (m ≡ nth s p.place) ⊎ Closure (known s) (negations (first ∷ new)) (negate m)) (λ m inside.
        elim (All-contains (λ x. (x ≡ nth s p.place) ⊎ IsIn (has (take p.place s.lits)) (negate x)) (clause_in s red.place) m unit.others inside) [
          | inl e ↦ inl e
          | inr front ↦
              let within = p.within in
              let q = placed s p.place (negate m) (omega arith) front in
              let before = q.below in
              inr (elim (All-contains (λ x. (x.var ≡ k.var) ⊎ IsFounded seen short.implied s.levels x.var) (clause_in s red.place) m red.others inside) [
                | inl same ↦
                    let one : q.place ≡ p.place = same_place s q.place p.place r.distinct q.within p.within
                    (ap (λ (x : Literal). x.var) q.is ∙ same ∙ sym (ap (λ (x : Literal). x.var) p.is)) in
                    absurd (omega arith)
                | inr other ↦ elim other [
                  | inl mark ↦
                      let rise = r.rise q.place p.place before within in
                      let lm : level_of s (nth s q.place) ≡ level_of s m = ap (level_of s) q.is in
                      let lk : level_of s (nth s p.place) ≡ level_of s k = ap (level_of s) p.is in
                      let low : level_of s k < s.level = both.0.below in
                      let stands : Contains old m = subst (λ (x : Literal). Contains old x) (negate-negate m)
                      (marked (negate m) (front_in s p.place (negate m) front) mark (omega arith)) in
                      follows n m (inl stands) (record { place = q.place; below = q.within; within = q.within; is = q.is }) (omega arith)
                  | inr more ↦ elim more [
                    | inl found ↦ follows n m (inr found) (record { place = q.place; below = q.within; within = q.within; is = q.is }) (omega arith)
                    | inr root ↦ root_follows s (negations (first ∷ new)) (negate m) (front_in s p.place (negate m) front) root
                  ]
                ]
              ])
        ]) (clause_in s red.place) (All-contains_itself (clause_in s red.place))))
  ]

  pub shortened_learnt : IsLearnt s first new
  shortened_learnt = record {
    falsified = with_first (λ k. IsIn (has s.lits) (negate k)) learnt.falsified;
    above = with_first (λ k. 0 < level_of s k) learnt.above;
    present = learnt.present;
    lower = all_within (λ k. level_of s k < s.level) new old short.short.within learnt.lower;
    distinct = (
      avoids_all first.var new (λ k among same.
          let below : level_of s k < s.level = All-contains (λ m. level_of s m < s.level) old k learnt.lower (short.short.within k among) in
          let e = learnt.present in
          let lvl : level_of s first ≡ level_of s k = ap (λ v. get_or s.levels v 0) same in
          absurd (omega arith)),
      short.short.distinct,
    );
    named = with_first (λ k. IsNamed (clauses_in s) k.var) learnt.named;
    rup = falsifies_again (known s) (negations (first ∷ new)) (negations (first ∷ old))
        (λ x h. back x (elim (contains_rest first (negate x) old (contains_from_has (first ∷ old) (negate x) h)) [
          | inl e ↦ subst (λ (y : Literal). Closure (known s) (negations (first ∷ new)) (negate y)) e (kept_follows first (contains_first first new))
          | inr c ↦ let p = placed_anywhere s (negate (negate x)) (lower_on (negate x) c) in follows (p.place + 1) (negate x) (inl c) p (omega arith)
        ])) learnt.rup;
  }
    where
      back : (x : Literal) → Closure (known s) (negations (first ∷ new)) (negate (negate x)) → Closure (known s) (negations (first ∷ new)) x
      back x h = subst (λ (y : Literal). Closure (known s) (negations (first ∷ new)) y) (negate-negate x) h

      with_first : (P : Literal → Type 0) → All P (first ∷ old) → All P (first ∷ new)
      with_first P h = All-cons P first new (All-head P first old h) (all_within P new old short.short.within (All-tail P first old h))

-- the walk along the clause
pub distinct_take : (n : ℕ) (ls : List Literal) → AreDistinct ls → AreDistinct (take n ls)
distinct_take n ls h = distinct_from_pairs (take n ls) (λ i j d lt within e.
    let size = length-take n ls in
    pairs_from_distinct ls h i j d lt (omega arith) (sym (ap (λ (m : Literal). m.var) (get_or-take n ls i d (omega arith))) ∙ e
    ∙ ap (λ (m : Literal). m.var) (get_or-take n ls j d (omega arith))))

pub keep_step : (s : Sight) (seen implied : List Bool) (old rest : List Literal) (i left len : ℕ) (k : Literal) → i < len → len ≤ length old →
    length rest ≡ length old → left ≤ i → AreDistinct (take len old) → k ≡ get_or rest i k →
    ((j : ℕ) (d : Literal) → i ≤ j → get_or rest j d ≡ get_or old j d) → IsShortenedBy s seen implied (take i old) (take left rest) →
    IsShortenedBy s seen implied (take (i + 1) old) (take (left + 1) (set rest left k))
keep_step s seen implied old rest i left len k lt le size fewer distinct is same h =
    let here : get_or old i k ≡ k = sym (same i k (omega arith)) ∙ sym is in
    let more : take (i + 1) old ≡ take i old ++ k ∷ [] = take_more old i k (omega arith) ∙ ap (λ (m : Literal). take i old ++ m ∷ []) here in
    let d : AreDistinct (take i old ++ k ∷ []) = subst AreDistinct (take-take (i + 1) len old (omega arith)
    ∙ more) (distinct_take (i + 1) (take len old) distinct) in
    rw (more, take_more_set rest left k (omega arith)) (shortened_keep s seen implied (take i old) (take left rest) k d h)

pub drop_step : (s : Sight) (seen implied : List Bool) (old rest : List Literal) (i left : ℕ) (k : Literal) → i < length old → k ≡ get_or rest i k →
    ((j : ℕ) (d : Literal) → i ≤ j → get_or rest j d ≡ get_or old j d) → IsRedundant s seen implied k →
    IsShortenedBy s seen implied (take i old) (take left rest) → IsShortenedBy s seen implied (take (i + 1) old) (take left rest)
drop_step s seen implied old rest i left k lt is same red h =
    let here : get_or old i k ≡ k = sym (same i k (omega arith)) ∙ sym is in
    let more : take (i + 1) old ≡ take i old ++ k ∷ [] = take_more old i k lt ∙ ap (λ (m : Literal). take i old ++ m ∷ []) here in
    rw more (shortened_drop s seen implied (take i old) (take left rest) k red h)

pub keep_same : (old rest : List Literal) (i left : ℕ) (k : Literal) → left ≤ i → ((j : ℕ) (d : Literal) → i ≤ j → get_or rest j d ≡ get_or old j d) →
    (j : ℕ) (d : Literal) → i + 1 ≤ j → get_or (set rest left k) j d ≡ get_or old j d
keep_same old rest i left k fewer same j d le = get_or-set_other rest left j k d (λ e. absurd (omega arith)) ∙ same j d (omega arith)

-- the other literals of a reason are false, and of no later level
pub false_there : (s : Sight) (k : Literal) (v : ℕ) → IsSound s → IsFalseBelow s k → v ≡ k.var → v ≤ s.vars
false_there s k v r low var =
    let there = there_contains s.vars s.lits (negate k) r.there (contains_from_has s.lits (negate k) low.falsified) in
    let le = there.1 in
    omega arith

pub reason_false : (s : Sight) (k m : Literal) (v n : ℕ) → IsSound s → IsFalseBelow s k → v ≡ k.var → get_or s.reasons v 0 ≡ n → 1 ≤ get_or s.reasons v 0 →
    Contains (clause_in s n) m → (m.var ≡ v → ⊥) → IsFalseBelow s m
reason_false s k m v n r low var e some among differs =
    let p = placed_anywhere s (negate k) low.falsified in
    let within = p.within in
    let h : IsReasonAt s p.place n = r.reason p.place n p.within (ap (reason_of s) p.is ∙ ap (λ x. get_or s.reasons x 0) (sym var)
    ∙ e) (subst (λ x. 1 ≤ x) e some) in
    let others = h.unit.others in
    elim (All-contains (λ x. (x ≡ nth s p.place) ⊎ IsIn (has (take p.place s.lits)) (negate x)) (clause_in s n) m others among) [
      | inl is ↦ absurd (differs (ap (λ (x : Literal). x.var) (is ∙ p.is) ∙ sym var))
      | inr front ↦
          let q = placed s p.place (negate m) (omega arith) front in
          let before = q.below in
          let rise = r.rise q.place p.place before within in
          let lm : level_of s (nth s q.place) ≡ level_of s m = ap (level_of s) q.is in
          let lk : level_of s (nth s p.place) ≡ level_of s k = ap (level_of s) p.is in
          let below = low.below in
          record { falsified = front_in s p.place (negate m) front; below = omega arith }
    ]

pub ne_differs : (a b : ℕ) (r : Bool) → r ≡ not (nat_eq a b) → r ≡ true → a ≡ b → ⊥
ne_differs a b r is differs e = both_ways r (is ∙ ap not (eq-eqb a b e)) differs

pub ne_same : (a b : ℕ) (r : Bool) → r ≡ not (nat_eq a b) → r ≡ false → a ≡ b
ne_same a b r is same = elim (cases_eq a b) [ inl e ↦ e | inr ne ↦ absurd (both_ways r same (is ∙ ap not (ne_eqb a b ne))) ]

-- the tables of rounds
pub none_in_round : (round : ℕ) (implied : List ℕ) → ((v : ℕ) → get_or implied v 0 < round) → (v : ℕ) → is_seen (implied_in round implied) v ≡ false
none_in_round round implied below v =
    let some = below v in
    let differs : nat_eq round (get_or implied v 0) ≡ false = ne_eqb round (get_or implied v 0) (λ e. absurd (omega arith)) in
    let none : nat_eq round 0 ≡ false = ne_eqb round 0 (λ e. absurd (omega arith)) in
    ap (get_or (implied_in round implied) v) (sym none) ∙ get_or-map (nat_eq round) implied v 0 ∙ differs

pub implied_set : (round : ℕ) (implied : List ℕ) (v : ℕ) → implied_in round (set implied v round) ≡ set (implied_in round implied) v true
implied_set round implied v = map-set (nat_eq round) implied v round ∙ ap (set (implied_in round implied) v) (eq-eqb round round refl)

-- the literals of a reason, one after another
pub met_step : (s : Sight) (seen implied : List Bool) (c : List Literal) (v : ℕ) (i : ℕ) (m : Literal) → i < length c → get_or c i m ≡ m →
    (m.var ≡ v) ⊎ IsFounded seen implied s.levels m.var → ((j : ℕ) (d : Literal) → j < i → ((get_or c j d).var ≡ v) ⊎ IsFounded seen implied s.levels
    (get_or c j d).var) → (j : ℕ) (d : Literal) → j < i + 1 → ((get_or c j d).var ≡ v) ⊎ IsFounded seen implied s.levels (get_or c j d).var
met_step s seen implied c v i m lt e here before j d below = elim (cases_lt j i) [
  | inl old ↦ before j d old
  | inr last ↦
      let same : j ≡ i = omega arith in
      let read : m ≡ get_or c j d = sym (get_or_default c i d m lt ∙ e) ∙ ap (λ n. get_or c n d) (sym same) in
      subst (λ (x : Literal). (x.var ≡ v) ⊎ IsFounded seen implied s.levels x.var) read here
]
