-- The tables of the working clause.
use Rattle.std.proofs.Common.{◌≡◌, ℕ, ◌+◌, ◌<◌, ◌≤◌, ◌*◌, Bool, true, false, suc, take, List, [], ◌∷◌, ◌++◌, length, get_or, set, refl, sym, ◌∙◌, ap, subst}
use Rattle.std.proofs.Common.{inl, inr, arith, length-set, length-take-le, length-append, replicate}
use Rattle.std.specs.Prelude.{All, Contains}
use Rattle.cnf_core.specs.declared.limits.TheConstants.{VARS}
use Rattle.watch_arena.proofs.TrailLemmas.{get_padded}
use Rattle.std.specs.List.{sum_by}
use Rattle.std.proofs.lemmas.Bool.{both_ways, cases_eq, cases_lt, cases_Bool}
use Rattle.std.proofs.lemmas.List.{get_or_default, take_more_set, take-append-le, length-replicate, get_or-set_same, get_or-set_other, get_or-take}
use Rattle.std.proofs.lemmas.List.Sums.{sum_by-set, sum_by-le, sum_by-cons, sum_by-append}
use Rattle.std.proofs.lemmas.List.Folds.{sum_by-replicate}
use Rattle.cnf_core.specs.Lit.{Literal}
use Rattle.cnf_core.specs.Trail.{weight}
use Rattle.cdcl_learn.specs.Cut.{Cut, working_cut, is_seen, IsWork, with_open, with_lower}
use Rattle.cdcl_learn.proofs.CountLemmas.{seen_cases, seen_keeps, seen_same}

weight_small : (b : Bool) → weight b ≤ 1
weight_small true = omega arith
weight_small false = omega arith

marks_more : (seen : List Bool) (v : ℕ) → v < length seen → is_seen seen v ≡ false → sum_by weight (set seen v true) ≡ sum_by weight seen + 1
marks_more seen v lt un =
    let now = sum_by-set weight seen v true false lt in
    let was : weight (get_or seen v false) ≡ 0 = ap weight un in
    let one : weight true ≡ 1 = refl in
    omega (arith, now, was, one)

pub work_short : (vars : ℕ) (seen : List Bool) (touched : List ℕ) (count : ℕ) (rest : List Literal) (len pending v : ℕ) →
    IsWork vars seen touched count rest len pending → v ≤ vars → is_seen seen v ≡ false → count < vars + 1
work_short vars seen touched count rest len pending v w le un =
    let size = w.seen_size in
    let more = marks_more seen v (omega arith) un in
    let most = sum_by-le weight 1 (set seen v true) (λ k d within. weight_small (get_or (set seen v true) k d)) in
    let same = length-set seen v true in
    let marks = w.marks in
    omega arith

pub work_more : (vars : ℕ) (seen : List Bool) (touched : List ℕ) (count : ℕ) (rest : List Literal) (len pending v : ℕ) (now : List Literal) (more some : ℕ) →
    IsWork vars seen touched count rest len pending → v ≤ vars → is_seen seen v ≡ false → length now ≡ vars + 1 → more ≤ count + 1 → some ≤ count + 1 →
    IsWork vars (set seen v true) (set touched count v) (count + 1) now more some
work_more vars seen touched count rest len pending v now more some w le un size short few =
    let seen_size = w.seen_size in
    let touched_size = w.touched_size in
    let fits = work_short vars seen touched count rest len pending v w le un in
    record {
      limit = w.limit;
      seen_size = length-set seen v true ∙ w.seen_size;
      touched_size = length-set touched count v ∙ w.touched_size;
      rest_size = size;
      marks = let m = marks_more seen v (omega arith) un in let old = w.marks in omega arith;
      all = λ x h. elim (seen_cases seen v x h) [
        | inl e ↦ (count, omega arith, get_or-set_same touched count v 0 (omega arith) ∙ sym e)
        | inr old ↦ let a = w.all x old in let lt = a.1 in (a.0, omega arith, get_or-set_other touched count a.0 v 0 (λ e. absurd (omega arith)) ∙ a.2)
      ];
      within = λ i lt. elim (cases_lt i count) [
        | inl below ↦ let b = w.within i below in let e = get_or-set_other touched count i v 0 (λ e. absurd (omega arith)) in omega arith
        | inr last ↦ let is : count ≡ i = omega arith in subst (λ n. get_or (set touched count v) n 0 ≤ vars) is
            (let e = get_or-set_same touched count v 0 (omega arith) in omega arith)
      ];
      marked = λ i lt. elim (cases_lt i count) [
        | inl below ↦ subst (λ x. is_seen (set seen v true) x ≡ true) (sym (get_or-set_other touched count i v 0 (λ e. absurd (omega arith))))
            (seen_keeps seen v (get_or touched i 0) (omega arith) (w.marked i below))
        | inr last ↦ let is : count ≡ i = omega arith in subst (λ n. is_seen (set seen v true) (get_or (set touched count v) n 0) ≡ true) is
            (subst (λ x. is_seen (set seen v true) x ≡ true) (sym (get_or-set_same touched count v 0 (omega arith))) (seen_same seen v (omega arith)))
      ];
      apart = λ i j lt within e.
          let here : get_or (set touched count v) i 0 ≡ get_or touched i 0 = get_or-set_other touched count i v 0 (λ e. absurd (omega arith)) in
          elim (cases_lt j count) [
            | inl below ↦ w.apart i j lt below (sym here ∙ e ∙ get_or-set_other touched count j v 0 (λ e. absurd (omega arith)))
            | inr last ↦
                let is : j ≡ count = omega arith in
                let v_is : get_or (set touched count v) j 0 ≡ v = ap (λ n. get_or (set touched count v) n 0) is
                ∙ get_or-set_same touched count v 0 (omega arith) in
                both_ways (is_seen seen (get_or touched i 0)) (ap (is_seen seen) (sym here ∙ e ∙ v_is) ∙ un) (w.marked i (omega arith))
          ];
      short = short;
      few = few;
    }

pub open_view : (vars : ℕ) (seen : List Bool) (touched : List ℕ) (count : ℕ) (rest : List Literal) (len pending v : ℕ) (k : Literal) (w : Cut) →
    working_cut vars seen touched count rest len pending ≡ w → v ≡ k.var → count < length touched →
    working_cut vars (set seen v true) (set touched count v) (count + 1) rest len (pending + 1) ≡ with_open w k
open_view vars seen touched count rest len pending v k w e same lt =
    ap (λ (ns : List ℕ). let c : Cut = record {
      vars = vars;
      seen = set seen v true;
      met = ns;
      rest = take len rest;
      pending = pending + 1;
    } in c) (take_more_set touched count v lt)
    ∙ ap (λ x. let c : Cut = record {
      vars = vars;
      seen = set seen x true;
      met = take count touched ++ x ∷ [];
      rest = take len rest;
      pending = pending + 1;
    } in c) same
    ∙ ap (λ (c : Cut). with_open c k) e

pub lower_view : (vars : ℕ) (seen : List Bool) (touched : List ℕ) (count : ℕ) (rest : List Literal) (len pending v : ℕ) (k : Literal) (w : Cut) →
    working_cut vars seen touched count rest len pending ≡ w → v ≡ k.var → count < length touched → len < length rest →
    working_cut vars (set seen v true) (set touched count v) (count + 1) (set rest len k) (len + 1) pending ≡ with_lower w k
lower_view vars seen touched count rest len pending v k w e same met lt =
    ap (λ (ls : List Literal). let c : Cut = record {
      vars = vars;
      seen = set seen v true;
      met = take (count + 1) (set touched count v);
      rest = ls;
      pending = pending;
    } in c) (take_more_set rest len k lt)
    ∙ ap (λ (ns : List ℕ). let c : Cut = record {
      vars = vars;
      seen = set seen v true;
      met = ns;
      rest = take len rest ++ k ∷ [];
      pending = pending;
    } in c) (take_more_set touched count v met)
    ∙ ap (λ x. let c : Cut = record {
      vars = vars;
      seen = set seen x true;
      met = take count touched ++ x ∷ [];
      rest = take len rest ++ k ∷ [];
      pending = pending;
    } in c) same
    ∙ ap (λ (c : Cut). with_lower c k) e

-- marks are taken away
abbrev pub Marked : List Bool → List ℕ → ℕ → ℕ → Type 0
Marked seen touched i count = (v : ℕ) → is_seen seen v ≡ true → (j : ℕ) × (i ≤ j) × (j < count) × (get_or touched j 0 ≡ v)

pub unmarked : (seen : List Bool) (touched : List ℕ) (i count : ℕ) → count ≤ i → Marked seen touched i count → (v : ℕ) → is_seen seen v ≡ false
unmarked seen touched i count le m v = elim (cases_Bool (is_seen seen v)) [
  | inl h ↦ let j = m v h in let a = j.1 in let b = j.2 in absurd (omega arith)
  | inr h ↦ h
]

marks_none : (seen : List Bool) → ((v : ℕ) → is_seen seen v ≡ false) → sum_by weight seen ≡ 0
marks_none [] h = refl
marks_none (b ∷ seen) h =
    let first : weight b ≡ 0 = ap weight (h 0) in
    let rest = marks_none seen (λ v. h (suc v)) in
    omega (arith, sum_by-cons weight b seen)

pub work_clear : (vars : ℕ) (seen now : List Bool) (touched : List ℕ) (count : ℕ) (rest : List Literal) (len pending : ℕ) →
    IsWork vars seen touched count rest len pending → length now ≡ length seen → ((v : ℕ) → is_seen now v ≡ false) → IsWork vars now touched 0 rest 0 0
work_clear vars seen now touched count rest len pending w size blank = record {
  limit = w.limit;
  seen_size = size ∙ w.seen_size;
  touched_size = w.touched_size;
  rest_size = w.rest_size;
  marks = sym (marks_none now blank);
  all = λ v h. absurd (both_ways (is_seen now v) (blank v) h);
  within = λ i lt. absurd (omega arith);
  marked = λ i lt. absurd (omega arith);
  apart = λ i j lt within. absurd (omega arith);
  short = omega arith;
  few = omega arith;
}

pub work_few : (vars : ℕ) (seen : List Bool) (touched : List ℕ) (count : ℕ) (rest : List Literal) (len pending : ℕ) →
    IsWork vars seen touched count rest len pending → count ≤ vars + 1
work_few vars seen touched count rest len pending w =
    let size = w.seen_size in
    let most = sum_by-le weight 1 seen (λ k d within. weight_small (get_or seen k d)) in
    let marks = w.marks in
    omega arith

pub rest_short : (vars : ℕ) (seen : List Bool) (touched : List ℕ) (count : ℕ) (rest : List Literal) (len pending : ℕ) →
    IsWork vars seen touched count rest len pending → len ≤ length rest
rest_short vars seen touched count rest len pending w =
    let few = work_few vars seen touched count rest len pending w in
    let short = w.short in
    let size = w.rest_size in
    omega arith

pub rest_all : (P : Literal → Type 0) (rest now : List Literal) (len : ℕ) → take len rest ≡ now → len ≤ length rest → All P now → (i : ℕ) (d : Literal) →
    i < len → P (get_or rest i d)
rest_all P rest now len e le h = λ i d lt.
    let size = length-take-le len rest le in
    subst P (get_or-take len rest i d lt) (subst (λ (ls : List Literal). All P ls) (sym e) h i d (omega arith))

pub view_short : (vars : ℕ) (seen : List Bool) (touched : List ℕ) (count : ℕ) (rest : List Literal) (len pending : ℕ) →
    IsWork vars seen touched count rest len pending → length (take len rest) ≤ vars + 1
view_short vars seen touched count rest len pending w =
    let few = work_few vars seen touched count rest len pending w in
    let short = w.short in
    let size = length-take-le len rest (rest_short vars seen touched count rest len pending w) in
    omega arith

-- the list of the seen variables
pub record MetFacts (w : Cut) (count : ℕ) : Type 0 where
  pub len : count ≡ length w.met
  pub short : length w.met ≤ w.vars + 1
  pub marked : (i : ℕ) → i < length w.met → is_seen w.seen (get_or w.met i 0) ≡ true
  pub all : (v : ℕ) → is_seen w.seen v ≡ true → Contains w.met v
  pub apart : (i j : ℕ) → i < j → j < length w.met → get_or w.met i 0 ≡ get_or w.met j 0 → ⊥

pub met_facts : (vars : ℕ) (seen : List Bool) (touched : List ℕ) (count : ℕ) (rest : List Literal) (len pending : ℕ) (w : Cut) →
    working_cut vars seen touched count rest len pending ≡ w → IsWork vars seen touched count rest len pending → MetFacts w count
met_facts vars seen touched count rest len pending w e k = subst (λ (c : Cut). MetFacts c count) e facts
  where
    size : length (take count touched) ≡ count
    size =
        let few = work_few vars seen touched count rest len pending k in
        let all = k.touched_size in
        length-take-le count touched (omega arith)

    facts : MetFacts (working_cut vars seen touched count rest len pending) count
    facts =
        let few = work_few vars seen touched count rest len pending k in
        let s = size in
        record {
          len = sym size;
          short = omega arith;
          marked = λ i lt. subst (λ v. is_seen seen v ≡ true) (sym (get_or-take count touched i 0 (omega arith))) (k.marked i (omega arith));
          all = λ v h.
              let a = k.all v h in
              let lt = a.1 in
              let short : a.0 < length touched = let t = k.touched_size in omega arith in
              (a.0, omega arith, get_or-take count touched a.0 v lt ∙ get_or_default touched a.0 v 0 short ∙ a.2);
          apart = λ i j lt within same. k.apart i j lt (omega arith) (sym (get_or-take count touched i 0 (omega arith)) ∙ same
              ∙ get_or-take count touched j 0 (omega arith));
        }

-- further variables
pub work_wide : (vars : ℕ) (seen : List Bool) (touched : List ℕ) (count : ℕ) (rest : List Literal) (len pending n : ℕ) (x : Literal) → vars + n ≤ VARS →
    IsWork vars seen touched count rest len pending → IsWork (vars + n) (seen ++ replicate n false) (touched ++ replicate n 0) count (rest ++ replicate n x) len
    pending
work_wide vars seen touched count rest len pending n x limit w =
    let few = work_few vars seen touched count rest len pending w in
    let size = w.touched_size in
    record {
      limit = limit;
      seen_size = omega (arith, w.seen_size, length-append seen (replicate n false), length-replicate {A = Bool} n false);
      touched_size = omega (arith, w.touched_size, length-append touched (replicate n 0), length-replicate {A = ℕ} n 0);
      rest_size = omega (arith, w.rest_size, length-append rest (replicate n x), length-replicate {A = Literal} n x);
      marks =
          let none : sum_by weight (replicate n false) ≡ n * 0 = sum_by-replicate weight n false in
          omega (arith, w.marks, sum_by-append weight seen (replicate n false), none);
      all = λ v h.
          let a = w.all v (sym (get_padded seen n false v) ∙ h) in
          let lt = a.1 in
          (a.0, lt, get_padded touched n 0 a.0 ∙ a.2);
      within = λ i lt. subst (λ v. v ≤ vars + n) (sym (get_padded touched n 0 i)) (let le = w.within i lt in omega arith);
      marked = λ i lt. get_padded seen n false (get_or (touched ++ replicate n 0) i 0) ∙ ap (is_seen seen) (get_padded touched n 0 i) ∙ w.marked i lt;
      apart = λ i j lt within e. w.apart i j lt within (sym (get_padded touched n 0 i) ∙ e ∙ get_padded touched n 0 j);
      short = w.short;
      few = w.few;
    }

pub work_new : (vars : ℕ) (x : Literal) → vars ≤ VARS → IsWork vars (replicate (vars + 1) false) (replicate (vars + 1) 0) 0 (replicate (vars + 1) x) 0 0
work_new vars x limit = record {
  limit = limit;
  seen_size = length-replicate {A = Bool} (vars + 1) false;
  touched_size = length-replicate {A = ℕ} (vars + 1) 0;
  rest_size = length-replicate {A = Literal} (vars + 1) x;
  marks = let none : sum_by weight (replicate (vars + 1) false) ≡ (vars + 1) * 0 = sum_by-replicate weight (vars + 1) false in omega arith;
  all = λ v h. absurd (both_ways (is_seen (replicate (vars + 1) false) v) (get_padded [] (vars + 1) false v) h);
  within = λ i lt. absurd (omega arith);
  marked = λ i lt. absurd (omega arith);
  apart = λ i j lt within. absurd (omega arith);
  short = omega arith;
  few = omega arith;
}

pub met_wide : (vars : ℕ) (seen : List Bool) (touched : List ℕ) (count : ℕ) (rest : List Literal) (len pending n : ℕ) →
    IsWork vars seen touched count rest len pending → take count (touched ++ replicate n 0) ≡ take count touched
met_wide vars seen touched count rest len pending n w =
    let few = work_few vars seen touched count rest len pending w in
    let size = w.touched_size in
    take-append-le count touched (replicate n 0) (omega arith)

pub rest_wide : (vars : ℕ) (seen : List Bool) (touched : List ℕ) (count : ℕ) (rest : List Literal) (len pending n : ℕ) (x : Literal) →
    IsWork vars seen touched count rest len pending → take len (rest ++ replicate n x) ≡ take len rest
rest_wide vars seen touched count rest len pending n x w = take-append-le len rest (replicate n x) (rest_short vars seen touched count rest len pending w)

-- how many literals of lower levels there are
pub rest_len : (vars : ℕ) (seen : List Bool) (touched : List ℕ) (count : ℕ) (rest : List Literal) (len pending : ℕ) (w : Cut) →
    working_cut vars seen touched count rest len pending ≡ w → IsWork vars seen touched count rest len pending → len ≡ length w.rest
rest_len vars seen touched count rest len pending w e k = sym (ap (λ (c : Cut). length c.rest) (sym e)
    ∙ length-take-le len rest (rest_short vars seen touched count rest len pending k))
