-- What follows of literals that are marked one after another, and which clauses are quiet.
use Rattle.std.proofs.Common.{◌≡◌, ◌≢◌, ℕ, ◌+◌, ◌-◌, ◌<◌, ◌≤◌, ◌⊎◌, Bool, true, false, cond, List, [], ◌∷◌, ◌++◌, length, take, get_or, set, refl, sym, ◌∙◌}
use Rattle.std.proofs.Common.{ap, subst, inl, inr, arith}
use Rattle.std.specs.Prelude.{All}
use Rattle.std.proofs.lemmas.Bool.{both_ways}
use Rattle.std.proofs.lemmas.List.Elements.{All-contains, All-weaker, All-head, All-tail, All-more, All-nil, All-cons}
use Rattle.std.proofs.lemmas.List.Sums.{sum_by-cons}
use Rattle.cnf_core.specs.Lit.{Literal, negate, has}
use Rattle.cnf_core.specs.Clause.{Clauses, Avoids, AreDistinct}
use Rattle.cnf_core.specs.Propagation.{LiteralSet, IsIn, Includes, IsUnit, IsConsistent, Falsified}
use Rattle.cnf_core.proofs.PropagationLemmas.{unit_more}
use Rattle.cnf_core.proofs.GrowthLemmas.{grows_none, grows_more}
use Rattle.cnf_core.proofs.TrailLemmas.{has_last, distinct_consistent}
use Rattle.cnf_core.specs.Trail.{marked, IsTrail, Grows}
use Rattle.cnf_core.specs.Times.{times}
use Rattle.refute_check.specs.Tables.{CountedUp, false_count, IsQuiet, IsUnsetUnit, IsQuietNow, AreQuietNow}
use Rattle.refute_check.proofs.ScanLemmas.{IsFalse, IsLastOr}

-- sets that agree
pub marks_false : (vars : ℕ) (truth : List Bool) (trail : List Literal) (l : Literal) → IsTrail vars truth trail → IsIn (marked truth) l → IsIn (has trail) l
marks_false vars truth trail l t h = sym (t.marks l) ∙ h

pub trail_consistent : (vars : ℕ) (truth : List Bool) (trail : List Literal) → IsTrail vars truth trail → IsConsistent (marked truth)
trail_consistent vars truth trail t = λ l h k. distinct_consistent trail t.distinct l (marks_false vars truth trail l t h)
    (marks_false vars truth trail (negate l) t k)

pub quiet_more : (done set more : LiteralSet) (c : List Literal) → Includes more set → IsQuiet done set c → IsQuiet done more c
quiet_more done set more c within q = record { closed = λ l unit. within l (q.closed l unit); unfalsified = q.unfalsified }

-- a clause that is quiet at a set is quiet at each part of it
pub quiet_part : (done set : LiteralSet) (c : List Literal) → Includes set done → IsQuiet set set c → IsQuiet done set c
quiet_part done set c within q = record {
  closed = λ l unit. q.closed l (unit_more done set c l within unit);
  unfalsified = λ all. q.unfalsified (All-weaker (IsFalse done) (IsFalse set) (λ k h. within (negate k) h) c all);
}

-- the clause of the literal is quiet then
pub quiet_marked : (trail : List Literal) (c : List Literal) (l : Literal) (done : LiteralSet) → IsUnsetUnit (has trail) c l → Includes (has trail) done →
    IsQuiet done (has (trail ++ l ∷ [])) c
quiet_marked trail c l done u within = record {
  closed = λ m unit. elim (All-contains (λ k. (k ≡ m) ⊎ IsIn done (negate k)) c l unit.others u.unit.among) [
    | inl e ↦ subst (λ (k : Literal). IsIn (has (trail ++ l ∷ [])) k) e (has_last trail l)
    | inr f ↦ absurd (both_ways (has trail (negate l)) u.not_false (within (negate l) f))
  ];
  unfalsified = λ all. both_ways (has trail (negate l)) u.not_false (within (negate l) (All-contains (IsFalse done) c l all u.unit.among));
}

-- counting false literals
abbrev one_if : LiteralSet → Literal → ℕ
one_if set k = cond (set (negate k)) 1 0

count_cons : (set : LiteralSet) (k : Literal) (c : List Literal) → false_count set (k ∷ c) ≡ one_if set k + false_count set c
count_cons set k c = sum_by-cons (one_if set) k c

one_is : (set : LiteralSet) (k : Literal) → IsIn set (negate k) → one_if set k ≡ 1
one_is set k h = ap (λ b. cond b 1 0) h

pub all_false_count : (set : LiteralSet) (c : List Literal) → All (IsFalse set) c → length c ≤ false_count set c
all_false_count set [] all = omega arith
all_false_count set (k ∷ c) all =
    omega (arith, count_cons set k c, one_is set k (All-head (IsFalse set) k c all), all_false_count set c (All-tail (IsFalse set) k c all))

avoids_none : (x : ℕ) (c : List Literal) → Avoids x c → All (λ (m : Literal). x ≢ m.var) c
avoids_none x [] h = All-nil (λ (m : Literal). x ≢ m.var)
avoids_none x (m ∷ c) h = All-cons (λ (m : Literal). x ≢ m.var) m c h.0 (avoids_none x c h.1)

unit_count : (set : LiteralSet) (c : List Literal) (l : Literal) → AreDistinct c → All (IsLastOr set l) c → length c ≤ false_count set c + 1
unit_count set [] l distinct all = omega arith
unit_count set (k ∷ c) l distinct all = elim (All-head (IsLastOr set l) k c all) [
  | inl e ↦
      let rest : All (IsFalse set) c = λ i d within. elim (All-tail (IsLastOr set l) k c all i d within) [
        | inl same ↦ absurd (avoids_none k.var c distinct.0 i d within (ap (λ (m : Literal). m.var) (e ∙ sym same)))
        | inr f ↦ f
      ] in
      omega (arith, count_cons set k c, all_false_count set c rest)
  | inr f ↦ omega (arith, count_cons set k c, one_is set k f, unit_count set c l distinct.1 (All-tail (IsLastOr set l) k c all))
]

-- where two literals or more aren't counted, the clause is quiet
pub quiet_few : (done set : LiteralSet) (c : List Literal) → AreDistinct c → false_count done c + 1 < length c → IsQuiet done set c
quiet_few done set c distinct few = record {
  closed = λ l unit. absurd (omega (arith, unit_count done c l distinct unit.others));
  unfalsified = λ all. omega (arith, all_false_count done c all);
}

-- the same at a table's marks
pub all_same_set : (set other : LiteralSet) (c : List Literal) → ((l : Literal) → set l ≡ other l) → All (IsFalse set) c → All (IsFalse other) c
all_same_set set other c same all = All-weaker (IsFalse set) (IsFalse other) (λ k h. sym (same (negate k)) ∙ h) c all

unit_same_set : (set other : LiteralSet) (c : List Literal) (l : Literal) → ((l : Literal) → set l ≡ other l) → IsUnit set c l → IsUnit other c l
unit_same_set set other c l same unit = unit_more set other c l (λ k h. sym (same k) ∙ h) unit

pub unset_by_marks : (vars : ℕ) (truth : List Bool) (trail : List Literal) (c : List Literal) (l : Literal) → IsTrail vars truth trail →
    IsUnsetUnit (marked truth) c l → IsUnsetUnit (has trail) c l
unset_by_marks vars truth trail c l t u = record {
  unit = unit_same_set (marked truth) (has trail) c l t.marks u.unit;
  not_true = sym (t.marks l) ∙ u.not_true;
  not_false = sym (t.marks (negate l)) ∙ u.not_false;
}

pub quiet_by_marks : (vars : ℕ) (truth : List Bool) (trail : List Literal) (c : List Literal) → IsTrail vars truth trail →
    IsQuiet (marked truth) (marked truth) c → IsQuiet (has trail) (has trail) c
quiet_by_marks vars truth trail c t q = record {
  closed = λ l unit. sym (t.marks l) ∙ q.closed l (unit_same_set (has trail) (marked truth) c l (λ k. sym (t.marks k)) unit);
  unfalsified = λ all. q.unfalsified (all_same_set (has trail) (marked truth) c (λ k. sym (t.marks k)) all);
}

pub few_now : (clause : List Literal) (count : ℕ) (trail : List Literal) → AreDistinct clause → 1 < count → IsQuietNow clause count trail trail
few_now clause count trail distinct few = λ done within e. quiet_few done (has trail) clause distinct (omega arith)

pub marked_now : (clause : List Literal) (count : ℕ) (trail : List Literal) (l : Literal) → IsUnsetUnit (has trail) clause l →
    IsQuietNow clause count trail (trail ++ l ∷ [])
marked_now clause count trail l u = λ done within e. quiet_marked trail clause l done u within

-- a clause is quiet still when more literals are marked, and where only a part was marked before
pub still_now : (clause : List Literal) (count : ℕ) (first old new last : List Literal) → Includes (has old) (has first) → Includes (has last) (has new) →
    IsQuietNow clause count old new → IsQuietNow clause count first last
still_now clause count first old new last before after q = λ done within e. quiet_more done (has new) (has last) clause after
    (q done (λ l h. before l (within l h)) e)

pub less_now : (clause : List Literal) (count most : ℕ) (old new : List Literal) → count ≤ most → IsQuietNow clause count old new →
    IsQuietNow clause most old new
less_now clause count most old new le q = λ done within e. q done within (omega arith)

-- how far a list of clauses was counted, and looked at until all literals of one were false
pub record Passed (vars : ℕ) (clauses : Clauses) (numbers before : List ℕ) (old : List Literal) (counts : List ℕ) (truth : List Bool) (new : List Literal)
    (found : Bool) : Type 0 where
  pub counted : CountedUp numbers counts before
  pub table : IsTrail vars truth new
  pub grows : Grows clauses old new
  pub falsified : found ≡ true → Falsified clauses (has new)
  pub quiet : found ≡ false → AreQuietNow clauses numbers before old new

pub passed_none : (vars : ℕ) (clauses : Clauses) (counts : List ℕ) (truth : List Bool) (trail : List Literal) → IsTrail vars truth trail →
    Passed vars clauses [] counts trail counts truth trail false
passed_none vars clauses counts truth trail t = record {
  counted = λ n. let none : times [] n ≡ 0 = refl in omega (arith, none);
  table = t;
  grows = grows_none clauses trail;
  falsified = λ h. absurd (both_ways false refl h);
  quiet = λ _. All-nil (λ n. IsQuietNow (get_or clauses n []) (get_or counts n 0 - 1) trail trail);
}

-- one is false already
pub passed_on : (vars : ℕ) (clauses : Clauses) (numbers before : List ℕ) (old : List Literal) (counts now : List ℕ) (truth : List Bool) (new : List Literal)
    (found : Bool) (i : ℕ) → Passed vars clauses (take i numbers) before old counts truth new found → found ≡ true →
    CountedUp (take (i + 1) numbers) now before → Passed vars clauses (take (i + 1) numbers) before old now truth new found
passed_on vars clauses numbers before old counts now truth new found i s h up = record {
  counted = up;
  table = s.table;
  grows = s.grows;
  falsified = s.falsified;
  quiet = λ no. absurd (both_ways found no h);
}

-- one more is looked at
pub passed_look : (vars : ℕ) (clauses : Clauses) (numbers before : List ℕ) (old : List Literal) (counts now : List ℕ) (truth then : List Bool)
    (mid new : List Literal) (was found : Bool) (i count : ℕ) → i < length numbers → Passed vars clauses (take i numbers) before old counts truth mid was →
    was ≡ false → CountedUp (take (i + 1) numbers) now before → count ≤ get_or before (get_or numbers i 0) 0 - 1 → IsTrail vars then new →
    Grows clauses mid new → (found ≡ true → Falsified clauses (has new)) → (found ≡ false → IsQuietNow (get_or clauses (get_or numbers i 0) []) count mid new) →
    Passed vars clauses (take (i + 1) numbers) before old now then new found
passed_look vars clauses numbers before old counts now truth then mid new was found i count within s open_yet up le t g falsified q = record {
  counted = up;
  table = t;
  grows = grows_more clauses old mid new s.grows g;
  falsified = falsified;
  quiet = λ none. All-more (λ n. IsQuietNow (get_or clauses n []) (get_or before n 0 - 1) old new) numbers i 0 within
      (All-weaker (λ n. IsQuietNow (get_or clauses n []) (get_or before n 0 - 1) old mid)
      (λ n. IsQuietNow (get_or clauses n []) (get_or before n 0 - 1) old new) (λ n h. still_now (get_or clauses n []) (get_or before n 0 - 1) old old mid new
      (λ l m. m) g.keeps h) (take i numbers) (s.quiet open_yet))
      (less_now (get_or clauses (get_or numbers i 0) []) count (get_or before (get_or numbers i 0) 0 - 1) old new le
      (still_now (get_or clauses (get_or numbers i 0) []) count old mid new new (let k = s.grows in k.keeps) (λ l m. m) (q none)));
}
