-- Calls after each other.
use Rattle.std.proofs.Common.{◌≡◌, ◌≤◌, ℕ, zero, suc, ◌+◌, ◌-◌, List, [], ◌∷◌, ◌++◌, map, length, refl, sym, ◌∙◌, ap, subst, append-nil, append_assoc, arith}
use Rattle.std.proofs.Common.{length-append, Ok, Err}
use Rattle.std.specs.Prelude.{⊤, min, max, flat_map, Result, OnErr}
use Rattle.std.proofs.lemmas.Grind.{flat_map-append}
use Rattle.std.proofs.lemmas.List.Concat.{flat_map-cons}
use Rattle.outside_io.specs.Counts.{last_count, next_count, rose_by}
use Rattle.cnf_core.specs.Lit.{Literal}
use Rattle.cnf_core.specs.Clause.{Clauses}
use Rattle.refute_log.specs.declared.line.LogLine.{LogLine}
use Rattle.refute_log.specs.declared.line.LogLine.TheVariants.{Learnt, Query}
use Rattle.refute_log.specs.Told.{Lines}
use Rattle.refute_log.specs.Log.{clause_line, clause_lines, learnt, learnt_count, Derives}
use Rattle.refute_log.specs.Cause.{IsUnanswered}
use Rattle.refute_log.specs.Steps.{ToldBehind, GoesOn, Continues, KnowsSome, Leaves}
use Rattle.refute_log.proofs.LogLemmas.{flat_map_last}

pub rose_both : (m n k : ℕ) → rose_by n (rose_by m k) ≡ rose_by (m + n) k
rose_both m zero k = ap (λ a. rose_by a k) (let e : m ≡ m + 0 = omega arith in e)
rose_both m (suc n) k = ap next_count (rose_both m n k) ∙ ap (λ a. rose_by a k) (let e : suc (m + n) ≡ m + suc n = omega arith in e)

pub count_more : (xs ys : Lines) → length (flat_map learnt (xs ++ ys)) ≡ length (flat_map learnt xs) + length (flat_map learnt ys)
count_more xs ys = ap length (flat_map-append learnt xs ys) ∙ length-append (flat_map learnt xs) (flat_map learnt ys)

-- ---- calls
pub stays : {S : Type 0} (knows log : S → Lines → Type 0) (count : S → ℕ) (s : S) (R : Lines → Lines → Type 0) →
    ((lines : Lines) → knows s lines → R lines []) → Continues knows log count s s R
stays knows log count s R h = λ lines k. record {
  more = [];
  knows = subst (knows s) (sym (append-nil lines)) k;
  told = λ ls t. subst (log s) (sym (append-nil ls)) t;
  counted = refl;
  does = h lines k;
}

pub goes_on : {S : Type 0} (knows log : S → Lines → Type 0) (count : S → ℕ) (a b c : S) (Q R T : Lines → Lines → Type 0) →
    Continues knows log count a b Q → Continues knows log count b c R →
    ((lines xs ys : Lines) → knows a lines → knows b (lines ++ xs) → knows c ((lines ++ xs) ++ ys) → Q lines xs → R (lines ++ xs) ys → T lines (xs ++ ys)) →
    Continues knows log count a c T
goes_on knows log count a b c Q R T h k join = λ lines known.
    let first : ToldBehind (knows b) (log a) (log b) (count a) (count b) lines (Q lines) = h lines known in
    let xs = first.more in
    let second : ToldBehind (knows c) (log b) (log c) (count b) (count c) (lines ++ xs) (R (lines ++ xs)) = k (lines ++ xs) first.knows in
    let ys = second.more in
    record {
      more = xs ++ ys;
      knows = subst (knows c) (append_assoc lines xs ys) second.knows;
      told = λ ls t. subst (log c) (append_assoc ls xs ys) (second.told (ls ++ xs) (first.told ls t));
      counted = second.counted ∙ ap (rose_by (length (flat_map learnt ys))) first.counted
          ∙ rose_both (length (flat_map learnt xs)) (length (flat_map learnt ys)) (count a) ∙ ap (λ n. rose_by n (count a)) (sym (count_more xs ys));
      does = join lines xs ys known first.knows second.knows first.does second.does;
    }

pub becomes : {S : Type 0} (knows log : S → Lines → Type 0) (count : S → ℕ) (a b : S) (Q T : Lines → Lines → Type 0) →
    Continues knows log count a b Q → ((lines xs : Lines) → knows a lines → knows b (lines ++ xs) → Q lines xs → T lines xs) → Continues knows log count a b T
becomes knows log count a b Q T h f = λ lines known.
    let first : ToldBehind (knows b) (log a) (log b) (count a) (count b) lines (Q lines) = h lines known in
    record { more = first.more; knows = first.knows; told = first.told; counted = first.counted; does = f lines first.more known first.knows first.does }

-- after a call that goes on, some lines are known still
pub known_after : {S : Type 0} (knows log : S → Lines → Type 0) (count : S → ℕ) (a b : S) (R : Lines → Lines → Type 0) → KnowsSome knows a →
    Continues knows log count a b R → KnowsSome knows b
known_after knows log count a b R known goes =
    let told : ToldBehind (knows b) (log a) (log b) (count a) (count b) known.0 (R known.0) = goes known.0 known.1 in
    (known.0 ++ told.more, told.knows)

-- nothing is said of the lines
abbrev pub AnyLines : Lines → Lines → Type 0
AnyLines lines more = ⊤

-- ---- errors

pub clause_lines_append : (lines more : Lines) → clause_lines (lines ++ more) ≡ clause_lines lines ++ clause_lines more
clause_lines_append lines more = flat_map-append clause_line lines more

pub same_clauses : (lines : Lines) (line : LogLine) → clause_line line ≡ [] → clause_lines (lines ++ line ∷ []) ≡ clause_lines lines
same_clauses lines line none = flat_map_last clause_line lines line ∙ ap (λ (ls : Lines). clause_lines lines ++ ls) none ∙ append-nil (clause_lines lines)

pub learnt_no_clauses : (cs : Clauses) → clause_lines (map Learnt cs) ≡ []
learnt_no_clauses [] = refl
learnt_no_clauses (c ∷ cs) = flat_map-cons clause_line (Learnt c) (map Learnt cs) ∙ learnt_no_clauses cs

-- ---- how many Learnt lines are left

pub rose_at_most : (n k : ℕ) → rose_by n k ≤ k + n
rose_at_most zero k = omega arith
rose_at_most (suc n) k = let h = rose_at_most n k in let next = next_at_most (rose_by n k) in omega (arith, h, next)
  where
    next_at_most : (m : ℕ) → next_count m ≤ m + 1
    next_at_most m = omega arith

-- as a log counts them they are no more than they are
pub counted_within : (most : ℕ) (lines : Lines) → length (flat_map learnt lines) ≤ most → learnt_count lines ≤ most
counted_within most lines le = at_most (length (flat_map learnt lines)) last_count le
  where
    at_most : (m end : ℕ) → m ≤ most → min m end ≤ most
    at_most m end e = omega (arith, e)

-- as many as before
pub few_kept : (most : ℕ) (before now : Lines) → learnt_count now ≡ learnt_count before → learnt_count now ≤ max most (learnt_count before)
few_kept most before now same = at_most (learnt_count now) (learnt_count before) same
  where
    at_most : (m n : ℕ) → m ≡ n → m ≤ max most n
    at_most m n e = omega (arith, e)

-- at most so many
pub few_within : (most : ℕ) (before now : Lines) → length (flat_map learnt now) ≤ most → learnt_count now ≤ max most (learnt_count before)
few_within most before now le = at_most (length (flat_map learnt now)) last_count (learnt_count before) le
  where
    at_most : (m end n : ℕ) → m ≤ most → min m end ≤ max most n
    at_most m end n e = omega (arith, e)

-- no more than the rest of what may be learnt
pub few_counted : (most n k : ℕ) (before now : Lines) → n ≤ most - length (flat_map learnt before) → length (flat_map learnt before) ≤ most →
    learnt_count now ≡ rose_by n k → k ≡ learnt_count before → learnt_count now ≤ max most (learnt_count before)
few_counted most n k before now le within is was =
    at_most (learnt_count now) (length (flat_map learnt before)) last_count (rose_by n k) k is (rose_at_most n k) was le within
  where
    at_most : (m b end r k : ℕ) → m ≡ r → r ≤ k + n → k ≡ min b end → n ≤ most - b → b ≤ most → m ≤ max most (min b end)
    at_most m b end r k e h was le within = omega (arith, e, h, was, le, within)

-- where none was learnt before
pub few_left : (most budget : ℕ) (before now : Lines) → most ≤ budget → length (flat_map learnt before) ≤ budget →
    learnt_count now ≤ max most (learnt_count before) → learnt_count now ≤ budget
few_left most budget before now le within few = at_most (learnt_count now) (length (flat_map learnt before)) last_count le within few
  where
    at_most : (m b end : ℕ) → most ≤ budget → b ≤ budget → m ≤ max most (min b end) → m ≤ budget
    at_most m b end h le few = omega (arith, h, le, few)

-- where more lines are expected
pub leaves_more : {most : ℕ} (xs ys : Lines) (known old new : Lines → Type 0) → Leaves most xs known old new → Leaves most (xs ++ ys) known old new
leaves_more xs ys known old new h = λ lines k was told is.
    let left = h lines k was told is in
    record {
      derives = left.derives;
      front = left.front;
      begins = (left.begins.0 ++ ys, ap (λ (ls : Lines). ls ++ ys) left.begins.1 ∙ append_assoc left.front left.begins.0 ys);
      gives = left.gives;
      few = left.few;
    }

-- where less was known
pub leaves_known : {most : ℕ} (xs : Lines) (k1 k2 old new : Lines → Type 0) → ((lines : Lines) → k1 lines → k2 lines) → Leaves most xs k2 old new →
    Leaves most xs k1 old new
leaves_known xs k1 k2 old new from h = λ lines k was told is. h lines (from lines k) was told is

-- where more may be learnt
pub leaves_most : (least most : ℕ) (xs : Lines) (known old new : Lines → Type 0) → least ≤ most → Leaves least xs known old new →
    Leaves most xs known old new
leaves_most least most xs known old new le h = λ lines k was told is.
    let left = h lines k was told is in
    record {
      derives = left.derives;
      front = left.front;
      begins = left.begins;
      gives = left.gives;
      few = at_most (learnt_count told) (learnt_count lines) left.few;
    }
  where
    at_most : (m n : ℕ) → m ≤ max least n → m ≤ max most n
    at_most m n few = omega (arith, le, few)

-- an error that tells nothing
pub leaves_same : {most : ℕ} (known log : Lines → Type 0) → ((lines : Lines) → known lines → Derives lines) → ((x y : Lines) → log x → log y → x ≡ y) →
    Leaves most [] known log log
leaves_same {most} known log derives one = λ lines k was told is. record {
  derives = subst Derives (one lines told was is) (derives lines k);
  front = [];
  begins = ([], refl);
  gives = ap clause_lines (one told lines is was) ∙ sym (append-nil (clause_lines lines));
  few = few_kept most lines told (ap learnt_count (one told lines is was));
}

-- an error in a later call, where the calls before told these clauses
pub leaves_then : {most : ℕ} (k1 k2 l1 l2 l3 : Lines → Type 0) (n1 n2 : ℕ) (R : Lines → Lines → Type 0) (xs ys : Lines) → GoesOn k1 k2 l1 l2 n1 n2 R →
    ((lines more : Lines) → k1 lines → k2 (lines ++ more) → R lines more → clause_lines (lines ++ more) ≡ clause_lines lines ++ xs) →
    ((lines more : Lines) → k1 lines → k2 (lines ++ more) → R lines more → learnt_count (lines ++ more) ≤ max most (learnt_count lines)) →
    Leaves most ys k2 l2 l3 → Leaves most (xs ++ ys) k1 l1 l3
leaves_then {most} k1 k2 l1 l2 l3 n1 n2 R xs ys run gives few after = λ lines known was told is.
    let first : ToldBehind k2 l1 l2 n1 n2 lines (R lines) = run lines known in
    let left = after (lines ++ first.more) first.knows (first.told lines was) told is in
    record {
      derives = left.derives;
      front = xs ++ left.front;
      begins = (left.begins.0, ap (λ (ls : Lines). xs ++ ls) left.begins.1 ∙ sym (append_assoc xs left.front left.begins.0));
      gives = left.gives ∙ ap (λ (ls : Lines). ls ++ left.front) (gives lines first.more known first.knows first.does)
          ∙ append_assoc (clause_lines lines) xs left.front;
      few = at_most (learnt_count told) (learnt_count (lines ++ first.more)) (learnt_count lines) left.few
          (few lines first.more known first.knows first.does);
    }
  where
    at_most : (m n k : ℕ) → m ≤ max most n → n ≤ max most k → m ≤ max most k
    at_most m n k h g = omega (arith, h, g)

-- the same of two states of one thing, which knows no more Learnt lines than so many
pub leaves_later : {m most : ℕ} {S : Type 0} (knows log : S → Lines → Type 0) (count : S → ℕ) (a b e : S) (R : Lines → Lines → Type 0) (xs ys : Lines) →
    Continues knows log count a b R → ((lines more : Lines) → R lines more → clause_lines more ≡ xs) →
    ((lines : Lines) → knows b lines → length (flat_map learnt lines) ≤ m) → m ≡ most →
    Leaves m ys (knows b) (log b) (log e) → Leaves most (xs ++ ys) (knows a) (log a) (log e)
leaves_later {m} {most} knows log count a b e R xs ys run gives within same after =
    leaves_then (knows a) (knows b) (log a) (log b) (log e) (count a) (count b) R xs ys run
    (λ lines more ka kb r. clause_lines_append lines more ∙ ap (λ (ls : Lines). clause_lines lines ++ ls) (gives lines more r))
    (λ lines more ka kb r. few_within most lines (lines ++ more)
    (subst (λ (n : ℕ). length (flat_map learnt (lines ++ more)) ≤ n) same (within (lines ++ more) kb)))
    (subst (λ (n : ℕ). Leaves n ys (knows b) (log b) (log e)) same after)

-- and that tells nothing itself
pub leaves_here : {m most : ℕ} {S : Type 0} (knows log : S → Lines → Type 0) (count : S → ℕ) (a b : S) (R : Lines → Lines → Type 0) →
    Continues knows log count a b R → ((lines more : Lines) → R lines more → clause_lines more ≡ []) →
    ((lines : Lines) → knows b lines → length (flat_map learnt lines) ≤ m) → m ≡ most →
    ((lines : Lines) → knows b lines → Derives lines) → ((x y : Lines) → log b x → log b y → x ≡ y) → Leaves most [] (knows a) (log a) (log b)
leaves_here knows log count a b R run gives within same derives one =
    leaves_later knows log count a b b R [] [] run gives within same (leaves_same (knows b) (log b) derives one)

-- ---- a question without an answer

pub unanswered : (lines : Lines) (query : List Literal) (clauses : Clauses) (ending : Lines) → ending ≡ [] →
    IsUnanswered (lines ++ Query query ∷ (map Learnt clauses ++ ending))
unanswered lines query clauses ending none = record {
  before = lines;
  query = query;
  clauses = clauses;
  is = ap (λ (ls : Lines). lines ++ Query query ∷ ls) (ap (λ (ls : Lines). map Learnt clauses ++ ls) none ∙ append-nil (map Learnt clauses));
}

pub on_err_weaker : {T E : Type 0} (r : Result T E) (P Q : Type 0) → (P → Q) → OnErr r P → OnErr r Q
on_err_weaker (Ok x) P Q f h = tt
on_err_weaker (Err e) P Q f h = f h
