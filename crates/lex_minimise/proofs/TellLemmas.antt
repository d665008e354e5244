-- Clauses and bounds, told one after another.
use Rattle.std.proofs.Common.{◌≡◌, ◌≤◌, ◌<◌, ℕ, zero, suc, ◌+◌, ◌-◌, false, List, [], ◌∷◌, ◌++◌, length, take, drop, get_or, refl, sym, ◌∙◌, ap, subst, arith}
use Rattle.std.proofs.Common.{append-nil, append_assoc, add-one, Result, Ok, Err, OnOk}
use Rattle.std.specs.Prelude.{flat_map}
use Rattle.std.proofs.Math.Seq.{take-suc}
use Rattle.std.proofs.lemmas.List.{length-drop, get_or-drop, take-append-drop}
use Rattle.outside_io.specs.Counts.{rose_by}
use Rattle.plan_core.specs.declared.criterion.Criterion.{Criterion}
use Rattle.cnf_core.specs.declared.literal.Var.{Var}
use Rattle.cnf_core.specs.Lit.{Literal}
use Rattle.cnf_core.specs.Clause.{Clauses, words_of}
use Rattle.cnf_core.proofs.ClauseLemmas.{words_append}
use Rattle.refute_log.specs.declared.line.LogLine.TheVariants.{Bound as BoundLine}
use Rattle.refute_log.specs.Told.{Lines, AddsAll}
use Rattle.refute_log.specs.Log.{learnt}
use Rattle.refute_log.specs.Expected.{bound_lines}
use Rattle.cdcl_core.specs.Kept.{Kept, AreGiven, IsGivenOne}
use Rattle.refute_log.specs.Steps.{ToldBehind, GoesOn}
use Rattle.refute_log.proofs.StepLemmas.{rose_both, count_more}
use Rattle.drawing_cnf.specs.Lists.{variables_behind}
use Rattle.lex_minimise.specs.Told.{HasTaken}

-- ---- what the solver was given

pub taken_none : (k : Kept) (cs : Clauses) → k.failed ≡ false → cs ≡ [] → HasTaken k k cs
taken_none k cs working none = subst (HasTaken k k) (sym none) (record {
  given = λ given h. subst (λ (ds : Clauses). AreGiven ds k.clauses) (sym (append-nil given)) h;
  words = omega arith;
  room = refl;
  vars = refl;
  learnt = refl;
  working = working;
})

pub taken_one : (old new : Kept) (c : List Literal) → IsGivenOne old new c →
    ((given : Clauses) → AreGiven given old.clauses → AreGiven (given ++ c ∷ []) new.clauses) → HasTaken old new (c ∷ [])
taken_one old new c one given = record {
  given = given;
  words = (let w = one.words in omega arith);
  room = one.room;
  vars = one.vars;
  learnt = one.learnt;
  working = one.failed;
}

pub taken_more : (a b c : Kept) (cs ds es : Clauses) → HasTaken a b cs → HasTaken b c ds → cs ++ ds ≡ es → HasTaken a c es
taken_more a b c cs ds es h k is = subst (HasTaken a c) is (record {
  given = λ given g. subst (λ (xs : Clauses). AreGiven xs c.clauses) (append_assoc given cs ds) (k.given (given ++ cs) (h.given given g));
  words = (let x = h.words in let y = k.words in let s = words_append cs ds in omega arith);
  room = k.room ∙ h.room;
  vars = k.vars ∙ h.vars;
  learnt = k.learnt ∙ h.learnt;
  working = k.working;
})

-- ---- lines after each other

pub goes_nothing : (knows log : Lines → Type 0) (n : ℕ) (xs : Lines) → xs ≡ [] → GoesOn knows knows log log n n (λ lines more. more ≡ xs)
goes_nothing knows log n xs none = λ lines k. record {
  more = [];
  knows = subst knows (sym (append-nil lines)) k;
  told = λ ls t. subst log (sym (append-nil ls)) t;
  counted = refl;
  does = sym none;
}

pub goes_then : (k0 k1 k2 l0 l1 l2 : Lines → Type 0) (n0 n1 n2 : ℕ) (xs ys zs : Lines) → GoesOn k0 k1 l0 l1 n0 n1 (λ lines more. more ≡ xs) →
    GoesOn k1 k2 l1 l2 n1 n2 (λ lines more. more ≡ ys) → xs ++ ys ≡ zs →
    GoesOn k0 k2 l0 l2 n0 n2 (λ lines more. more ≡ zs)
goes_then k0 k1 k2 l0 l1 l2 n0 n1 n2 xs ys zs h k is = λ lines known.
    let first : ToldBehind k1 l0 l1 n0 n1 lines (λ more. more ≡ xs) = h lines known in
    let second : ToldBehind k2 l1 l2 n1 n2 (lines ++ first.more) (λ more. more ≡ ys) = k (lines ++ first.more) first.knows in
    record {
      more = first.more ++ second.more;
      knows = subst k2 (append_assoc lines first.more second.more) second.knows;
      told = λ ls t. subst l2 (append_assoc ls first.more second.more) (second.told (ls ++ first.more) (first.told ls t));
      counted = second.counted ∙ ap (rose_by (length (flat_map learnt second.more))) first.counted
          ∙ rose_both (length (flat_map learnt first.more)) (length (flat_map learnt second.more)) n0
          ∙ ap (λ n. rose_by n n0) (sym (count_more first.more second.more));
      does = ap (λ (ms : Lines). ms ++ second.more) first.does ∙ ap (λ (ms : Lines). xs ++ ms) second.does ∙ is;
    }

-- what is known of the further lines says more
pub goes_weaker : (k0 k1 l0 l1 : Lines → Type 0) (n0 n1 : ℕ) (R S : Lines → Lines → Type 0) → GoesOn k0 k1 l0 l1 n0 n1 R →
    ((lines more : Lines) → R lines more → S lines more) → GoesOn k0 k1 l0 l1 n0 n1 S
goes_weaker k0 k1 l0 l1 n0 n1 R S h weaker = λ lines known.
    let t : ToldBehind k1 l0 l1 n0 n1 lines (R lines) = h lines known in
    record { more = t.more; knows = t.knows; told = t.told; counted = t.counted; does = weaker lines t.more t.does }

pub ok_from : {T E : Type 0} (r : Result T E) (P Q : Type 0) → OnOk r P → (P → Q) → OnOk r Q
ok_from {T} {E} (Ok x) P Q h f = f h
ok_from {T} {E} (Err e) P Q h f = tt

-- what was known before is known of another state
pub goes_from : (k0 k1 k2 l0 l1 : Lines → Type 0) (n0 n1 : ℕ) (R : Lines → Lines → Type 0) → ((lines : Lines) → k0 lines → k1 lines) →
    GoesOn k1 k2 l0 l1 n0 n1 R → GoesOn k0 k2 l0 l1 n0 n1 R
goes_from k0 k1 k2 l0 l1 n0 n1 R from h = λ lines known. h lines (from lines known)

pub told_none : (cs : Clauses) (from at : ℕ) → at ≡ from → take (at - from) (drop from cs) ≡ []
told_none cs from at same = ap (λ n. take n (drop from cs)) (let e : at - from ≡ 0 = omega arith in e)

pub told_next : (cs : Clauses) (from at : ℕ) → from ≤ at → at < length cs →
    take (at - from) (drop from cs) ++ get_or cs at [] ∷ [] ≡ take ((at + 1) - from) (drop from cs)
told_next cs from at le lt =
    let size = length-drop from cs in
    let here : at - from < length (drop from cs) = omega arith in
    let read : get_or (drop from cs) (at - from) [] ≡ get_or cs at [] = get_or-drop from cs (at - from) []
    ∙ ap (λ n. get_or cs n []) (let e : from + (at - from) ≡ at = omega arith in e) in
    ap (λ (c : List Literal). take (at - from) (drop from cs) ++ c ∷ []) (sym read) ∙ sym (take-suc (drop from cs) (at - from) [] here)
    ∙ ap (λ n. take n (drop from cs)) (let e : suc (at - from) ≡ (at + 1) - from = omega arith in e)

pub front_words : (cs : Clauses) (n : ℕ) → words_of (take n cs) ≤ words_of cs
front_words cs n =
    let split : words_of cs ≡ words_of (take n cs) + words_of (drop n cs) = ap words_of (sym (take-append-drop n cs)) ∙ words_append (take n cs) (drop n cs) in
    omega arith

pub next_fits : (cs : Clauses) (from at words room : ℕ) → from ≤ at → at < length cs → words + words_of (drop from cs) ≤ room →
    words + words_of (take (at - from) (drop from cs)) + words_of (get_or cs at [] ∷ []) ≤ room
next_fits cs from at words room le lt fits =
    let sum : words_of (take (at - from) (drop from cs)) + words_of (get_or cs at [] ∷ []) ≡ words_of (take ((at + 1) - from) (drop from cs)) =
    sym (words_append (take (at - from) (drop from cs)) (get_or cs at [] ∷ [])) ∙ ap words_of (told_next cs from at le lt) in
    let most = front_words (drop from cs) ((at + 1) - from) in
    omega arith

-- ---- Bound lines

bounds_next_from : (c : Criterion) (k last i : ℕ) → bound_lines c k (variables_behind last i) ++ BoundLine c (k + i) (record {
  0 = last + 1 + i;
}) ∷ [] ≡ bound_lines c k (variables_behind last (suc i))
bounds_next_from c k last zero =
    ap (λ n. BoundLine c n (record {
      0 = last + 1 + 0;
    }) ∷ []) (let e : k + 0 ≡ k = omega arith in e) ∙ ap (λ n. BoundLine c k (record { 0 = n }) ∷ []) (let e : last + 1 + 0 ≡ last + 1 = omega arith in e)
bounds_next_from c k last (suc i) =
    ap (λ (ls : Lines). BoundLine c k (record { 0 = last + 1 }) ∷ ls)
    (ap (λ n. bound_lines c (k + 1) (variables_behind (last + 1) i) ++ BoundLine c n (record {
      0 = last + 1 + suc i;
    }) ∷ []) (let e : k + suc i ≡ k + 1 + i = omega arith in e)
    ∙ ap (λ n. bound_lines c (k + 1) (variables_behind (last + 1) i) ++ BoundLine c (k + 1 + i) (record {
      0 = n;
    }) ∷ []) (let e : last + 1 + suc i ≡ last + 1 + 1 + i = omega arith in e)
    ∙ bounds_next_from c (k + 1) (last + 1) i)

pub bounds_next : (c : Criterion) (last i : ℕ) (x : Var) → x.0 ≡ last + (i + 1) →
    bound_lines c 1 (variables_behind last i) ++ BoundLine c (i + 1) x ∷ [] ≡ bound_lines c 1 (variables_behind last (i + 1))
bounds_next c last i x is =
    let value : x.0 ≡ last + 1 + i = omega arith in
    ap (λ n. bound_lines c 1 (variables_behind last i) ++ BoundLine c n x ∷ []) (let e : i + 1 ≡ 1 + i = omega arith in e)
    ∙ ap (λ n. bound_lines c 1 (variables_behind last i) ++ BoundLine c (1 + i) (record { 0 = n }) ∷ []) value
    ∙ bounds_next_from c 1 last i ∙ ap (λ n. bound_lines c 1 (variables_behind last n)) (sym (add-one i))

pub adds_then : (a b c : Lines → Type 0) (xs ys zs : Lines) → AddsAll a b xs → AddsAll b c ys → xs ++ ys ≡ zs → AddsAll a c zs
adds_then a b c xs ys zs h k is = λ lines t. subst (λ (ms : Lines). c (lines ++ ms)) is (subst c (append_assoc lines xs ys) (k (lines ++ xs) (h lines t)))
