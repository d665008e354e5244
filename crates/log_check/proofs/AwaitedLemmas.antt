-- Which line comes next of those that are awaited.
use Rattle.std.proofs.Common.{◌≡◌, ◌≤◌, ◌<◌, ℕ, suc, ◌+◌, ◌-◌, List, [], ◌∷◌, ◌++◌, length, map, take, drop, get_or, Bool, false, sym, ◌∙◌, ap, subst, arith}
use Rattle.std.proofs.Common.{drop-cons}
use Rattle.std.specs.Prelude.{◌↔◌, IsTrue, nat_eq}
use Rattle.std.proofs.lemmas.Bool.Decides.{Decides-eqb}
use Rattle.std.specs.Bool.{Decides}
use Rattle.std.specs.Cmp.Lexicographic.{pointwise}
use Rattle.std.proofs.lemmas.List.Elements.{All-head, All-tail}
use Rattle.std.proofs.lemmas.Slice.Eq.{slice_eq-Decides}
use Rattle.cnf_core.specs.Lit.{Literal, word_of}
use Rattle.cnf_core.proofs.TrailLemmas.{word_once}
use Rattle.cnf_core.specs.Clause.{Clauses}
use Rattle.plan_core.specs.declared.criterion.Criterion.{Criterion}
use Rattle.refute_log.specs.declared.line.LogLine.{LogLine}
use Rattle.refute_log.specs.declared.line.LogLine.TheVariants.{Formula}
use Rattle.refute_log.specs.Told.{Lines}
use Rattle.refute_log.specs.Expected.{bound_lines}
use Rattle.drawing_cnf.specs.Lists.{variables_behind}
use Rattle.log_check.specs.declared.awaited.Part.{Part}
use Rattle.log_check.specs.declared.awaited.Part.TheVariants.{ClausesTo, Bounds}
use Rattle.log_check.specs.Awaited.{lines_from, IsPart, AreParts, HasMore}

-- a part all of whose lines came
pub clauses_came : (cs : Clauses) (parts : List Part) (end clause bound : ℕ) → end ≤ clause →
    lines_from cs (ClausesTo end ∷ parts) clause bound ≡ lines_from cs parts end 0
clauses_came cs parts end clause bound le =
    let none : end - clause ≡ 0 = omega arith in
    ap (λ n. map Formula (take n (drop clause cs)) ++ lines_from cs parts end 0) none

pub bounds_came : (cs : Clauses) (parts : List Part) (c : Criterion) (last cap clause bound : ℕ) → cap ≤ bound →
    lines_from cs (Bounds c last cap ∷ parts) clause bound ≡ lines_from cs parts clause 0
bounds_came cs parts c last cap clause bound le =
    let none : cap - bound ≡ 0 = omega arith in
    ap (λ n. bound_lines c (bound + 1) (variables_behind (last + bound) n) ++ lines_from cs parts clause 0) none

-- the next clause of a part
taken : (cs : Clauses) (clause n : ℕ) → clause < length cs → take (suc n) (drop clause cs) ≡ get_or cs clause [] ∷ take n (drop (clause + 1) cs)
taken cs clause n lt =
    ap (take (suc n)) (drop-cons cs clause [] lt) ∙ ap (λ k. get_or cs clause [] ∷ take n (drop k cs)) (let e : suc clause ≡ clause + 1 = omega arith in e)

pub clause_comes : (cs : Clauses) (parts : List Part) (end clause bound : ℕ) → clause < end → end ≤ length cs →
    lines_from cs (ClausesTo end ∷ parts) clause bound ≡ Formula (get_or cs clause []) ∷ lines_from cs (ClausesTo end ∷ parts) (clause + 1) bound
clause_comes cs parts end clause bound lt le =
    let more : end - clause ≡ suc (end - (clause + 1)) = omega arith in
    ap (λ n. map Formula (take n (drop clause cs)) ++ lines_from cs parts end 0) more
    ∙ ap (λ (ds : Clauses). map Formula ds ++ lines_from cs parts end 0) (taken cs clause (end - (clause + 1)) (omega arith))

as_first : (parts rest : List Part) (part first : Part) → parts ≡ part ∷ rest → part ≡ first → parts ≡ first ∷ rest
as_first parts rest part first is same = is ∙ ap (λ (p : Part). p ∷ rest) same

pub skip_clauses : (cs : Clauses) (parts rest : List Part) (part : Part) (end clause bound : ℕ) → parts ≡ part ∷ rest → part ≡ ClausesTo end → end ≤ clause →
    lines_from cs rest end 0 ≡ lines_from cs parts clause bound
skip_clauses cs parts rest part end clause bound is same le =
    sym (ap (λ (ps : List Part). lines_from cs ps clause bound) (as_first parts rest part (ClausesTo end) is same) ∙ clauses_came cs rest end clause bound le)

pub skip_bounds : (cs : Clauses) (parts rest : List Part) (part : Part) (c : Criterion) (last cap clause bound : ℕ) → parts ≡ part ∷ rest →
    part ≡ Bounds c last cap → cap ≤ bound → lines_from cs rest clause 0 ≡ lines_from cs parts clause bound
skip_bounds cs parts rest part c last cap clause bound is same le =
    sym (ap (λ (ps : List Part). lines_from cs ps clause bound) (as_first parts rest part (Bounds c last cap) is same)
    ∙ bounds_came cs rest c last cap clause bound le)

pub rest_are_parts : (cs : Clauses) (parts rest : List Part) (part : Part) → parts ≡ part ∷ rest → AreParts cs parts → AreParts cs rest
rest_are_parts cs parts rest part is h = All-tail (IsPart cs) part rest (subst (AreParts cs) is h)

pub has_clauses : (parts rest : List Part) (part : Part) (end clause bound : ℕ) → parts ≡ part ∷ rest → part ≡ ClausesTo end → clause < end →
    HasMore parts clause bound
has_clauses parts rest part end clause bound is same lt = subst (λ (ps : List Part). HasMore ps clause bound)
    (sym (as_first parts rest part (ClausesTo end) is same)) lt

pub has_bounds : (parts rest : List Part) (part : Part) (c : Criterion) (last cap clause bound : ℕ) → parts ≡ part ∷ rest → part ≡ Bounds c last cap →
    bound < cap → HasMore parts clause bound
has_bounds parts rest part c last cap clause bound is same lt = subst (λ (ps : List Part). HasMore ps clause bound)
    (sym (as_first parts rest part (Bounds c last cap) is same)) lt

pub has_none : (parts : List Part) (clause bound : ℕ) → length parts ≡ 0 → HasMore parts clause bound
has_none [] clause bound none = tt
has_none (p ∷ parts) clause bound none = absurd (omega arith)

pub ruleset skipping = (skip_clauses, skip_bounds, rest_are_parts, has_clauses, has_bounds, has_none)

-- the first part has a clause more, and it is there
pub clause_low : (cs : Clauses) (parts rest : List Part) (part : Part) (end clause bound : ℕ) → parts ≡ part ∷ rest → part ≡ ClausesTo end → AreParts cs parts →
    HasMore parts clause bound → clause < length cs
clause_low cs parts rest part end clause bound is same h more =
    let first = as_first parts rest part (ClausesTo end) is same in
    let lt : clause < end = subst (λ (ps : List Part). HasMore ps clause bound) first more in
    let le : end ≤ length cs = All-head (IsPart cs) (ClausesTo end) rest (subst (AreParts cs) first h) in
    omega arith

pub clause_next : (cs : Clauses) (parts rest : List Part) (part : Part) (end clause bound : ℕ) → parts ≡ part ∷ rest → part ≡ ClausesTo end →
    AreParts cs parts → HasMore parts clause bound →
    lines_from cs parts clause bound ≡ Formula (get_or cs clause []) ∷ lines_from cs parts (clause + 1) bound
clause_next cs parts rest part end clause bound is same h more =
    let first = as_first parts rest part (ClausesTo end) is same in
    let lt : clause < end = subst (λ (ps : List Part). HasMore ps clause bound) first more in
    let le : end ≤ length cs = All-head (IsPart cs) (ClausesTo end) rest (subst (AreParts cs) first h) in
    subst (λ (ps : List Part). lines_from cs ps clause bound ≡ Formula (get_or cs clause []) ∷ lines_from cs ps (clause + 1) bound) (sym first)
    (clause_comes cs rest end clause bound lt le)

-- the line is that clause, or isn't
pub not_that_clause : (lines more rest : Lines) (line : LogLine) (lits there : List Literal) (r : Bool) → r ≡ false → (IsTrue r ↔ (line ≡ Formula lits)) →
    lits ≡ there → lines ≡ Formula there ∷ rest → lines ≡ line ∷ more → ⊥
not_that_clause lines more rest line lits there r fails tells is next other =
    let same : line ≡ Formula there = cc in
    let holds = tells.1 (same ∙ ap (λ (c : List Literal). Formula c) (sym is)) in
    cc

pub that_clause : (lines rest : Lines) (line : LogLine) (lits there : List Literal) (r : Bool) → IsTrue r → (IsTrue r ↔ (line ≡ Formula lits)) → lits ≡ there →
    lines ≡ Formula there ∷ rest → lines ≡ line ∷ rest
that_clause lines rest line lits there r holds tells is next =
    next ∙ ap (λ (l : LogLine). l ∷ rest) (ap (λ (c : List Literal). Formula c) (sym is) ∙ sym (tells.0 holds))

-- ---- literals that are compared

pub lits_same : (E : Literal → Literal → Bool) (xs ys : List Literal) (r : Bool) → r ≡ pointwise E xs ys → ((x y : Literal) → Decides (E x y) (x ≡ y)) →
    (IsTrue r → xs ≡ ys) × (xs ≡ ys → IsTrue r)
lits_same E xs ys r is decides = slice_eq-Decides decides xs ys r is

pub words_decide : (x y : Literal) → Decides (nat_eq (word_of x) (word_of y)) (x ≡ y)
words_decide x y =
    let h = Decides-eqb (word_of x) (word_of y) in
    (λ e. word_once x y (h.0 e), λ e. h.1 (ap word_of e))
