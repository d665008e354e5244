-- How many clauses have a literal, and that a row has place for all of them.
use Rattle.std.proofs.Common.{◌≡◌, ℕ, zero, suc, ◌+◌, ◌*◌, ◌/◌, ◌%◌, ◌<◌, ◌≤◌, Bool, true, false, cond, List, [], ◌∷◌, ◌++◌, length, get_or, refl, sym, ◌∙◌}
use Rattle.std.proofs.Common.{ap, subst}
use Rattle.std.proofs.Common.{inr, arith}
use Rattle.std.specs.Prelude.{Contains}
use Rattle.std.specs.List.{count_by}
use Rattle.std.proofs.lemmas.Bool.{false_from_ne_true}
use Rattle.std.proofs.lemmas.List.Sums.{sum_by-cons, sum_by_push}
use Rattle.plan_core.proofs.TruthFacts.{same_when}
use Rattle.cnf_core.specs.Lit.{Literal, literal_at, has}
use Rattle.cnf_core.specs.Propagation.{SameLiterals}
use Rattle.cnf_core.proofs.PropagationLemmas.{contains_from_has, has_from_contains}
use Rattle.watch_arena.specs.declared.rows.Entry.{Entry}
use Rattle.watch_arena.specs.Words.{arena_word, IsStore}
use Rattle.watch_arena.specs.Rows.{entry_at}
use Rattle.watch_arena.specs.Walk.{lits_at, KeepsClauses, KeepsLits}
use Rattle.watch_arena.specs.Filed.{place_at, list_at, HasRows, clauses_with}
use Rattle.watch_arena.proofs.TextLemmas.{is_clause, same_lits, kept_lits}
use Rattle.watch_arena.proofs.WalkLemmas.{watch_below}
use Rattle.watch_arena.proofs.NextLemmas.{words_same}
use Rattle.watch_arena.proofs.EntryLemmas.{room_for}
use Rattle.watch_arena.proofs.FiledLemmas.{row_apart}

-- a row has no more entries than there are clauses with its literal
pub row_room : (vars : ℕ) (ws places : List ℕ) (lists : List (List Entry)) (from to w : ℕ) → IsStore vars ws places → HasRows ws places lists from to →
    w < length lists → length (list_at lists w) ≤ clauses_with ws places w
row_room vars ws places lists from to w h x lt = room_for (list_at lists w) places (λ p. has (lits_at ws p) (literal_at w))
    (λ k lk.
    let y = x.right w k lt lk in
    let b = h.block (y.watch / 2) y.place in
    let two = b.two in
    let is = is_clause ws (y.watch / 2) (literal_at w) in
    let there : has (lits_at ws (y.watch / 2)) (literal_at w) ≡ true = has_from_contains (lits_at ws (y.watch / 2)) (literal_at w)
    (is.1 (y.watch % 2, omega arith, ap literal_at y.lit)) in
    (subst (Contains places) (sym y.clause) y.place, subst (λ p. has (lits_at ws p) (literal_at w) ≡ true) (sym y.clause) there))
    (λ j k less below. row_apart vars ws places h lists from to x w j k lt less below)

counts_same : (f g : ℕ → Bool) (ps : List ℕ) → ((p : ℕ) → Contains ps p → f p ≡ g p) → count_by f ps ≡ count_by g ps
counts_same f g [] same = refl
counts_same f g (p ∷ ps) same =
    let here : cond {A = ℕ} (f p) 1 0 ≡ cond {A = ℕ} (g p) 1 0 = ap (λ b. cond {A = ℕ} b 1 0) (same p (0, omega arith, refl)) in
    let rest = counts_same f g ps (λ q c. let lt = c.1 in same q (suc c.0, omega arith, c.2)) in
    omega (arith, sum_by-cons (λ q. cond (f q) 1 0) p ps, sum_by-cons (λ q. cond (g q) 1 0) p ps)

has_same : (c d : List Literal) (l : Literal) → SameLiterals c d → has c l ≡ has d l
has_same c d l same =
    let both = same l in
    same_when (has c l) (has d l) (λ t. has_from_contains d l (both.0 (contains_from_has c l t)))
    (λ t. has_from_contains c l (both.1 (contains_from_has d l t)))

-- literals that change places within a clause leave the number
pub clauses_text : (ws new places : List ℕ) (w : ℕ) → KeepsClauses places ws new → clauses_with new places w ≡ clauses_with ws places w
clauses_text ws new places w keeps = counts_same (λ p. has (lits_at new p) (literal_at w)) (λ p. has (lits_at ws p) (literal_at w)) places
    (λ p c. sym (has_same (lits_at ws p) (lits_at new p) (literal_at w) (same_lits ws new places p keeps c)))

-- a clause that comes is one more where it has the literal
pub clauses_more : (ws new places : List ℕ) (p w : ℕ) → KeepsLits places ws new →
    clauses_with new (places ++ p ∷ []) w ≡ clauses_with ws places w + cond (has (lits_at new p) (literal_at w)) 1 0
clauses_more ws new places p w keeps =
    let old = counts_same (λ q. has (lits_at new q) (literal_at w)) (λ q. has (lits_at ws q) (literal_at w)) places
    (λ q c. ap (λ (ls : List Literal). has ls (literal_at w)) (kept_lits places ws new q keeps c)) in
    omega (arith, sum_by_push (λ q. cond (has (lits_at new q) (literal_at w)) 1 0) places p)

-- a word that no clause has stands in none
pub clauses_none : (vars : ℕ) (ws places : List ℕ) (w : ℕ) → IsStore vars ws places → 2 * vars + 2 ≤ w → clauses_with ws places w ≡ 0
clauses_none vars ws places w h past = counts_same (λ p. has (lits_at ws p) (literal_at w)) (λ _. false) places
    (λ p c. false_from_ne_true (has (lits_at ws p) (literal_at w)) (λ t.
    let k = (is_clause ws p (literal_at w)).0 (contains_from_has (lits_at ws p) (literal_at w) t) in
    let same = words_same (arena_word ws (p + 3 + k.0)) w k.2 in
    let below = watch_below vars ws places p k.0 h c k.1 in
    omega arith)) ∙ none places
  where
    none : (ps : List ℕ) → count_by (λ _. false) ps ≡ 0
    none [] = refl
    none (p ∷ ps) = omega (arith, sum_by-cons (λ (q : ℕ). cond false 1 0) p ps, none ps)
