-- The literals of clauses, as lists.
use Rattle.std.proofs.Common.{◌≡◌, ℕ, zero, suc, ◌+◌, ◌<◌, ◌≤◌, ◌⊎◌, List, [], ◌∷◌, ◌++◌, length, take, get_or, refl, sym, ◌∙◌, ap, subst, inl, inr, arith}
use Rattle.std.proofs.Common.{length-append}
use Rattle.std.proofs.lemmas.Bool.{cases_eq}
use Rattle.std.specs.Prelude.{All, Contains, map}
use Rattle.std.proofs.lemmas.List.{take_all, take_more, get_or_append_left, get_or_push}
use Rattle.std.proofs.lemmas.List.Elements.{All-contains, All-contains_itself, All-weaker, Contains-push_cases, Contains-push, Contains-append_left}
use Rattle.cnf_core.specs.Lit.{Literal, literal_at, negate}
use Rattle.cnf_core.specs.Propagation.{LiteralSet, IsIn, IsUnit, SameLiterals}
use Rattle.watch_arena.specs.Words.{arena_word}
use Rattle.watch_arena.specs.Walk.{lit_at, lits_upto, lits_at, IsClauseAt, HoldsClauses, KeepsClauses, KeepsLits, AreFalse}

pub upto_in : (ws : List ℕ) (p n : ℕ) (l : Literal) → Contains (lits_upto ws p n) l → (k : ℕ) × (k < n) × (lit_at ws (p + 3 + k) ≡ l)
upto_in ws p zero l c = let lt = c.1 in absurd (omega arith)
upto_in ws p (suc n) l c = elim (Contains-push_cases (lits_upto ws p n) (lit_at ws (p + 3 + n)) l c) [
  | inl old ↦ let k = upto_in ws p n l old in let lt = k.1 in (k.0, omega arith, k.2)
  | inr e ↦ (n, omega arith, e)
]

in_upto : (ws : List ℕ) (p n k : ℕ) → k < n → Contains (lits_upto ws p n) (lit_at ws (p + 3 + k))
in_upto ws p zero k lt = absurd (omega arith)
in_upto ws p (suc n) k lt = elim (cases_eq k n) [
  | inl e ↦ subst (λ j. Contains (lits_upto ws p n ++ lit_at ws (p + 3 + n) ∷ []) (lit_at ws (p + 3 + j))) (sym e)
      (Contains-push (lits_upto ws p n) (lit_at ws (p + 3 + n)))
  | inr ne ↦ Contains-append_left (lits_upto ws p n) (lit_at ws (p + 3 + n) ∷ []) (lit_at ws (p + 3 + k)) (in_upto ws p n k (omega arith))
]

pub is_clause : (ws : List ℕ) (p : ℕ) → IsClauseAt ws p (lits_at ws p)
is_clause ws p = λ l. (
  λ c. upto_in ws p (arena_word ws p) l c,
  λ k. subst (λ (u : Literal). Contains (lits_at ws p) u) k.2
      (in_upto ws p (arena_word ws p) k.0 k.1),
)

contains_map : (f : ℕ → List Literal) (ps : List ℕ) (p : ℕ) → Contains ps p → Contains (map f ps) (f p)
contains_map f ps p c = at_place f ps p c.0 c.1 c.2
  where
    at_place : (f : ℕ → List Literal) (ps : List ℕ) (p k : ℕ) → k < length ps → get_or ps k p ≡ p → Contains (map f ps) (f p)
    at_place f [] p k lt e = absurd (omega arith)
    at_place f (q ∷ ps) p zero lt e = (0, omega arith, ap f e)
    at_place f (q ∷ ps) p (suc k) lt e = let d = at_place f ps p k (omega arith) e in let l = d.1 in (suc d.0, omega arith, d.2)

pub map_contains : (f : ℕ → List Literal) (ps : List ℕ) (c : List Literal) → Contains (map f ps) c → (p : ℕ) × Contains ps p × (f p ≡ c)
map_contains f ps c d = at_place f ps c d.0 d.1 d.2
  where
    at_place : (f : ℕ → List Literal) (ps : List ℕ) (c : List Literal) (k : ℕ) → k < length (map f ps) → get_or (map f ps) k c ≡ c →
        (p : ℕ) × Contains ps p × (f p ≡ c)
    at_place f [] c k lt e = absurd (omega arith)
    at_place f (q ∷ ps) c zero lt e = (q, (0, omega arith, refl), e)
    at_place f (q ∷ ps) c (suc k) lt e = let x = at_place f ps c k (omega arith) e in let l = x.1 in let l1 = l.1 in (x.0, (suc l.0, omega arith, l.2), x.2)

-- the words hold the clauses at the places
pub text_of : (ws places : List ℕ) → HoldsClauses (map (lits_at ws) places) ws places
text_of ws places = record {
  held = λ p c. (lits_at ws p, contains_map (lits_at ws) places p c, is_clause ws p);
  stored = λ c among. let x = map_contains (lits_at ws) places c among in (x.0, x.1, subst (λ (d : List Literal). IsClauseAt ws x.0 d) x.2 (is_clause ws x.0));
}

-- a clause at the same place is unit for the same literals
pub unit_at : (ws : List ℕ) (p : ℕ) (set : LiteralSet) (c e : List Literal) (l : Literal) → IsClauseAt ws p c → IsClauseAt ws p e → IsUnit set c l →
    IsUnit set e l
unit_at ws p set c e l at_c at_e u = record {
  among = (at_e l).1 ((at_c l).0 u.among);
  others = All-weaker (Contains e) (λ k. (k ≡ l) ⊎ IsIn set (negate k)) (λ k among. All-contains (λ m. (m ≡ l) ⊎ IsIn set (negate m)) c k u.others
      ((at_c k).1 ((at_e k).0 among))) e (All-contains_itself e);
}

-- where clauses keep their literals, they are unit for the same ones
pub unit_kept : (old new places : List ℕ) (p : ℕ) (set : LiteralSet) (l : Literal) → KeepsClauses places old new → Contains places p →
    IsUnit set (lits_at old p) l → IsUnit set (lits_at new p) l
unit_kept old new places p set l k c u = unit_at new p set (lits_at old p) (lits_at new p) l (k p (lits_at old p) c (is_clause old p)) (is_clause new p) u

pub same_lits : (old new places : List ℕ) (p : ℕ) → KeepsClauses places old new → Contains places p → SameLiterals (lits_at old p) (lits_at new p)
same_lits old new places p k c = λ l.
    let x = k p (lits_at old p) c (is_clause old p) l in
    let y = is_clause new p l in (
      λ m. y.1 (x.0 m),
      λ m. x.1 (y.0 m),
    )

-- and so where each of them stands where it stood
upto_same : (ws new : List ℕ) (p n : ℕ) → ((k : ℕ) → k < n → lit_at new (p + 3 + k) ≡ lit_at ws (p + 3 + k)) → lits_upto new p n ≡ lits_upto ws p n
upto_same ws new p zero same = refl
upto_same ws new p (suc n) same =
    ap (λ (ls : List Literal). ls ++ lit_at new (p + 3 + n) ∷ []) (upto_same ws new p n (λ k lt. same k (omega arith)))
    ∙ ap (λ (l : Literal). lits_upto ws p n ++ l ∷ []) (same n (omega arith))

pub lits_same : (ws new : List ℕ) (p : ℕ) → arena_word new p ≡ arena_word ws p →
    ((k : ℕ) → k < arena_word ws p → lit_at new (p + 3 + k) ≡ lit_at ws (p + 3 + k)) → lits_at new p ≡ lits_at ws p
lits_same ws new p size same = ap (lits_upto new p) size ∙ upto_same ws new p (arena_word ws p) same

pub kept_lits : (places old new : List ℕ) (p : ℕ) → KeepsLits places old new → Contains places p → lits_at new p ≡ lits_at old p
kept_lits places old new p k c = lits_same old new p (k.size p c) (λ j lt. ap literal_at (k.lits p j c lt))

-- a list whose literals the words hold
pub upto_take : (ws : List ℕ) (p : ℕ) (lits : List Literal) (n : ℕ) → n ≤ length lits →
    ((k : ℕ) (d : Literal) → k < length lits → lit_at ws (p + 3 + k) ≡ get_or lits k d) → lits_upto ws p n ≡ take n lits
upto_take ws p lits zero le same = refl
upto_take ws p lits (suc n) le same =
    let next : n + 1 ≡ suc n = omega arith in
    ap (λ (ls : List Literal). ls ++ lit_at ws (p + 3 + n) ∷ []) (upto_take ws p lits n (omega arith) same)
    ∙ ap (λ (l : Literal). take n lits ++ l ∷ []) (same n (lit_at ws (p + 3 + n)) (omega arith))
    ∙ sym (take_more lits n (lit_at ws (p + 3 + n)) (omega arith)) ∙ ap (λ i. take i lits) next

pub lits_are : (ws : List ℕ) (p : ℕ) (lits : List Literal) → arena_word ws p ≡ length lits →
    ((k : ℕ) (d : Literal) → k < length lits → lit_at ws (p + 3 + k) ≡ get_or lits k d) → lits_at ws p ≡ lits
lits_are ws p lits size same = ap (lits_upto ws p) size ∙ upto_take ws p lits (length lits) (omega arith) same ∙ take_all (length lits) lits (omega arith)

-- a clause by its places
pub upto_length : (ws : List ℕ) (p n : ℕ) → length (lits_upto ws p n) ≡ n
upto_length ws p zero = refl
upto_length ws p (suc n) = omega (arith, length-append (lits_upto ws p n) (lit_at ws (p + 3 + n) ∷ []), upto_length ws p n)

pub upto_get : (ws : List ℕ) (p n k : ℕ) (d : Literal) → k < n → get_or (lits_upto ws p n) k d ≡ lit_at ws (p + 3 + k)
upto_get ws p zero k d lt = absurd (omega arith)
upto_get ws p (suc n) k d lt = elim (cases_eq k n) [
  | inl e ↦ get_or_push (lits_upto ws p n) (lit_at ws (p + 3 + n)) d k (upto_length ws p n ∙ sym e) ∙ ap (λ j. lit_at ws (p + 3 + j)) (sym e)
  | inr ne ↦ let size = upto_length ws p n in get_or_append_left (lits_upto ws p n) (lit_at ws (p + 3 + n) ∷ []) d k (omega arith)
      ∙ upto_get ws p n k d (omega arith)
]

pub all_false : (ws : List ℕ) (p : ℕ) (set : LiteralSet) → AreFalse ws set p → All (λ k. IsIn set (negate k)) (lits_at ws p)
all_false ws p set f = All-weaker (Contains (lits_at ws p)) (λ k. IsIn set (negate k)) (λ k among. by_place k ((is_clause ws p k).0 among)) (lits_at ws p)
    (All-contains_itself (lits_at ws p))
  where
    by_place : (k : Literal) → (n : ℕ) × (n < arena_word ws p) × (lit_at ws (p + 3 + n) ≡ k) → IsIn set (negate k)
    by_place k n = subst (λ (l : Literal). IsIn set (negate l)) n.2 (f n.0 n.1)
