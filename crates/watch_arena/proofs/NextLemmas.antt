-- Words and literals, and the literal that became false next.
use Rattle.std.proofs.Common.{◌≡◌, ◌≢◌, ℕ, ◌+◌, ◌*◌, ◌/◌, ◌%◌, ◌<◌, ◌≤◌, Bool, true, false, cond, List, [], ◌∷◌, ◌++◌, length, take, get_or, refl, sym, ◌∙◌}
use Rattle.std.proofs.Common.{ap, subst, inl, inr, arith}
use Rattle.std.specs.Prelude.{Contains, nat_eq}
use Rattle.std.proofs.lemmas.Bool.Decides.{eqb_tells}
use Rattle.std.proofs.lemmas.List.{take-take, take_more}
use Rattle.cnf_core.specs.Lit.{Literal, literal, literal_at, word_of, negate, has}
use Rattle.cnf_core.specs.Clause.{IsThere}
use Rattle.cnf_core.specs.Propagation.{LiteralSet, IsIn, Includes}
use Rattle.cnf_core.proofs.PropagationLemmas.{negate-negate, has_from_contains, contains_from_has}
use Rattle.cnf_core.proofs.TrailLemmas.{front_includes, has_front, same_literal_or, word_below, front_differs}
use Rattle.watch_arena.specs.Trail.{Marks, IsMarks, IsLonger}
use Rattle.watch_arena.specs.Walk.{done_of, past_of}

-- words and literals
pub literal_word : (l : Literal) → literal_at (word_of l) ≡ l
literal_word l = by_sign l.var l.positive
  where
    by_sign : (x : ℕ) (b : Bool) → literal_at (word_of (literal x b)) ≡ literal x b
    by_sign x true = let e : (2 * x + 0) / 2 ≡ x = omega arith in let f : (2 * x + 0) % 2 ≡ 0 = omega arith in ap (λ n. literal n (nat_eq ((2 * x + 0) % 2) 0))
        e ∙ ap (λ n. literal x (nat_eq n 0)) f
    by_sign x false = let e : (2 * x + 1) / 2 ≡ x = omega arith in let f : (2 * x + 1) % 2 ≡ 1 = omega arith in ap (λ n. literal n (nat_eq ((2 * x + 1) % 2) 0))
        e ∙ ap (λ n. literal x (nat_eq n 0)) f

pub word_literal : (a : ℕ) → word_of (literal_at a) ≡ a
word_literal a = elim (eqb_tells (a % 2) 0) [
  | inl e ↦ let f : 2 * (a / 2) + cond (nat_eq (a % 2) 0) 0 1 ≡ 2 * (a / 2) + 0 = ap (λ b. 2 * (a / 2) + cond b 0 1) e.0 in let z = e.1 in omega arith
  | inr e ↦ let f : 2 * (a / 2) + cond (nat_eq (a % 2) 0) 0 1 ≡ 2 * (a / 2) + 1 = ap (λ b. 2 * (a / 2) + cond b 0 1) e.0 in let z = e.1 in omega arith
]

pub words_same : (a b : ℕ) → literal_at a ≡ literal_at b → a ≡ b
words_same a b e = sym (word_literal a) ∙ ap word_of e ∙ word_literal b

pub past_done : (m : Marks) → Includes (done_of m) (past_of m)
past_done m = λ l h. front_includes (take (m.front + 1) m.lits) m.front l (subst (λ (ls : List Literal). IsIn (has ls) l)
    (sym (take-take m.front (m.front + 1) m.lits (omega arith))) h)

-- the literal that became false next
module _ (m : Marks) (l : Literal) (w : ℕ) (marks : IsMarks m) (lt : m.front < length m.lits) (is : get_or m.lits m.front l ≡ l)
    (word : w ≡ word_of (negate l)) where
  pub next_is : negate (literal_at w) ≡ l
  next_is = ap (λ n. negate (literal_at n)) word ∙ ap negate (literal_word (negate l)) ∙ negate-negate l

  pub next_false : IsIn (has m.lits) (negate (literal_at w))
  next_false = ap (has m.lits) next_is ∙ has_from_contains m.lits l (m.front, lt, is)

  pub next_fresh : past_of m (negate (literal_at w)) ≡ false
  next_fresh = ap (past_of m) next_is ∙ false_of (past_of m l) before
    where
      false_of : (b : Bool) → (b ≡ true → ⊥) → b ≡ false
      false_of true f = absurd (f refl)
      false_of false f = refl

      before : has (take m.front m.lits) l ≡ true → ⊥
      before h = before_at (contains_from_has (take m.front m.lits) l h)
        where
          before_at : Contains (take m.front m.lits) l → ⊥
          before_at c = front_differs m.lits m.front l l marks.distinct lt c is

  pub next_done : done_of m ≡ has (take m.front m.lits ++ l ∷ [])
  next_done = ap has (take_more m.lits m.front l lt ∙ ap (λ (k : Literal). take m.front m.lits ++ k ∷ []) is)

  -- what was propagated before, but for this literal
  pub was_past : (v : ℕ) → v ≢ w → IsIn (done_of m) (negate (literal_at v)) → IsIn (past_of m) (negate (literal_at v))
  was_past v ne f =
      let g : IsIn (has (take m.front m.lits ++ l ∷ [])) (negate (literal_at v)) = subst (λ (set : LiteralSet). IsIn set (negate (literal_at v))) next_done
      f in
      elim (same_literal_or (negate (literal_at v)) l) [
        | inl e ↦ absurd (ne (words_same v w (sym (negate-negate (literal_at v)) ∙ ap negate (e ∙ sym next_is) ∙ negate-negate (literal_at w))))
        | inr other ↦ sym (has_front (take m.front m.lits) l (negate (literal_at v)) other) ∙ g
      ]

-- what a longer trail leaves of its front
pub front_stays : (old new : Marks) → IsLonger old new → new.front ≡ old.front → IsMarks old → (l : Literal) → past_of new l ≡ past_of old l
front_stays old new longer same marks l =
    let front = marks.front in
    ap (λ n. has (take n new.lits) l) same ∙ ap (λ (ls : List Literal). has ls l)
    (sym (take-take old.front (length old.lits) new.lits front) ∙ ap (take old.front) longer.front)

pub next_word : (vars : ℕ) (l : Literal) → IsThere vars l → word_of (negate l) < 2 * vars + 2
next_word vars l there = word_below vars (negate l) there
