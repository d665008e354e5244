-- One more clause behind the words.
use Rattle.std.proofs.Common.{◌≡◌, ◌≢◌, ℕ, ◌+◌, ◌*◌, ◌/◌, ◌%◌, ◌<◌, ◌≤◌, ◌⊎◌, Bool, true, false, zero, suc, List, [], ◌∷◌, ◌++◌, length, get_or, refl, sym}
use Rattle.std.proofs.Common.{◌∙◌, ap, subst, inl, inr, arith, length-append}
use Rattle.std.specs.Prelude.{Contains, ◌^◌, map}
use Rattle.std.proofs.lemmas.Bool.{cases_lt, cases_eq}
use Rattle.std.proofs.lemmas.List.{get_or_append_left, get_or-append_right, length-map}
use Rattle.std.proofs.lemmas.List.Elements.{Contains-push_cases, Contains-push, Contains-append_left}
use Rattle.cnf_core.specs.Lit.{Literal, literal, literal_at, word_of}
use Rattle.cnf_core.specs.Clause.{AreDistinct, AreThere}
use Rattle.cnf_core.proofs.QuantifierLemmas.{pairs_from_distinct}
use Rattle.cnf_core.proofs.TrailLemmas.{there_get, word_below}
use Rattle.watch_arena.specs.Words.{arena_word, block_of, IsLitWord, IsBlock, IsStore}
use Rattle.watch_arena.specs.Walk.{lits_at}
use Rattle.watch_arena.proofs.NextLemmas.{literal_word}
use Rattle.watch_arena.proofs.TextLemmas.{lits_are}

module _ (vars : ℕ) (ws new places : List ℕ) (p : ℕ) (h : IsStore vars ws places) (is : p ≡ length ws) (small : length new < 2 ^ 30)
    (same : (i : ℕ) → i < length ws → arena_word new i ≡ arena_word ws i) (longer : length ws ≤ length new) (block : IsBlock vars new p) where
  old_block : (q : ℕ) → Contains places q → IsBlock vars new q
  old_block q c =
      let b = h.block q c in
      let two = b.two in
      let within = b.within in
      let len : arena_word new q ≡ arena_word ws q = same q (omega arith) in
      record {
        from = b.from;
        two = omega arith;
        within = omega arith;
        lits = λ k lt. subst (λ n. IsLitWord vars n) (sym (same (q + 3 + k) (omega arith))) (b.lits k (omega arith));
        distinct = λ j k lj lk ne e. b.distinct j k (omega arith) (omega arith) ne
            (ap (λ n. n / 2) (sym (same (q + 3 + j) (omega arith))) ∙ e ∙ ap (λ n. n / 2) (same (q + 3 + k) (omega arith)));
      }

  pub attach_store : IsStore vars new (places ++ p ∷ [])
  attach_store = record {
    vars_limit = h.vars_limit;
    room_limit = small;
    block = λ q c. elim (Contains-push_cases places p q c) [ inl old ↦ old_block q old | inr e ↦ subst (IsBlock vars new) e block ];
    apart = λ q r c d lt. elim (Contains-push_cases places p q c) [
      | inl old ↦
          let b = h.block q old in
          let two = b.two in
          let within = b.within in
          let len : arena_word new q ≡ arena_word ws q = same q (omega arith) in
          elim (Contains-push_cases places p r d) [
            | inl other ↦ let a = h.apart q r old other lt in omega arith
            | inr e ↦ omega arith
          ]
      | inr e ↦ elim (Contains-push_cases places p r d) [
        | inl other ↦ let b = h.block r other in let within = b.within in absurd (omega arith)
        | inr f ↦ absurd (omega arith)
      ]
    ];
  }

-- the words behind
half : (l : Literal) → word_of l / 2 ≡ l.var
half l = by_sign l.var l.positive
  where
    by_sign : (x : ℕ) (b : Bool) → word_of (literal x b) / 2 ≡ x
    by_sign x true = let e : (2 * x + 0) / 2 ≡ x = omega arith in e
    by_sign x false = let e : (2 * x + 1) / 2 ≡ x = omega arith in e

word_from : (l : Literal) → 1 ≤ l.var → 2 ≤ word_of l
word_from l from = by_sign l.var l.positive from
  where
    by_sign : (x : ℕ) (b : Bool) → 1 ≤ x → 2 ≤ word_of (literal x b)
    by_sign x true h = omega arith
    by_sign x false h = omega arith

module _ (vars : ℕ) (ws : List ℕ) (lits : List Literal) (from : 1 ≤ length ws) (two : 2 ≤ length lits) (there : AreThere vars lits)
    (distinct : AreDistinct lits) where
  pub behind : (i : ℕ) → arena_word (ws ++ block_of lits) (length ws + i) ≡ arena_word (block_of lits) i
  behind i = get_or-append_right ws (block_of lits) (length ws) (length ws + i) 0 refl (omega arith) ∙ ap (arena_word (block_of lits)) (omega arith)

  pub before : (i : ℕ) → i < length ws → arena_word (ws ++ block_of lits) i ≡ arena_word ws i
  before i lt = get_or_append_left ws (block_of lits) 0 i lt

  pub behind_lit : (k : ℕ) (d : Literal) → k < length lits → arena_word (ws ++ block_of lits) (length ws + 3 + k) ≡ word_of (get_or lits k d)
  behind_lit k d lt = ap (arena_word (ws ++ block_of lits)) (omega arith) ∙ behind (3 + k) ∙ of_block k d lt
    where
      of_block : (k : ℕ) (d : Literal) → k < length lits → arena_word (block_of lits) (3 + k) ≡ word_of (get_or lits k d)
      of_block k d lt = rw (add_three k) (mapped lits k d lt)
        where
          add_three : (k : ℕ) → 3 + k ≡ suc (suc (suc k))
          add_three k = omega arith

          mapped : (ls : List Literal) (k : ℕ) (d : Literal) → k < length ls → get_or (map word_of ls) k 0 ≡ word_of (get_or ls k d)
          mapped [] k d lt = absurd (omega arith)
          mapped (l ∷ ls) zero d lt = refl
          mapped (l ∷ ls) (suc k) d lt = mapped ls k d (omega arith)

  pub behind_length : length (ws ++ block_of lits) ≡ length ws + 3 + length lits
  behind_length = omega (arith, length-append ws (block_of lits), length-map lits word_of)

  pub behind_block : IsBlock vars (ws ++ block_of lits) (length ws)
  behind_block =
      let len : arena_word (ws ++ block_of lits) (length ws) ≡ length lits = ap (arena_word (ws ++ block_of lits)) (omega arith) ∙ behind 0 in
      let size = behind_length in
      record {
        from = from;
        two = omega arith;
        within = omega arith;
        lits = λ k lt. subst (λ n. IsLitWord vars n) (sym (behind_lit k (literal 0 true) (omega arith)))
            (let x = there_get vars lits k (literal 0 true) (omega arith) there in record {
              from = word_from (get_or lits k (literal 0 true)) x.0;
              below = word_below vars (get_or lits k (literal 0 true)) x;
            });
        distinct = λ j k lj lk ne e.
            let lj2 : j < length lits = omega arith in
            let lk2 : k < length lits = omega arith in
            let vars_same : (get_or lits j (literal 0 true)).var ≡ (get_or lits k (literal 0 true)).var =
            sym (half (get_or lits j (literal 0 true))) ∙ ap (λ n. n / 2) (sym (behind_lit j (literal 0 true) lj2)) ∙ e
            ∙ ap (λ n. n / 2) (behind_lit k (literal 0 true) lk2) ∙ half (get_or lits k (literal 0 true)) in
            elim (cases_lt j k) [
              | inl l ↦ pairs_from_distinct lits distinct j k (literal 0 true) l lk2 vars_same
              | inr g ↦ pairs_from_distinct lits distinct k j (literal 0 true) (omega arith) lj2 (sym vars_same)
            ];
      }

-- the words behind the others hold the clause
pub behind_lits : (vars : ℕ) (ws : List ℕ) (lits : List Literal) (from : 1 ≤ length ws) (two : 2 ≤ length lits) (there : AreThere vars lits)
    (distinct : AreDistinct lits) → lits_at (ws ++ block_of lits) (length ws) ≡ lits
behind_lits vars ws lits from two there distinct = lits_are (ws ++ block_of lits) (length ws) lits len
    (λ k d lt. ap literal_at (behind_lit vars ws lits from two there distinct k d lt) ∙ literal_word (get_or lits k d))
  where
    len : arena_word (ws ++ block_of lits) (length ws) ≡ length lits
    len = ap (arena_word (ws ++ block_of lits)) (omega arith) ∙ behind vars ws lits from two there distinct 0
