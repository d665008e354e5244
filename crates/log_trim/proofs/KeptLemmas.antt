-- Lines that stay, with their clauses' new numbers.
use Rattle.std.proofs.Common.{◌≡◌, ℕ, ◌+◌, ◌≤◌, ◌⊎◌, Bool, true, false, cond, suc, Some, List, [], ◌∷◌, ◌++◌, length, map, refl, sym, ◌∙◌, ap, subst, inl, inr}
use Rattle.std.proofs.Common.{arith, length-append, append-nil, append_assoc}
use Rattle.std.specs.Prelude.{Contains, slice_get, flat_map}
use Rattle.std.proofs.lemmas.Bool.{both_ways, cases_Bool}
use Rattle.std.proofs.lemmas.List.{get_or_append_left, get_or_push}
use Rattle.std.proofs.lemmas.Option.{slice_get_within}
use Rattle.std.proofs.lemmas.List.Elements.{All-nil, All-cons, All-contains, Contains-append_cases, Contains-append_right}
use Rattle.plan_core.proofs.Listing.{Contains-map}
use Rattle.cnf_core.specs.Lit.{Literal, negate}
use Rattle.cnf_core.specs.Clause.{Clauses}
use Rattle.refute_log.specs.declared.line.LogLine.{LogLine}
use Rattle.refute_log.specs.declared.line.LogLine.TheVariants.{Formula as FormulaLine, Learnt as LearntLine, Bound as BoundLine, Query as QueryLine}
use Rattle.refute_log.specs.declared.line.LogLine.TheVariants.{Refuted as RefutedLine, Model as ModelLine}
use Rattle.refute_log.specs.Told.{Lines}
use Rattle.refute_log.specs.Log.{given}
use Rattle.hint_log.specs.declared.hint_line.HintLine.{HintLine}
use Rattle.hint_log.specs.declared.hint_line.HintLine.TheVariants.{Learnt, Refuted}
use Rattle.hint_log.specs.Hint.{shown_lits, hints_of, IsGoodHint}
use Rattle.hint_log.specs.Checked.{clauses_learnt}
use Rattle.hint_log.specs.HintedLines.{HintLines, AreGood}
use Rattle.log_trim.specs.Trimmed.{StandAt, IsNamedLater, AreUsed, AreLean, HaveLeanHints, IsTrimmed, AreRefutedLines}
use Rattle.log_trim.specs.Found.{IsLeanHint}
use Rattle.log_trim.specs.Hinting.{IsHinted, nameable}
use Rattle.log_trim.specs.Shortened.{is_used, AllUsed, NamesLater, MarksUsed, learnt_among, new_number_in, renumbered, shortened, AreShortened}
use Rattle.log_trim.proofs.UsedLemmas.{count_is}
use Rattle.log_trim.proofs.HintedLemmas.{same_line}
use Rattle.log_trim.proofs.ShortenLemmas.{IsRenumbering, good_renumbered, lean_renumbered, renumbering_kept, renumbering_left_out, renumbering_none}

-- what a Learnt line is shortened to
abbrev shortened_after : List Bool → List ℕ → ℕ → List Literal → List ℕ → HintLines → Bool → HintLines
shortened_after used numbers last lits hints rest stays = cond stays (Learnt lits (renumbered numbers hints) ∷ shortened used (numbers ++ (last + 1) ∷ [])
    (last + 1) rest) (shortened used (numbers ++ 0 ∷ []) last rest)

-- a clause that a line names that stays is named by a line that is kept
named_here : (n : ℕ) (line : HintLine) (rest : HintLines) → Contains (hints_of line) n → IsNamedLater n (line ∷ rest)
named_here n line rest h = (0, line, omega arith, refl, h)

named_later : (n : ℕ) (line : HintLine) (rest : HintLines) → IsNamedLater n rest → IsNamedLater n (line ∷ rest)
named_later n line rest a = (suc a.0, a.1, omega (arith, a.2), a.3, a.4)

stays_named : (used : List Bool) (numbers : List ℕ) (last n m : ℕ) (list : HintLines) → length numbers ≡ n + 1 → m ≤ n → NamesLater used m n list →
    IsNamedLater (new_number_in numbers m) (shortened used numbers last list)
stays_named used numbers last n m [] size le h = absurd h
stays_named used numbers last n m (Learnt lits hints ∷ rest) size le (inl h) =
    let stays : is_used used (length numbers) ≡ true = ap (is_used used) size ∙ h.0 in
    subst (λ b. IsNamedLater (new_number_in numbers m) (shortened_after used numbers last lits hints rest b)) (sym stays)
    (named_here (new_number_in numbers m) (Learnt lits (renumbered numbers hints)) (shortened used (numbers ++ (last + 1) ∷ []) (last + 1) rest)
    (Contains-map (new_number_in numbers) hints m h.1))
stays_named used numbers last n m (Learnt lits hints ∷ rest) size le (inr h) = elim (cases_Bool (is_used used (length numbers))) [
  | inl stays ↦
      let more = numbers ++ (last + 1) ∷ [] in
      let same : new_number_in more m ≡ new_number_in numbers m = get_or_append_left numbers ((last + 1) ∷ []) 0 m (omega (arith, size, le)) in
      let on = stays_named used more (last + 1) (n + 1) m rest (omega (arith, size, length-append numbers ((last + 1) ∷ []))) (omega (arith, le)) h in
      subst (λ b. IsNamedLater (new_number_in numbers m) (shortened_after used numbers last lits hints rest b)) (sym stays)
      (named_later (new_number_in numbers m) (Learnt lits (renumbered numbers hints)) (shortened used more (last + 1) rest)
      (subst (λ k. IsNamedLater k (shortened used more (last + 1) rest)) same on))
  | inr out ↦
      let more = numbers ++ 0 ∷ [] in
      let same : new_number_in more m ≡ new_number_in numbers m = get_or_append_left numbers (0 ∷ []) 0 m (omega (arith, size, le)) in
      let on = stays_named used more last (n + 1) m rest (omega (arith, size, length-append numbers (0 ∷ []))) (omega (arith, le)) h in
      subst (λ b. IsNamedLater (new_number_in numbers m) (shortened_after used numbers last lits hints rest b)) (sym out)
      (subst (λ k. IsNamedLater k (shortened used more last rest)) same on)
]
stays_named used numbers last n m (Refuted lits hints ∷ rest) size le (inl h) = named_here (new_number_in numbers m) (Refuted lits (renumbered numbers hints))
    (shortened used numbers last rest) (Contains-map (new_number_in numbers) hints m h)
stays_named used numbers last n m (Refuted lits hints ∷ rest) size le (inr h) = named_later (new_number_in numbers m) (Refuted lits (renumbered numbers hints))
    (shortened used numbers last rest) (stays_named used numbers last n m rest size le h)

-- each Learnt line that stays is used
pub stays_used : (used : List Bool) (numbers : List ℕ) (last n : ℕ) (list : HintLines) → length numbers ≡ n + 1 → MarksUsed used n list →
    AreUsed last (shortened used numbers last list)
stays_used used numbers last n [] size h = tt
stays_used used numbers last n (Learnt lits hints ∷ rest) size h = elim (cases_Bool (is_used used (length numbers))) [
  | inl stays ↦
      let more = numbers ++ (last + 1) ∷ [] in
      let longer : length more ≡ n + 1 + 1 = omega (arith, size, length-append numbers ((last + 1) ∷ [])) in
      let mark : is_used used (n + 1) ≡ true = ap (is_used used) (sym size) ∙ stays in
      let was = h.0 mark in
      let named = stays_named used more (last + 1) (n + 1) (n + 1) rest longer (omega arith) was.1 in
      let is : new_number_in more (n + 1) ≡ last + 1 = get_or_push numbers (last + 1) 0 (n + 1) (omega (arith, size)) in
      subst (λ b. AreUsed last (shortened_after used numbers last lits hints rest b)) (sym stays)
      (subst (λ k. IsNamedLater k (shortened used more (last + 1) rest)) is named, stays_used used more (last + 1) (n + 1) rest longer h.1)
  | inr out ↦
      subst (λ b. AreUsed last (shortened_after used numbers last lits hints rest b)) (sym out)
      (stays_used used (numbers ++ 0 ∷ []) last (n + 1) rest (omega (arith, size, length-append numbers (0 ∷ []))) h.1)
]
stays_used used numbers last n (Refuted lits hints ∷ rest) size h = stays_used used numbers last n rest size h.1

-- the lines that stay are good, and their hints are lean
abbrev AreLeanAndGood : Clauses → HintLines → Type 0
AreLeanAndGood clauses lines = AreGood clauses lines × HaveLeanHints clauses lines

-- one more such line in front
good_first : (clauses : Clauses) (line : HintLine) (rest : HintLines) → IsLeanHint clauses (shown_lits line) (hints_of line) →
    AreLeanAndGood (clauses ++ clauses_learnt line) rest → AreLeanAndGood clauses (line ∷ rest)
good_first clauses line rest h r = ((h.good, r.0), (h.lean, r.1))

renumbered_hint : (used : List Bool) (old new : Clauses) (numbers : List ℕ) (lits : List Literal) (hints : List ℕ) →
    IsRenumbering used old new (new_number_in numbers) → AllUsed used hints → IsGoodHint old lits hints → AreLean old (map negate lits) hints →
    IsLeanHint new lits (renumbered numbers hints)
renumbered_hint used old new numbers lits hints same all good lean = record {
  good = good_renumbered used old new (new_number_in numbers) same lits hints all good;
  lean = lean_renumbered used old new (new_number_in numbers) same (map negate lits) hints all lean;
}

pub stays_good : (used : List Bool) (numbers : List ℕ) (last n : ℕ) (old new : Clauses) (list : HintLines) → n ≡ length old → last ≡ length new →
    length numbers ≡ n + 1 → IsRenumbering used old new (new_number_in numbers) → MarksUsed used n list → AreLeanAndGood old list →
    AreLeanAndGood new (shortened used numbers last list)
stays_good used numbers last n old new [] count kept size same h good = (tt, tt)
stays_good used numbers last n old new (Learnt lits hints ∷ rest) count kept size same h good =
    let places : length numbers ≡ length old + 1 = size ∙ ap (λ k. k + 1) count in
    let next : n + 1 ≡ length (old ++ lits ∷ []) = omega (arith, count, length-append old (lits ∷ [])) in
    let later : AreLeanAndGood (old ++ lits ∷ []) rest = (good.0.1, good.1.1) in
    elim (cases_Bool (is_used used (length numbers))) [
      | inl stays ↦
          let more = numbers ++ (last + 1) ∷ [] in
          let mark : is_used used (n + 1) ≡ true = ap (is_used used) (sym size) ∙ stays in
          let was = h.0 mark in
          let after : IsRenumbering used (old ++ lits ∷ []) (new ++ lits ∷ []) (new_number_in more) = subst
          (λ k. IsRenumbering used (old ++ lits ∷ []) (new ++ lits ∷ []) (new_number_in (numbers ++ (k + 1) ∷ []))) (sym kept)
          (renumbering_kept used old new numbers lits places same) in
          subst (λ b. AreLeanAndGood new (shortened_after used numbers last lits hints rest b)) (sym stays)
          (good_first new (Learnt lits (renumbered numbers hints)) (shortened used more (last + 1) rest)
          (renumbered_hint used old new numbers lits hints same was.0 good.0.0 good.1.0)
          (stays_good used more (last + 1) (n + 1) (old ++ lits ∷ []) (new ++ lits ∷ []) rest next (omega (arith, kept, length-append new (lits ∷ [])))
          (omega (arith, size, length-append numbers ((last + 1) ∷ []))) after h.1 later))
      | inr out ↦
          let more = numbers ++ 0 ∷ [] in
          let left : is_used used (length old + 1) ≡ false = ap (is_used used) (sym places) ∙ out in
          subst (λ b. AreLeanAndGood new (shortened_after used numbers last lits hints rest b)) (sym out)
          (stays_good used more last (n + 1) (old ++ lits ∷ []) new rest next kept (omega (arith, size, length-append numbers (0 ∷ [])))
          (renumbering_left_out used old new numbers lits places left same) h.1 later)
    ]
stays_good used numbers last n old new (Refuted lits hints ∷ rest) count kept size same h good =
    let later : AreLeanAndGood old rest = subst (λ (cs : Clauses). AreLeanAndGood cs rest) (append-nil old) (good.0.1, good.1.1) in
    good_first new (Refuted lits (renumbered numbers hints)) (shortened used numbers last rest)
    (renumbered_hint used old new numbers lits hints same h.0 good.0.0 good.1.0)
    (subst (λ (cs : Clauses). AreLeanAndGood cs (shortened used numbers last rest)) (sym (append-nil new))
    (stays_good used numbers last n old new rest count kept size same h.1 later))

-- places in the log of the lines that stay
pub record StaysAt (lines : Lines) (wanted : List ℕ) (low high : ℕ) (before : List ℕ) (list : HintLines) : Type 0 where
  pub places : List ℕ
  pub stand : StandAt lines wanted low high places list
  pub all : (p : ℕ) → Contains wanted p → Contains before p → Contains places p

stand_from : (lines : Lines) (wanted : List ℕ) (low more high : ℕ) (places : List ℕ) (list : HintLines) → low ≤ more →
    StandAt lines wanted more high places list → StandAt lines wanted low high places list
stand_from lines wanted low more high [] [] le h = omega (arith, h, le)
stand_from lines wanted low more high (p ∷ places) (line ∷ rest) le h = (omega (arith, h.0, le), h.1, h.2)
stand_from lines wanted low more high [] (line ∷ rest) le h = absurd h
stand_from lines wanted low more high (p ∷ places) [] le h = absurd h

one_is : (p q : ℕ) → Contains (p ∷ []) q → q ≡ p
one_is p q h = All-contains (λ n. n ≡ p) (p ∷ []) q (All-cons (λ n. n ≡ p) p [] refl (All-nil (λ n. n ≡ p))) h

cons_cases : (q p : ℕ) (before : List ℕ) → Contains (p ∷ before) q → (q ≡ p) ⊎ Contains before q
cons_cases q p before h = elim (Contains-append_cases (p ∷ []) before q h) [
  | inl here ↦ inl (one_is p q here)
  | inr later ↦ inr later
]

cons_all : (wanted before places : List ℕ) (p q : ℕ) → ((r : ℕ) → Contains wanted r → Contains before r → Contains places r) → Contains wanted q →
    Contains (p ∷ before) q → Contains (p ∷ places) q
cons_all wanted before places p q all asked among = elim (cons_cases q p before among) [
  | inl is ↦ subst (λ r. Contains (p ∷ places) r) (sym is) (0, omega arith, refl)
  | inr later ↦ Contains-append_right (p ∷ []) places q (all q asked later)
]

abbrev is_refuted : LogLine → Bool
is_refuted (FormulaLine d) = false
is_refuted (LearntLine d) = false
is_refuted (BoundLine x k v) = false
is_refuted (QueryLine d) = false
is_refuted (RefutedLine d) = true
is_refuted ModelLine = false

-- a Learnt line isn't wanted
not_wanted : (lines : Lines) (wanted : List ℕ) (p : ℕ) (c : List Literal) → AreRefutedLines lines wanted → slice_get lines p ≡ Some (LearntLine c) →
    Contains wanted p → ⊥
not_wanted lines wanted p c refuted e asked =
    let r = refuted p asked in
    let same : LearntLine c ≡ RefutedLine r.0 = same_line lines p (LearntLine c) (RefutedLine r.0) e r.1 in
    let yes : false ≡ true = ap is_refuted same in
    both_ways true (sym yes) refl

pub stays_at : (lines : Lines) (wanted : List ℕ) (used : List Bool) (numbers : List ℕ) (last low high : ℕ) (places : List ℕ) (list : HintLines) →
    AreRefutedLines lines wanted → StandAt lines wanted low high places list → StaysAt lines wanted low high places (shortened used numbers last list)
stays_at lines wanted used numbers last low high [] [] refuted h = record { places = []; stand = h; all = λ p asked among. among }
stays_at lines wanted used numbers last low high (p ∷ places) (Learnt lits hints ∷ rest) refuted h = elim (cases_Bool (is_used used (length numbers))) [
  | inl stays ↦
      let s = stays_at lines wanted used (numbers ++ (last + 1) ∷ []) (last + 1) (p + 1) high places rest refuted h.2 in
      let at = h.1 in
      subst (λ b. StaysAt lines wanted low high (p ∷ places) (shortened_after used numbers last lits hints rest b)) (sym stays)
      (record {
        places = p ∷ s.places;
        stand = (
          h.0,
          record {
            there = at.there;
            asked = tt;
          },
          s.stand,
        );
        all = λ q asked among. cons_all wanted places s.places p q s.all asked among;
      })
  | inr out ↦
      let s = stays_at lines wanted used (numbers ++ 0 ∷ []) last (p + 1) high places rest refuted h.2 in
      let at = h.1 in
      let above = h.0 in
      subst (λ b. StaysAt lines wanted low high (p ∷ places) (shortened_after used numbers last lits hints rest b)) (sym out)
      (record {
        places = s.places;
        stand = stand_from lines wanted low (p + 1) high s.places (shortened used (numbers ++ 0 ∷ []) last rest) (omega (arith, above)) s.stand;
        all = λ q asked among. elim (cons_cases q p places among) [
          | inl is ↦ absurd (not_wanted lines wanted p lits refuted at.there (subst (λ r. Contains wanted r) is asked))
          | inr later ↦ s.all q asked later
        ];
      })
]
stays_at lines wanted used numbers last low high (p ∷ places) (Refuted lits hints ∷ rest) refuted h =
    let s = stays_at lines wanted used numbers last (p + 1) high places rest refuted h.2 in
    let at = h.1 in
    record {
      places = p ∷ s.places;
      stand = (
        h.0,
        record {
          there = at.there;
          asked = at.asked;
        },
        s.stand,
      );
      all = λ q asked among. cons_all wanted places s.places p q s.all asked among;
    }
stays_at lines wanted used numbers last low high [] (line ∷ rest) refuted h = absurd h
stays_at lines wanted used numbers last low high (p ∷ places) [] refuted h = absurd h

-- the whole
pub trimmed : (lines : Lines) (wanted : List ℕ) (count : ℕ) (list kept : HintLines) → AreRefutedLines lines wanted → count ≡ length (flat_map given lines) →
    IsHinted lines wanted (length lines) list → AreShortened count list kept → IsTrimmed lines wanted kept
trimmed lines wanted count list kept refuted e h s =
    let first = flat_map given lines in
    let at = stays_at lines wanted s.used s.numbers count 0 (length lines) h.places list refuted h.stand in
    let same : IsRenumbering s.used first first (new_number_in s.numbers) = renumbering_none s.used first s.numbers (λ m le. s.same m (omega (arith, le, e))) in
    let stay = stays_good s.used s.numbers count count first first list e e s.size same s.marked (h.good, h.lean) in
    subst (λ (ls : HintLines). IsTrimmed lines wanted ls) (sym s.is) (record {
      places = at.places;
      stand = at.stand;
      all = λ p asked.
          let r = refuted p asked in
          at.all p asked (h.all p asked (slice_get_within lines p (RefutedLine r.0) r.1));
      used = subst (λ n. AreUsed n (shortened s.used s.numbers count list)) e (stays_used s.used s.numbers count count list s.size s.marked);
      good = stay.0;
      lean = stay.1;
    })

pub hinted_count : (lines : Lines) (wanted : List ℕ) (i : ℕ) (list : HintLines) → IsHinted lines wanted i list →
    length (nameable lines i) ≡ length (flat_map given lines) + learnt_among list
hinted_count lines wanted i list h =
    ap (λ (cs : Clauses). length (flat_map given lines ++ cs)) (sym h.learnt_are)
    ∙ length-append (flat_map given lines) (flat_map clauses_learnt list)
    ∙ ap (λ n. length (flat_map given lines) + n) (count_is list)
