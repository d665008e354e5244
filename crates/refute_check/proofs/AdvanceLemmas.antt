-- One more literal of the trail is counted.
use Rattle.std.proofs.Common.{◌≡◌, ℕ, ◌+◌, ◌-◌, ◌<◌, ◌≤◌, Bool, true, false, List, [], ◌∷◌, ◌++◌, length, take, get_or, refl, sym, ◌∙◌, ap, subst, inl, inr}
use Rattle.std.proofs.Common.{arith}
use Rattle.std.specs.Prelude.{All, Contains}
use Rattle.std.proofs.lemmas.List.{take-take, get_or_default}
use Rattle.std.proofs.lemmas.List.Elements.{All-contains, Contains-get_or}
use Rattle.cnf_core.specs.Lit.{Literal, negate, word_of, has}
use Rattle.cnf_core.specs.Clause.{Clauses, AreDistinct, AreThere, AllDistinct, IsThere}
use Rattle.cnf_core.specs.Propagation.{LiteralSet, IsIn, Includes}
use Rattle.cnf_core.proofs.PropagationLemmas.{negate-negate, has_from_contains}
use Rattle.cnf_core.proofs.TrailLemmas.{there_get, has_front, same_literal_or, word_below, front_includes, front_lacks, next_front}
use Rattle.cnf_core.specs.Trail.{IsTrail, Grows}
use Rattle.refute_check.specs.Entries.{Entries, entries, no_entries, is_short, rest_of, shorts_from, places_from}
use Rattle.refute_check.specs.Tables.{CountedUp, AreCounts, AreOccurrences, IsCountedTo, IsQuiet, AreQuiet, IsQuietNow, AreQuietNow, IsRestQuiet, NotesMore}
use Rattle.cnf_core.proofs.GrowthLemmas.{grows_none, grows_more}
use Rattle.refute_check.proofs.GrowthLemmas.{quiet_more}
use Rattle.refute_check.proofs.FalseCountLemmas.{counts_down, named_by, one_taken}
use Rattle.refute_check.proofs.ShortLemmas.{short_parts, short_among}

-- a grown trail has the same front
pub same_front : (clauses : Clauses) (old new : List Literal) (n : ℕ) → Grows clauses old new → n ≤ length old → take n new ≡ take n old
same_front clauses old new n g le = sym (take-take n (length old) new le) ∙ ap (take n) g.front

-- a clause without the negation of the literal
quiet_untouched : (front c : List Literal) (set : LiteralSet) (l : Literal) → has c (negate l) ≡ false → IsQuiet (has front) set c →
    IsQuiet (has (front ++ l ∷ [])) set c
quiet_untouched front c set l lacks q = record {
  closed = λ m unit. q.closed m (record {
    among = unit.among;
    others = λ i d within. elim (unit.others i d within) [ inl e ↦ inl e | inr f ↦ inr (false_before i d within f) ];
  });
  unfalsified = λ all. q.unfalsified (λ i d within. false_before i d within (all i d within));
}
  where
    false_before : (i : ℕ) (d : Literal) → i < length c → IsIn (has (front ++ l ∷ [])) (negate (get_or c i d)) → IsIn (has front) (negate (get_or c i d))
    false_before i d within h = elim (same_literal_or (negate (get_or c i d)) l) [
      | inl e ↦
          let back : get_or c i d ≡ negate l = sym (negate-negate (get_or c i d)) ∙ ap negate e in
          let there : has c (negate l) ≡ true = has_from_contains c (negate l) (subst (λ (k : Literal). Contains c k) back (Contains-get_or c i d within)) in
          cc (there, lacks)
      | inr ne ↦ sym (has_front front l (negate (get_or c i d)) ne) ∙ h
    ]

pub quiet_next : (clauses : Clauses) (trail mid new : List Literal) (counts : List ℕ) (front : ℕ) (l : Literal) → front < length trail →
    get_or trail front l ≡ l → AllDistinct clauses → AreDistinct trail → Grows clauses trail mid → Grows clauses mid new → AreQuiet clauses trail front →
    AreCounts clauses (has (take front trail)) counts → All (IsRestQuiet (negate l) trail mid) (shorts_from clauses (negate l)) →
    AreQuietNow clauses (places_from 0 clauses (negate l)) counts mid new → AreQuiet clauses new (front + 1)
quiet_next clauses trail mid new counts front l within e distinct once g more quiet right shorts looked =
    λ n d there. at_default n d there (set_is (get_or clauses n []) (by_test n there (has (get_or clauses n []) (negate l)) refl
    (is_short (get_or clauses n [])) refl))
  where
    whole : Grows clauses trail new
    whole = grows_more clauses trail mid new g more

    now : List Literal
    now = take front trail ++ l ∷ []

    set_is : (c : List Literal) → IsQuiet (has now) (has new) c → IsQuiet (has (take (front + 1) new)) (has new) c
    set_is c q = subst (λ (ls : List Literal). IsQuiet (has ls) (has new) c) (sym
        (same_front clauses trail new (front + 1) whole (omega arith) ∙ next_front trail front l within e)) q

    at_default : (n : ℕ) (d : List Literal) → n < length clauses → IsQuiet (has (take (front + 1) new)) (has new) (get_or clauses n []) →
        IsQuiet (has (take (front + 1) new)) (has new) (get_or clauses n d)
    at_default n d there q = subst (λ (c : List Literal). IsQuiet (has (take (front + 1) new)) (has new) c) (get_or_default clauses n [] d there) q

    in_trail : Includes (has trail) (has now)
    in_trail = subst (λ (ls : List Literal). Includes (has trail) (has ls)) (next_front trail front l within e) (front_includes trail (front + 1))

    by_test : (n : ℕ) → n < length clauses → (b : Bool) → has (get_or clauses n []) (negate l) ≡ b → (s : Bool) → is_short (get_or clauses n []) ≡ s →
        IsQuiet (has now) (has new) (get_or clauses n [])
    by_test n there true h true short =
        let rest = rest_of (get_or clauses n []) (negate l) in
        let q : IsRestQuiet (negate l) trail mid rest = All-contains (IsRestQuiet (negate l) trail mid) (shorts_from clauses (negate l)) rest shorts
        (short_among clauses (negate l) n there short h) in
        quiet_more (has now) (has mid) (has new) (get_or clauses n []) more.keeps
        (q (get_or clauses n []) (short_parts (get_or clauses n []) (negate l) short h) (has now) in_trail)
    by_test n there true h false long =
        All-contains (λ m. IsQuietNow (get_or clauses m []) (get_or counts m 0 - 1) mid new) (places_from 0 clauses (negate l)) n looked
        (named_by clauses (negate l) n there long h)
        (has now) (λ k m. g.keeps k (in_trail k m)) (one_taken clauses (take front trail) l counts n distinct (front_lacks trail front l once within e) right
        there long h)
    by_test n there false h s short =
        quiet_more (has now) (has trail) (has new) (get_or clauses n []) whole.keeps
        (quiet_untouched (take front trail) (get_or clauses n []) (has trail) l h (quiet n [] there))

pub counted_next : (vars : ℕ) (clauses : Clauses) (truth then : List Bool) (trail new : List Literal) (old counts : List ℕ) (front : ℕ) (l : Literal) →
    front < length trail → get_or trail front l ≡ l → AllDistinct clauses → IsCountedTo vars clauses truth trail old front → Grows clauses trail new →
    IsTrail vars then new → length counts ≡ length old → CountedUp (places_from 0 clauses (negate l)) counts old →
    IsCountedTo vars clauses then new counts (front + 1)
counted_next vars clauses truth then trail new old counts front l within e distinct counted g t same up = record {
  table = t;
  within = let longer = g.longer in omega arith;
  right = subst (λ (ls : List Literal). AreCounts clauses (has ls) counts) (sym (same_front clauses trail new (front + 1) g (omega arith)
      ∙ next_front trail front l within e))
      (counts_down clauses (take front trail) l old counts distinct (front_lacks trail front l (let k = counted.table in k.distinct) within e) counted.right
      same up);
}

-- nothing of the trail is counted yet that wasn't before
pub counted_still : (vars : ℕ) (clauses : Clauses) (truth then : List Bool) (trail new : List Literal) (counts : List ℕ) (front : ℕ) →
    IsCountedTo vars clauses truth trail counts front → Grows clauses trail new → IsTrail vars then new → IsCountedTo vars clauses then new counts front
counted_still vars clauses truth then trail new counts front counted g t =
    let low = counted.within in
    record {
      table = t;
      within = let longer = g.longer in omega arith;
      right = subst (λ (ls : List Literal). AreCounts clauses (has ls) counts) (sym (same_front clauses trail new front g low)) counted.right;
    }

-- the lists of a literal, as they are read
pub places_read : (vars : ℕ) (clauses : Clauses) (lists : List Entries) (l : Literal) (word : ℕ) (list : Entries) → AreOccurrences vars clauses lists →
    IsThere vars l → word ≡ word_of l → list ≡ get_or lists word list → list ≡ entries (shorts_from clauses l) (places_from 0 clauses l)
places_read vars clauses lists l word list o there w is =
    let within : word_of l < length lists = omega (arith, o.size, word_below vars l there) in
    is ∙ ap (λ n. get_or lists n list) w ∙ get_or_default lists (word_of l) list no_entries within ∙ o.each l within

pub negated_there : (vars : ℕ) (trail : List Literal) (front : ℕ) (l : Literal) → AreThere vars trail → front < length trail → get_or trail front l ≡ l →
    IsThere vars (negate l)
negated_there vars trail front l there within e = subst (λ (k : Literal). IsThere vars k) e (there_get vars trail front l within there)

pub advance_places : (vars : ℕ) (clauses : Clauses) (lists : List Entries) (trail : List Literal) (front : ℕ) (l n : Literal) (word : ℕ) (list : Entries) →
    AreOccurrences vars clauses lists → AreThere vars trail → front < length trail → l ≡ get_or trail front l → n ≡ negate l → word ≡ word_of n →
    list ≡ get_or lists word list → list ≡ entries (shorts_from clauses (negate l)) (places_from 0 clauses (negate l))
advance_places vars clauses lists trail front l n word list o there within at is w read =
    places_read vars clauses lists (negate l) word list o (negated_there vars trail front l there within (sym at)) (w ∙ ap word_of is) read

-- a literal of the trail makes its negation false
pub false_at : (trail : List Literal) (front : ℕ) (l n : Literal) → front < length trail → l ≡ get_or trail front l → n ≡ negate l → IsIn (has trail) (negate n)
false_at trail front l n within at is =
    ap (has trail) (ap negate is ∙ negate-negate l) ∙ has_from_contains trail l (subst (λ (k : Literal). Contains trail k) (sym at)
    (Contains-get_or trail front l within))

-- how far propagation came
pub record Propagated (vars : ℕ) (clauses : Clauses) (old : List Literal) (first start : List ℕ) (truth : List Bool) (new : List Literal)
    (counts more : List ℕ) (from front : ℕ) : Type 0 where
  pub counted : IsCountedTo vars clauses truth new counts front
  pub quiet : AreQuiet clauses new front
  pub grows : Grows clauses old new
  pub noted : NotesMore clauses start first more counts
  pub on : from ≤ front

pub propagated_none : (vars : ℕ) (clauses : Clauses) (trail : List Literal) (truth : List Bool) (counts noted : List ℕ) (from : ℕ) →
    IsCountedTo vars clauses truth trail counts from → AreQuiet clauses trail from →
    Propagated vars clauses trail counts noted truth trail counts noted from from
propagated_none vars clauses trail truth counts noted from counted quiet = record {
  counted = counted;
  quiet = quiet;
  grows = grows_none clauses trail;
  noted = λ _ t. t;
  on = omega arith;
}

pub propagated_more : (vars : ℕ) (clauses : Clauses) (old mid new : List Literal) (truth then : List Bool) (first noted counts more now most : List ℕ)
    (from front : ℕ) → Propagated vars clauses old first noted truth mid counts more from front → IsCountedTo vars clauses then new now (front + 1) →
    AreQuiet clauses new (front + 1) → Grows clauses mid new → NotesMore clauses more counts most now →
    Propagated vars clauses old first noted then new now most from (front + 1)
propagated_more vars clauses old mid new truth then first noted counts more now most from front p counted quiet g t = record {
  counted = counted;
  quiet = quiet;
  grows = grows_more clauses old mid new p.grows g;
  noted = λ before h. t before (p.noted before h);
  on = let le = p.on in omega arith;
}
