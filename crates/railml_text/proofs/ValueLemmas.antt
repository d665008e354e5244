-- The text of an attribute.
use Rattle.std.proofs.Common.{◌≡◌, ◌≢◌, ◌⊎◌, ℕ, ◌<◌, Bool, true, false, cond, ◌==◌, ◌||◌, not, Option, Some, None, List, [], ◌∷◌, ◌++◌, length, refl, sym, ap}
use Rattle.std.proofs.Common.{◌∙◌, subst, append_assoc, length-append, arith, inl, inr, lit<}
use Rattle.std.specs.Prelude.{encode_utf8}
use Rattle.std.specs.Str.{IsUtf8}
use Rattle.std.proofs.lemmas.Bool.Decides.{nat_tests}
use Rattle.std.proofs.lemmas.List.{append-nil}
use Rattle.std.proofs.lemmas.Str.{IsUtf8-append, IsUtf8-encode, IsUtf8-from_ascii}
use Rattle.std.proofs.lemmas.Str.Ascii.{IsAscii-nil, IsAscii-cons}
use Rattle.std.proofs.lemmas.Bool.{both_ways, false_from_ne_true}
use Rattle.plan_core.proofs.ListFacts.{same_heads, same_tails}
use Rattle.railml_text.specs.Bytes.{AllOfClass}
use Rattle.railml_text.specs.References.{IsReference, BeginsLoose}
use Rattle.railml_text.specs.Values.{ValuePiece, plain, line_end, blank, reference, piece_value, piece_text, IsPiece, AreSpelled, IsValueText, HasLoose}
use Rattle.railml_text.specs.Reading.{reference_at, past_line_feed, encoded, piece_at}
use Rattle.railml_text.proofs.RunLemmas.{eq-same, same_if_eq}
use Rattle.railml_text.proofs.ReferenceLemmas.{found, found_rest, found_value, reference_takes, reference_again, reference_shape}
use Rattle.railml_text.proofs.TextLemmas.{text_before, text_after}

-- ---- one piece

-- what a reading of a piece took
pub record TakesPiece (bytes text after : List ℕ) : Type 0 where
  pub piece : ValuePiece
  pub is : IsPiece piece after
  pub parts : bytes ≡ piece_value piece ++ after
  pub made : text ≡ piece_text piece

eq_false : (b c : ℕ) → b ≢ c → (b == c) ≡ false
eq_false b c n = false_from_ne_true (b == c) (λ e. n (same_if_eq b c e))

false_ne : (b c : ℕ) → (b == c) ≡ false → b ≢ c
false_ne b c e = λ h. both_ways (b == c) e (ap (λ (d : ℕ). b == d) (sym h) ∙ eq-same b)

reference_piece : (bytes text after : List ℕ) (o : Option (ℕ × List ℕ)) → reference_at bytes ≡ o → encoded o ≡ Some (text, after) → TakesPiece bytes text after
reference_piece bytes text after None h e = absurd cc
reference_piece bytes text after (Some x) h e =
    let t = reference_takes bytes x.0 x.1 h in
    let last : x.1 ≡ after = found_rest (encode_utf8 x.0) text x.1 after e in
    record {
      piece = reference t.text x.0;
      is = t.is;
      parts = t.parts ∙ ap (λ (u : List ℕ). t.text ++ u) last;
      made = sym
          (found_value (encode_utf8 x.0) text x.1 after e);
    }

-- a carriage return is a piece with its line feed, or alone
return_piece : (bytes text after : List ℕ) → found (32 ∷ []) (past_line_feed bytes) ≡ Some (text, after) → TakesPiece (13 ∷ bytes) text after
return_piece [] text after e =
    let last : [] ≡ after = found_rest (32 ∷ []) text [] after e in
    record {
      piece = blank 13;
      is = inr (refl, λ others h. let k : [] ≡ 10 ∷ others = last ∙ h in cc);
      parts = ap (λ (u : List ℕ). 13 ∷ u) last;
      made = sym (found_value (32 ∷ []) text [] after e);
    }
return_piece (b ∷ bytes) text after e = choose (b == 10) refl e
  where
    choose : (v : Bool) → (b == 10) ≡ v → found (32 ∷ []) (cond {A = List ℕ} v bytes (b ∷ bytes)) ≡ Some (text, after) → TakesPiece (13 ∷ b ∷ bytes) text after
    choose true h k = record {
      piece = line_end;
      is = tt;
      parts = ap (λ (c : ℕ). 13 ∷ c ∷ bytes) (same_if_eq b 10 h) ∙ ap (λ (u : List ℕ). 13 ∷ 10 ∷ u) (found_rest (32 ∷ []) text bytes after k);
      made = sym (found_value (32 ∷ []) text bytes after k);
    }
    choose false h k =
        let last : b ∷ bytes ≡ after = found_rest (32 ∷ []) text (b ∷ bytes) after k in
        record {
          piece = blank 13;
          is = inr (refl, λ others q. false_ne b 10 h (same_heads b 10 bytes others (last ∙ q)));
          parts = ap (λ (u : List ℕ). 13 ∷ u) last;
          made = sym (found_value (32 ∷ []) text (b ∷ bytes) after k);
        }

either_is : (b : ℕ) → ((b == 9) || (b == 10)) ≡ true → (b ≡ 9) ⊎ (b ≡ 10)
either_is b e = grind (arith, nat_tests)

neither_is : (b : ℕ) → ((b == 9) || (b == 10)) ≡ false → (b ≢ 9) × (b ≢ 10)
neither_is b e = (
  λ h. let k : ((9 == 9) || (9 == 10)) ≡ false = subst (λ (c : ℕ). ((c == 9) || (c == 10)) ≡ false) h e in cc,
  λ h. let k :
      ((10 == 9) || (10 == 10)) ≡ false = subst (λ (c : ℕ). ((c == 9) || (c == 10)) ≡ false) h e in cc,
)

pub piece_takes : (bytes text after : List ℕ) → piece_at bytes ≡ Some (text, after) → TakesPiece bytes text after
piece_takes [] text after e = absurd cc
piece_takes (b ∷ bytes) text after e = choose (b == 38) (b == 13) ((b == 9) || (b == 10)) refl refl refl e
  where
    choose : (v w u : Bool) → (b == 38) ≡ v → (b == 13) ≡ w → ((b == 9) || (b == 10)) ≡ u
        → cond {A = Option (List ℕ × List ℕ)} v (encoded (reference_at (b ∷ bytes)))
        (cond w (Some (32 ∷ [], past_line_feed bytes)) (cond u (Some (32 ∷ [], bytes)) (Some (b ∷ [], bytes)))) ≡ Some (text, after) →
        TakesPiece (b ∷ bytes) text after
    choose true w u p q r h = reference_piece (b ∷ bytes) text after (reference_at (b ∷ bytes)) refl h
    choose false true u p q r h = subst (λ (c : ℕ). TakesPiece (c ∷ bytes) text after) (sym (same_if_eq b 13 q)) (return_piece bytes text after h)
    choose false false true p q r h = record {
      piece = blank b;
      is = inl (either_is b r);
      parts = ap (λ (u : List ℕ). b ∷ u) (found_rest (32 ∷ []) text bytes after h);
      made = sym (found_value (32 ∷ []) text bytes after h);
    }
    choose false false false p q r h =
        let n = neither_is b r in
        record {
          piece = plain b;
          is = (false_ne b 38 p, n.0, n.1, false_ne b 13 q);
          parts = ap (λ (u : List ℕ). b ∷ u) (found_rest (b ∷ []) text bytes after h);
          made = sym (found_value (b ∷ []) text bytes after h);
        }

neither_test : (b : ℕ) → b ≢ 9 → b ≢ 10 → ((b == 9) || (b == 10)) ≡ false
neither_test b p q = rw (eq_false b 9 p, eq_false b 10 q) refl

no_feed : (after : List ℕ) → ((bytes : List ℕ) → after ≢ 10 ∷ bytes) → past_line_feed after ≡ after
no_feed [] h = refl
no_feed (b ∷ after) h = rw (eq_false b 10 (λ e. h after (ap (λ (c : ℕ). c ∷ after) e))) refl

pub piece_again : (piece : ValuePiece) (after : List ℕ) → IsPiece piece after → piece_at (piece_value piece ++ after) ≡ Some (piece_text piece, after)
piece_again (plain b) after h = rw (eq_false b 38 h.0, eq_false b 13 h.3, neither_test b h.1 h.2) refl
piece_again line_end after h = refl
piece_again (blank b) after (inl (inl e)) = rw e refl
piece_again (blank b) after (inl (inr e)) = rw e refl
piece_again (blank b) after (inr h) = rw h.0 (ap (λ (u : List ℕ). found (32 ∷ []) u) (no_feed after h.1))
piece_again (reference text c) after h =
    let s = reference_shape text c h in
    let e : text ++ after ≡ 38 ∷ ((s.inner ++ 59 ∷ []) ++ after) = ap (λ (u : List ℕ). u ++ after) s.spelled in
    let k : reference_at (38 ∷ ((s.inner ++ 59 ∷ []) ++ after)) ≡ Some (c, after) = ap reference_at (sym e) ∙ reference_again text c after h in
    ap piece_at e ∙ ap encoded k

-- where no piece begins, an `&` begins no reference
pub piece_none : (b : ℕ) (bytes : List ℕ) → piece_at (b ∷ bytes) ≡ None → BeginsLoose (b ∷ bytes)
piece_none b bytes e = choose (b == 38) (b == 13) ((b == 9) || (b == 10)) refl e
  where
    no_reference : (o : Option (ℕ × List ℕ)) → reference_at (b ∷ bytes) ≡ o → encoded o ≡ None → (text after : List ℕ) (c : ℕ) → b ∷ bytes ≡ text ++ after →
        IsReference text c → ⊥
    no_reference None h k text after c q r = let both : None ≡ found c after = sym h ∙ ap reference_at q ∙ reference_again text c after r in cc
    no_reference (Some x) h k text after c q r = cc

    choose : (v w u : Bool) → (b == 38) ≡ v → cond {A = Option (List ℕ × List ℕ)} v (encoded (reference_at (b ∷ bytes)))
        (cond w (Some (32 ∷ [], past_line_feed bytes)) (cond u (Some (32 ∷ [], bytes)) (Some (b ∷ [], bytes)))) ≡ None → BeginsLoose (b ∷ bytes)
    choose true w u p h = record {
      rest = bytes;
      ampersand = ap (λ (c : ℕ). c ∷ bytes) (same_if_eq b 38 p);
      none = no_reference (reference_at (b ∷ bytes)) refl h;
    }
    choose false true u p h = absurd cc
    choose false false true p h = absurd cc
    choose false false false p h = absurd cc

piece_some : (piece : ValuePiece) (after : List ℕ) → IsPiece piece after → (b : ℕ) × (rest : List ℕ) × (piece_value piece ≡ b ∷ rest)
piece_some (plain b) after h = (b, [], refl)
piece_some line_end after h = (13, 10 ∷ [], refl)
piece_some (blank b) after h = (b, [], refl)
piece_some (reference text c) after h = let s = reference_shape text c h in (38, s.inner ++ 59 ∷ [], s.spelled)

-- ---- all pieces

-- the value is these pieces, which stand for the text, and then the rest
abbrev pub SpelledTo : List ValuePiece → List ℕ → List ℕ → List ℕ → Type 0
SpelledTo [] value text rest = (value ≡ rest) × (text ≡ [])
SpelledTo (piece ∷ pieces) value text rest =
    (after others : List ℕ) × IsPiece piece after × (value ≡ piece_value piece ++ after) × (text ≡ piece_text piece ++ others) × SpelledTo pieces after others
    rest

pub SpelledTo-push : (pieces : List ValuePiece) (piece : ValuePiece) (value text rest after : List ℕ) → SpelledTo pieces value text rest → IsPiece piece after →
    rest ≡ piece_value piece ++ after → SpelledTo (pieces ++ piece ∷ []) value (text ++ piece_text piece) after
SpelledTo-push [] piece value text rest after h is e = (
  after,
  [],
  is,
  h.0 ∙ e,
  ap (λ (u : List ℕ). u ++ piece_text piece) h.1
      ∙ sym (append-nil (piece_text piece)),
  (refl, refl),
)
SpelledTo-push (one ∷ pieces) piece value text rest after h is e = (
  h.0,
  h.1 ++ piece_text piece,
  h.2,
  h.3,
  ap (λ (u : List ℕ). u ++ piece_text piece) h.4
      ∙ append_assoc (piece_text one) h.1 (piece_text piece),
  SpelledTo-push pieces piece h.0 h.1 rest after h.5 is e,
)

pub spelled_all : (pieces : List ValuePiece) (value text : List ℕ) → SpelledTo pieces value text [] → AreSpelled pieces value text
spelled_all [] value text h = h
spelled_all (piece ∷ pieces) value text h = (h.0, h.1, h.2, h.3, h.4, spelled_all pieces h.0 h.1 h.5)

pub spelled_before : (pieces : List ValuePiece) (value text rest : List ℕ) → SpelledTo pieces value text rest → (before : List ℕ) × (value ≡ before ++ rest)
spelled_before [] value text rest h = ([], h.0)
spelled_before (piece ∷ pieces) value text rest h =
    let b = spelled_before pieces h.0 h.1 rest h.5 in
    (piece_value piece ++ b.0, h.3 ∙ ap (λ (u : List ℕ). piece_value piece ++ u) b.1 ∙ sym (append_assoc (piece_value piece) b.0 rest))

-- so far: some pieces, and then the rest
pub record SoFar (value text rest : List ℕ) : Type 0 where
  pub pieces : List ValuePiece
  pub spelled : SpelledTo pieces value text rest

pub SoFar-more : (value text rest more after : List ℕ) → SoFar value text rest → piece_at rest ≡ Some (more, after) → SoFar value (text ++ more) after
SoFar-more value text rest more after s e =
    let t = piece_takes rest more after e in
    record {
      pieces = s.pieces ++ t.piece ∷ [];
      spelled = subst (λ (u : List ℕ). SpelledTo (s.pieces ++ t.piece ∷ []) value (text ++ u) after) (sym t.made)
          (SpelledTo-push s.pieces t.piece value text rest after s.spelled t.is t.parts);
    }

pub SoFar-all : (value text rest : List ℕ) → SoFar value text rest → (length rest == 0) ≡ true → IsValueText value text
SoFar-all value text [] s none = (s.pieces, spelled_all s.pieces value text s.spelled)
SoFar-all value text (b ∷ rest) s none = let k : length (b ∷ rest) ≡ 0 = same_if_eq (length (b ∷ rest)) 0 none in absurd (omega (arith, k))

pub SoFar-loose : (value text rest : List ℕ) → SoFar value text rest → (length rest == 0) ≡ false → piece_at rest ≡ None → HasLoose value
SoFar-loose value text [] s some e = let k : (0 == 0) ≡ false = some in absurd cc
SoFar-loose value text (b ∷ rest) s some e =
    let before = spelled_before s.pieces value text (b ∷ rest) s.spelled in
    record { before = before.0; from = b ∷ rest; parts = before.1; loose = piece_none b rest e }

pub piece_shorter : (bytes text after : List ℕ) → piece_at bytes ≡ Some (text, after) → length after < length bytes
piece_shorter bytes text after e =
    let t = piece_takes bytes text after e in
    let s = piece_some t.piece after t.is in
    omega (arith, ap length t.parts, length-append (piece_value t.piece) after, ap length s.2)

-- ---- one text

spelled_once : (pieces others : List ValuePiece) (value text other : List ℕ) → AreSpelled pieces value text → AreSpelled others value other → text ≡ other
spelled_once [] [] value text other h k = h.1 ∙ sym k.1
spelled_once [] (q ∷ others) value text other h k = let s = piece_some q k.0 k.2 in let e : [] ≡ s.0 ∷ (s.1 ++ k.0) = sym h.0 ∙ k.3
    ∙ ap (λ (u : List ℕ). u ++ k.0) s.2 in absurd cc
spelled_once (p ∷ pieces) [] value text other h k = let s = piece_some p h.0 h.2 in let e : [] ≡ s.0 ∷ (s.1 ++ h.0) = sym k.0 ∙ h.3
    ∙ ap (λ (u : List ℕ). u ++ h.0) s.2 in absurd cc
spelled_once (p ∷ pieces) (q ∷ others) value text other h k =
    let both : found (piece_text p) h.0 ≡ found (piece_text q) k.0 = sym (piece_again p h.0 h.2) ∙ ap piece_at (sym h.3 ∙ k.3) ∙ piece_again q k.0 k.2 in
    let same : piece_text p ≡ piece_text q = found_value (piece_text p) (piece_text q) h.0 k.0 both in
    let last : h.0 ≡ k.0 = found_rest (piece_text p) (piece_text q) h.0 k.0 both in
    let rest : h.1 ≡ k.1 = spelled_once pieces others h.0 h.1 k.1 h.5 (subst (λ (u : List ℕ). AreSpelled others u k.1) (sym last) k.5) in
    h.4 ∙ ap (λ (u : List ℕ). u ++ h.1) same ∙ ap (λ (u : List ℕ). piece_text q ++ u) rest ∙ sym k.4

-- a value has at most one text
pub one_text : (value text other : List ℕ) → IsValueText value text → IsValueText value other → text ≡ other
one_text value text other h k = spelled_once h.0 k.0 value text other h.1 k.1

-- ---- a value with a text has no loose `&`

abbrev NoAmpersand : List ℕ → Type 0
NoAmpersand bytes = AllOfClass (λ b. not (b == 38)) bytes

-- an `&` behind bytes that are none
behind : (run after before rest : List ℕ) → NoAmpersand run → run ++ after ≡ before ++ 38 ∷ rest → (others : List ℕ) × (after ≡ others ++ 38 ∷ rest)
behind [] after before rest n e = (before, e)
behind (b ∷ run) after [] rest n e =
    let same : b ≡ 38 = same_heads b 38 (run ++ after) rest e in
    let k : not (38 == 38) ≡ true = subst (λ (c : ℕ). not (c == 38) ≡ true) same n.0 in absurd cc
behind (b ∷ run) after (x ∷ before) rest n e = behind run after before rest n.1 (same_tails b x (run ++ after) (before ++ 38 ∷ rest) e)

-- the `&` stands behind the piece, or it is the piece
beyond : (piece : ValuePiece) (after before rest : List ℕ) → IsPiece piece after → piece_value piece ++ after ≡ before ++ 38 ∷ rest → BeginsLoose (38 ∷ rest) →
    (others : List ℕ) × (after ≡ others ++ 38 ∷ rest)
beyond (plain b) after before rest h e l = behind (b ∷ []) after before rest (ap not (eq_false b 38 h.0), tt) e
beyond line_end after before rest h e l = behind (13 ∷ 10 ∷ []) after before rest (refl, (refl, tt)) e
beyond (blank b) after before rest (inl (inl q)) e l = behind (b ∷ []) after before rest (rw q refl, tt) e
beyond (blank b) after before rest (inl (inr q)) e l = behind (b ∷ []) after before rest (rw q refl, tt) e
beyond (blank b) after before rest (inr q) e l = behind (b ∷ []) after before rest (rw q.0 refl, tt) e
beyond (reference text c) after [] rest h e l = absurd (l.none text after c (sym e) h)
beyond (reference text c) after (x ∷ before) rest h e l =
    let s = reference_shape text c h in
    let whole : 38 ∷ ((s.inner ++ 59 ∷ []) ++ after) ≡ x ∷ (before ++ 38 ∷ rest) = ap (λ (u : List ℕ). u ++ after) (sym s.spelled) ∙ e in
    let tail : s.inner ++ 59 ∷ after ≡ before ++ 38 ∷ rest = sym (append_assoc s.inner (59 ∷ []) after)
    ∙ same_tails 38 x ((s.inner ++ 59 ∷ []) ++ after) (before ++ 38 ∷ rest) whole in
    let first = behind s.inner (59 ∷ after) before rest s.no_ampersand tail in
    behind (59 ∷ []) after first.0 rest (refl, tt) first.1

spelled_no_loose : (pieces : List ValuePiece) (value text before rest : List ℕ) → AreSpelled pieces value text → value ≡ before ++ 38 ∷ rest →
    BeginsLoose (38 ∷ rest) → ⊥
spelled_no_loose [] value text [] rest h e l = let k : [] ≡ 38 ∷ rest = sym h.0 ∙ e in cc
spelled_no_loose [] value text (x ∷ before) rest h e l = let k : [] ≡ x ∷ (before ++ 38 ∷ rest) = sym h.0 ∙ e in cc
spelled_no_loose (piece ∷ pieces) value text before rest h e l =
    let b = beyond piece h.0 before rest h.2 (sym h.3 ∙ e) l in
    spelled_no_loose pieces h.0 h.1 b.0 rest h.5 b.1 l

pub text_no_loose : (value text : List ℕ) → IsValueText value text → HasLoose value → ⊥
text_no_loose value text t l =
    let e : value ≡ l.before ++ 38 ∷ l.loose.rest = l.parts ∙ ap (λ (u : List ℕ). l.before ++ u) l.loose.ampersand in
    spelled_no_loose t.0 value text l.before l.loose.rest t.1 e (subst BeginsLoose l.loose.ampersand l.loose)

-- ---- the text of a UTF-8 value is UTF-8

space_utf8 : (text : List ℕ) → IsUtf8 text → IsUtf8 (32 ∷ text)
space_utf8 text u = IsUtf8-append (32 ∷ []) text (IsUtf8-from_ascii (32 ∷ []) (IsAscii-cons 32 [] (lit< tt) IsAscii-nil)) u

spelled_utf8 : (pieces : List ValuePiece) (run value text : List ℕ) → AreSpelled pieces value text → IsUtf8 (run ++ value) → IsUtf8 (run ++ text)
spelled_utf8 [] run value text h u = subst (λ (t : List ℕ). IsUtf8 (run ++ t)) (h.0 ∙ sym h.1) u
spelled_utf8 (plain b ∷ pieces) run value text h u =
    let moved = ap (λ (t : List ℕ). run ++ t) h.3 ∙ sym (append_assoc run (b ∷ []) h.0) in
    let done = spelled_utf8 pieces (run ++ b ∷ []) h.0 h.1 h.5 (subst IsUtf8 moved u) in
    subst IsUtf8 (append_assoc run (b ∷ []) h.1 ∙ ap (λ (t : List ℕ). run ++ t) (sym h.4)) done
spelled_utf8 (line_end ∷ pieces) run value text h u =
    let whole = subst (λ (t : List ℕ). IsUtf8 (run ++ t)) h.3 u in
    let after = text_after [] 10 h.0 (lit< tt) (text_after run 13 (10 ∷ h.0) (lit< tt) whole) in
    let rest = spelled_utf8 pieces [] h.0 h.1 h.5 after in
    subst (λ (t : List ℕ). IsUtf8 (run ++ t)) (sym h.4) (IsUtf8-append run (32 ∷ h.1) (text_before run 13 (10 ∷ h.0) (lit< tt) whole) (space_utf8 h.1 rest))
spelled_utf8 (blank b ∷ pieces) run value text h u =
    let whole = subst (λ (t : List ℕ). IsUtf8 (run ++ t)) h.3 u in
    let small : b < 128 = blank_small b h.0 h.2 in
    let rest = spelled_utf8 pieces [] h.0 h.1 h.5 (text_after run b h.0 small whole) in
    subst (λ (t : List ℕ). IsUtf8 (run ++ t)) (sym h.4) (IsUtf8-append run (32 ∷ h.1) (text_before run b h.0 small whole) (space_utf8 h.1 rest))
  where
    blank_small : (b : ℕ) (after : List ℕ) → IsPiece (blank b) after → b < 128
    blank_small b after (inl (inl e)) = rw e (lit< tt)
    blank_small b after (inl (inr e)) = rw e (lit< tt)
    blank_small b after (inr e) = rw e.0 (lit< tt)
spelled_utf8 (reference ref c ∷ pieces) run value text h u =
    let s = reference_shape ref c h.2 in
    let e : run ++ value ≡ run ++ 38 ∷ (s.inner ++ 59 ∷ h.0) = ap (λ (t : List ℕ). run ++ t)
    (h.3 ∙ ap (λ (t : List ℕ). t ++ h.0) s.spelled ∙ ap (λ (t : List ℕ). 38 ∷ t) (append_assoc s.inner (59 ∷ []) h.0)) in
    let whole = subst IsUtf8 e u in
    let after = text_after s.inner 59 h.0 (lit< tt) (text_after run 38 (s.inner ++ 59 ∷ h.0) (lit< tt) whole) in
    let rest = spelled_utf8 pieces [] h.0 h.1 h.5 after in
    subst (λ (t : List ℕ). IsUtf8 (run ++ t)) (sym h.4)
    (IsUtf8-append run (encode_utf8 c ++ h.1) (text_before run 38 (s.inner ++ 59 ∷ h.0) (lit< tt) whole)
    (IsUtf8-append (encode_utf8 c) h.1 (IsUtf8-encode c s.scalar) rest))

pub text_utf8 : (value text : List ℕ) → IsValueText value text → IsUtf8 value → IsUtf8 text
text_utf8 value text t u = spelled_utf8 t.0 [] value text t.1 u
