-- Up to the first closing.
use Rattle.std.proofs.Common.{◌≡◌, ℕ, ◌≤◌, Bool, true, false, cond, ◌==◌, Option, Some, None, List, [], ◌∷◌, ◌++◌, length, drop, Ok, Err, refl, sym, ap, ◌∙◌}
use Rattle.std.proofs.Common.{append_assoc, length-append, arith}
use Rattle.std.specs.Prelude.{⊤}
use Rattle.std.specs.List.{AllByRecursion}
use Rattle.std.proofs.lemmas.List.{drop_at}
use Rattle.std.proofs.lemmas.Bool.{both_ways, and_parts, false_from_ne_true}
use Rattle.railml_text.specs.declared.miss.Miss.TheVariants.{Cut, Bad}
use Rattle.railml_text.specs.Reading.{begins_with, past_first, cut_unless, bracket_at}
use Rattle.railml_text.proofs.RunLemmas.{eq-same, same_if_eq}
use Rattle.railml_text.proofs.LawLemmas.{Taken, Law, graph, Anything, done_rest}

-- ---- what bytes begin with

pub begins-append : (word rest : List ℕ) → begins_with word (word ++ rest) ≡ true
begins-append [] rest = refl
begins-append (c ∷ word) rest = rw (eq-same c, begins-append word rest) refl

pub begins_parts : (word bytes : List ℕ) → begins_with word bytes ≡ true → bytes ≡ word ++ drop (length word) bytes
begins_parts [] bytes e = refl
begins_parts (c ∷ word) [] e = absurd cc
begins_parts (c ∷ word) (b ∷ bytes) e =
    let a = and_parts (b == c) (begins_with word bytes) e in
    ap (λ (x : ℕ). x ∷ bytes) (same_if_eq b c a.0) ∙ ap (λ (t : List ℕ). c ∷ t) (begins_parts word bytes a.1)

-- bytes that are long enough tell by themselves
begins_within : (word bytes more : List ℕ) → length word ≤ length bytes → begins_with word (bytes ++ more) ≡ true → begins_with word bytes ≡ true
begins_within [] bytes more l e = refl
begins_within (c ∷ word) [] more l e = absurd (omega arith)
begins_within (c ∷ word) (b ∷ bytes) more l e = let a = and_parts (b == c) (begins_with word (bytes ++ more)) e in rw
    (a.0, begins_within word bytes more (omega arith) a.1) refl

-- the byte isn't in the word
abbrev pub Lacks : ℕ → List ℕ → Type 0
Lacks x word = AllByRecursion (λ c. (x == c) ≡ false) word

begins_before : (x : ℕ) (word bytes more : List ℕ) → Lacks x word → begins_with word (bytes ++ x ∷ more) ≡ true → begins_with word bytes ≡ true
begins_before x [] bytes more l e = refl
begins_before x (c ∷ word) [] more l e = absurd (both_ways (x == c) l.0 (and_parts (x == c) (begins_with word more) e).0)
begins_before x (c ∷ word) (b ∷ bytes) more l e = let a = and_parts (b == c) (begins_with word (bytes ++ x ∷ more)) e in rw
    (a.0, begins_before x word bytes more l.1 a.1) refl

-- ---- up to the first

pub record UpToFirst (closing text : List ℕ) (x : ⊤) : Type 0 where
  pub inner : List ℕ
  pub parts : text ≡ inner ++ closing
  pub first : (before after : List ℕ) → inner ++ closing ≡ before ++ (closing ++ after) → after ≡ []

no_more : (list : List ℕ) → length list ≡ 0 → list ≡ []
no_more [] e = refl
no_more (b ∷ list) e = absurd (omega arith)

at_front : (k : ℕ) (c rest : List ℕ) → past_first (k ∷ c) ((k ∷ c) ++ rest) ≡ Some rest
at_front k c rest = rw (begins-append (k ∷ c) rest, drop_at (k ∷ c) rest (length (k ∷ c)) refl) refl

only_last : (closing before after : List ℕ) → closing ≡ before ++ (closing ++ after) → after ≡ []
only_last closing before after e = no_more after (omega (arith, ap length e, length-append before (closing ++ after), length-append closing after))

bracket_takes : (k : ℕ) (c bytes : List ℕ) (x : ⊤) (rest : List ℕ) → past_first (k ∷ c) bytes ≡ Some rest → Taken (UpToFirst (k ∷ c)) bytes x rest
bracket_takes k c [] x rest e = absurd cc
bracket_takes k c (b ∷ bytes) x rest e = choose (begins_with (k ∷ c) (b ∷ bytes)) refl e (bracket_takes k c bytes x rest)
  where
    choose : (v : Bool) → begins_with (k ∷ c) (b ∷ bytes) ≡ v → cond {A = Option (List ℕ)} v (Some (drop (length (k ∷ c)) (b ∷ bytes)))
        (past_first (k ∷ c) bytes) ≡ Some rest
        → (past_first (k ∷ c) bytes ≡ Some rest → Taken (UpToFirst (k ∷ c)) bytes x rest) → Taken (UpToFirst (k ∷ c)) (b ∷ bytes) x rest
    choose true p h ih =
        let r : drop (length (k ∷ c)) (b ∷ bytes) ≡ rest = cc in
        record {
          text = k ∷ c;
          is = record { inner = []; parts = refl; first = only_last (k ∷ c) };
          parts = begins_parts (k ∷ c) (b ∷ bytes) p ∙ ap (λ (u : List ℕ). (k ∷ c) ++ u) r;
        }
    choose false p h ih =
        let t = ih h in
        let whole : b ∷ bytes ≡ (b ∷ (t.is.inner ++ k ∷ c)) ++ rest = ap (λ (u : List ℕ). b ∷ u) (t.parts ∙ ap (λ (u : List ℕ). u ++ rest) t.is.parts) in
        record {
          text = b ∷ (t.is.inner ++ k ∷ c);
          is = record { inner = b ∷ t.is.inner; parts = refl; first = first t whole };
          parts = whole;
        }
      where
        first : (t : Taken (UpToFirst (k ∷ c)) bytes x rest) → b ∷ bytes ≡ (b ∷ (t.is.inner ++ k ∷ c)) ++ rest → (before after : List ℕ) →
            b ∷ (t.is.inner ++ k ∷ c) ≡ before ++ ((k ∷ c) ++ after) → after ≡ []
        first t whole [] after q =
            let e : b ∷ bytes ≡ (k ∷ c) ++ (after ++ rest) = whole ∙ ap (λ (u : List ℕ). u ++ rest) q ∙ append_assoc (k ∷ c) after rest in
            absurd (both_ways (begins_with (k ∷ c) (b ∷ bytes)) p (ap (begins_with (k ∷ c)) e ∙ begins-append (k ∷ c) (after ++ rest)))
        first t whole (z ∷ before) after q = t.is.first before after (ap (λ (u : List ℕ). drop 1 u) q)

bracket_again : (k : ℕ) (c inner rest : List ℕ) → ((before after : List ℕ) → inner ++ k ∷ c ≡ before ++ ((k ∷ c) ++ after) → after ≡ []) →
    past_first (k ∷ c) ((inner ++ k ∷ c) ++ rest) ≡ Some rest
bracket_again k c [] rest first = at_front k c rest
bracket_again k c (b ∷ inner) rest first =
    rw (false_from_ne_true (begins_with (k ∷ c) (b ∷ ((inner ++ k ∷ c) ++ rest))) earlier)
    (bracket_again k c inner rest (λ before after e. first (b ∷ before) after (ap (λ (u : List ℕ). b ∷ u) e)))
  where
    earlier : begins_with (k ∷ c) (b ∷ ((inner ++ k ∷ c) ++ rest)) ≡ true → ⊥
    earlier h =
        let own = begins_within (k ∷ c) (b ∷ (inner ++ k ∷ c)) rest (omega (arith, length-append inner (k ∷ c))) h in
        let p = begins_parts (k ∷ c) (b ∷ (inner ++ k ∷ c)) own in
        let e = first [] (drop (length (k ∷ c)) (b ∷ (inner ++ k ∷ c))) p in
        omega (arith, ap length p, ap length e, length-append (k ∷ c) (drop (length (k ∷ c)) (b ∷ (inner ++ k ∷ c))), length-append inner (k ∷ c))

-- with a byte that isn't in the closing, and then the closing, there is one
bracket_cut : (x k : ℕ) (c bytes tail : List ℕ) → Lacks x (k ∷ c) → past_first (k ∷ c) bytes ≡ None →
    past_first (k ∷ c) (bytes ++ (x ∷ ((k ∷ c) ++ tail))) ≡ Some tail
bracket_cut x k c [] tail l e = rw l.0 (at_front k c tail)
bracket_cut x k c (b ∷ bytes) tail l e = choose (begins_with (k ∷ c) (b ∷ bytes)) refl e (bracket_cut x k c bytes tail l)
  where
    more : List ℕ
    more = (k ∷ c) ++ tail

    choose : (v : Bool) → begins_with (k ∷ c) (b ∷ bytes) ≡ v → cond {A = Option (List ℕ)} v (Some (drop (length (k ∷ c)) (b ∷ bytes)))
        (past_first (k ∷ c) bytes) ≡ None
        → (past_first (k ∷ c) bytes ≡ None → past_first (k ∷ c) (bytes ++ (x ∷ ((k ∷ c) ++ tail))) ≡ Some tail) →
        past_first (k ∷ c) (b ∷ (bytes ++ (x ∷ ((k ∷ c) ++ tail)))) ≡ Some tail
    choose true p h ih = absurd cc
    choose false p h ih =
        let later : begins_with (k ∷ c) (b ∷ (bytes ++ (x ∷ ((k ∷ c) ++ tail)))) ≡ false =
        false_from_ne_true (begins_with (k ∷ c) (b ∷ (bytes ++ (x ∷ ((k ∷ c) ++ tail)))))
        (λ y. both_ways (begins_with (k ∷ c) (b ∷ bytes)) p (begins_before x (k ∷ c) (b ∷ bytes) ((k ∷ c) ++ tail) l y)) in
        rw later (ih h)

unless_ok : (o : Option (List ℕ)) (x : ⊤) (rest : List ℕ) → cut_unless o ≡ Ok (x, rest) → o ≡ Some rest
unless_ok None x rest e = absurd cc
unless_ok (Some tail) x rest e = ap (λ (u : List ℕ). Some u) (done_rest tt x tail rest e)

unless_cut : (o : Option (List ℕ)) → cut_unless o ≡ Err Cut → o ≡ None
unless_cut None e = refl
unless_cut (Some tail) e = absurd cc

unless_bad : (o : Option (List ℕ)) → cut_unless o ≡ Err Bad → ⊥
unless_bad None e = cc
unless_bad (Some tail) e = cc

pub bracket_not_bad : (closing bytes : List ℕ) → bracket_at closing bytes ≡ Err Bad → ⊥
bracket_not_bad closing bytes e = unless_bad (past_first closing bytes) e

pub bracket_completed : (x k : ℕ) (c bytes tail : List ℕ) → Lacks x (k ∷ c) → bracket_at (k ∷ c) bytes ≡ Err Cut →
    bracket_at (k ∷ c) (bytes ++ ((x ∷ k ∷ c) ++ tail)) ≡ Ok (tt, tail)
bracket_completed x k c bytes tail l e = ap cut_unless (bracket_cut x k c bytes tail l (unless_cut (past_first (k ∷ c) bytes) e))

-- the byte is one that completes a closing, whatever stands before
pub Law-bracket : (x k : ℕ) (c : List ℕ) → Lacks x (k ∷ c) → Law (graph (bracket_at (k ∷ c))) (UpToFirst (k ∷ c)) Anything
Law-bracket x k c l = record {
  takes = λ bytes v rest e. bracket_takes k c bytes v rest (unless_ok (past_first (k ∷ c) bytes) v rest e);
  again = again;
  more = λ bytes v rest after e.
      let t = bracket_takes k c bytes v rest (unless_ok (past_first (k ∷ c) bytes) v rest e) in
      ap (λ (u : List ℕ). bracket_at (k ∷ c) (u ++ after)) t.parts ∙ ap (bracket_at (k ∷ c)) (append_assoc t.text rest after)
      ∙ again t.text v (rest ++ after) t.is tt;
  bad = λ bytes after e. absurd (unless_bad (past_first (k ∷ c) bytes) e);
  cut = λ bytes e. record { more = x ∷ k ∷ c; read = tt; whole = λ tail f. bracket_completed x k c bytes tail l e };
  once = λ bytes r s e h. sym e ∙ h;
}
  where
    again : (text : List ℕ) (v : ⊤) (rest : List ℕ) → UpToFirst (k ∷ c) text v → Anything rest → bracket_at (k ∷ c) (text ++ rest) ≡ Ok (v, rest)
    again text v rest t f = ap (λ (u : List ℕ). bracket_at (k ∷ c) (u ++ rest)) t.parts ∙ ap cut_unless (bracket_again k c t.inner rest t.first)
