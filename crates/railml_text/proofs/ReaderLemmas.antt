-- Words, names, values, attributes and end tags.
use Rattle.std.proofs.Common.{◌≡◌, ◌⊎◌, ℕ, Bool, true, false, cond, ◌==◌, codes, List, [], ◌∷◌, ◌++◌, drop, Ok, Err, refl, sym, ap, ◌∙◌, subst, append_assoc}
use Rattle.std.proofs.Common.{inl, inr}
use Rattle.std.specs.Prelude.{⊤}
use Rattle.railml_text.specs.declared.miss.Miss.TheVariants.{Cut, Bad}
use Rattle.railml_text.specs.Bytes.{is_blank, begins_name, goes_on_name, is_in_value, AllOfClass, front, past}
use Rattle.railml_text.specs.Grammar.{AreBlanks, IsXmlName, Written, IsAttr, IsEndTag}
use Rattle.railml_text.specs.Reading.{Read, done, skip, by_first, nothing_at, word_at, ended, name_at, closed_value, value_at, quoted_at, written, last_of_two}
use Rattle.railml_text.specs.Reading.{first_of_two, equals_at, attr_at, end_tag_at}
use Rattle.railml_text.proofs.RunLemmas.{eq-same, same_if_eq, blank_no_name, front-past, front_passes, front_run, past_run, past_more, front_more, passes_all}
use Rattle.railml_text.proofs.LawLemmas.{Taken, GoesOn, Law, graph, Anything, done_rest, done_read, Law-spelled, TurnText, SomeText, SomeText-turn}
use Rattle.railml_text.proofs.LawLemmas.{Law-in_turn, NoBlankFirst, GapText, Law-gap, OtherFirst, AfterFirst, FirstText, Law-by_first, NoText, Law-nothing}

-- ---- words

abbrev pub IsWord : List ℕ → List ℕ → ⊤ → Type 0
IsWord word text x = text ≡ word

word_takes : (word bytes : List ℕ) (x : ⊤) (rest : List ℕ) → word_at word bytes ≡ Ok (x, rest) → bytes ≡ word ++ rest
word_takes [] bytes x rest e = done_rest tt x bytes rest e
word_takes (c ∷ word) [] x rest e = absurd cc
word_takes (c ∷ word) (b ∷ bytes) x rest e = choose (b == c) refl e (word_takes word bytes x rest)
  where
    choose : (v : Bool) → (b == c) ≡ v → cond {A = Read ⊤} v (word_at word bytes) (Err Bad) ≡ Ok (x, rest) →
        (word_at word bytes ≡ Ok (x, rest) → bytes ≡ word ++ rest) → b ∷ bytes ≡ c ∷ (word ++ rest)
    choose true p h ih = ap (λ (d : ℕ). d ∷ bytes) (same_if_eq b c p) ∙ ap (λ (u : List ℕ). c ∷ u) (ih h)
    choose false p h ih = absurd cc

pub word_again : (word rest : List ℕ) → word_at word (word ++ rest) ≡ Ok (tt, rest)
word_again [] rest = refl
word_again (c ∷ word) rest = rw (eq-same c) (word_again word rest)

word_bad : (word bytes after : List ℕ) → word_at word bytes ≡ Err Bad → word_at word (bytes ++ after) ≡ Err Bad
word_bad [] bytes after e = absurd cc
word_bad (c ∷ word) [] after e = absurd cc
word_bad (c ∷ word) (b ∷ bytes) after e = choose (b == c) e (word_bad word bytes after)
  where
    choose : (v : Bool) → cond {A = Read ⊤} v (word_at word bytes) (Err Bad) ≡ Err Bad →
        (word_at word bytes ≡ Err Bad → word_at word (bytes ++ after) ≡ Err Bad) → cond {A = Read ⊤} v (word_at word (bytes ++ after)) (Err Bad) ≡ Err Bad
    choose true h ih = ih h
    choose false h ih = refl

word_cut : (word bytes : List ℕ) → word_at word bytes ≡ Err Cut → GoesOn (graph (word_at word)) Anything bytes
word_cut [] bytes e = absurd cc
word_cut (c ∷ word) [] e = record { more = c ∷ word; read = tt; whole = λ tail f. word_again (c ∷ word) tail }
word_cut (c ∷ word) (b ∷ bytes) e = choose (b == c) refl e (word_cut word bytes)
  where
    choose : (v : Bool) → (b == c) ≡ v → cond {A = Read ⊤} v (word_at word bytes) (Err Bad) ≡ Err Cut →
        (word_at word bytes ≡ Err Cut → GoesOn (graph (word_at word)) Anything bytes) → GoesOn (graph (word_at (c ∷ word))) Anything (b ∷ bytes)
    choose true p h ih = let g = ih h in record { more = g.more; read = g.read; whole = λ tail f. rw p (g.whole tail f) }
    choose false p h ih = absurd cc

pub Law-word : (word : List ℕ) → Law (graph (word_at word)) (IsWord word) Anything
Law-word word = record {
  takes = λ bytes x rest e. record { text = word; is = refl; parts = word_takes word bytes x rest e };
  again = λ text x rest t f. ap (λ (u : List ℕ). word_at word (u ++ rest)) t ∙ word_again word rest;
  more = λ bytes x rest after e. ap (λ (u : List ℕ). word_at word (u ++ after)) (word_takes word bytes x rest e)
      ∙ ap (word_at word) (append_assoc word rest after) ∙ word_again word (rest ++ after);
  bad = word_bad word;
  cut = word_cut word;
  once = λ bytes r s e k. sym e ∙ k;
}

pub SomeText-word : (word : List ℕ) → SomeText (IsWord word)
SomeText-word word = record { text = word; read = tt; is = refl }

-- ---- names

-- a byte that is of no name comes first
pub record EndsName (rest : List ℕ) : Type 0 where
  pub head : ℕ
  pub tail : List ℕ
  pub no_name : goes_on_name head ≡ false
  pub parts : rest ≡ head ∷ tail

pub record IsNameText (text name : List ℕ) : Type 0 where
  pub same : text ≡ name
  pub named : IsXmlName name

pub name_again : (name rest : List ℕ) → IsXmlName name → EndsName rest → name_at (name ++ rest) ≡ Ok (name, rest)
name_again [] rest h e = absurd h
name_again (b ∷ name) rest h e =
    ap (λ (u : List ℕ). name_at ((b ∷ name) ++ u)) e.parts
    ∙ rw (h.0, front_run goes_on_name name e.head e.tail h.1 e.no_name, past_run goes_on_name name e.head e.tail h.1 e.no_name)
    (ap (λ (u : List ℕ). done (b ∷ name) u) (sym e.parts))

-- what was read where the first byte may begin a name
record IsWhole (b : ℕ) (bytes name rest : List ℕ) : Type 0 where
  head : ℕ
  tail : List ℕ
  begins : begins_name b ≡ true
  ends : past goes_on_name bytes ≡ head ∷ tail
  is_name : b ∷ front goes_on_name bytes ≡ name
  is_rest : head ∷ tail ≡ rest

name_whole : (b : ℕ) (bytes name rest : List ℕ) → name_at (b ∷ bytes) ≡ Ok (name, rest) → IsWhole b bytes name rest
name_whole b bytes name rest e = choose (begins_name b) refl (past goes_on_name bytes) refl e
  where
    choose : (v : Bool) → begins_name b ≡ v → (p : List ℕ) → past goes_on_name bytes ≡ p →
        cond {A = Read (List ℕ)} v (ended (b ∷ front goes_on_name bytes) p) (Err Bad) ≡ Ok (name, rest) → IsWhole b bytes name rest
    choose true h [] p k = absurd cc
    choose true h (c ∷ r) p k = record {
      head = c;
      tail = r;
      begins = h;
      ends = p;
      is_name = done_read (b ∷ front goes_on_name bytes) name (c ∷ r) rest k;
      is_rest = done_rest (b ∷ front goes_on_name bytes) name (c ∷ r) rest k;
    }
    choose false h p q k = absurd cc

name_takes : (bytes name rest : List ℕ) → name_at bytes ≡ Ok (name, rest) → Taken IsNameText bytes name rest
name_takes [] name rest e = absurd cc
name_takes (b ∷ bytes) name rest e =
    let w = name_whole b bytes name rest e in
    record {
      text = name;
      is = record { same = refl; named = subst IsXmlName w.is_name (w.begins, front_passes goes_on_name bytes) };
      parts = ap (λ (u : List ℕ). b ∷ u) (sym (front-past goes_on_name bytes)) ∙ ap (λ (u : List ℕ). b ∷ (front goes_on_name bytes ++ u)) (w.ends ∙ w.is_rest)
          ∙ ap (λ (u : List ℕ). u ++ rest) w.is_name;
    }

name_more : (bytes name rest after : List ℕ) → name_at bytes ≡ Ok (name, rest) → name_at (bytes ++ after) ≡ Ok (name, rest ++ after)
name_more [] name rest after e = absurd cc
name_more (b ∷ bytes) name rest after e =
    let w = name_whole b bytes name rest e in
    rw (w.begins, front_more goes_on_name bytes w.head w.tail after w.ends, past_more goes_on_name bytes w.head w.tail after w.ends)
    (ap (λ (u : List ℕ). done u (w.head ∷ (w.tail ++ after))) w.is_name ∙ ap (λ (u : List ℕ). done name (u ++ after)) w.is_rest)

name_bad : (bytes after : List ℕ) → name_at bytes ≡ Err Bad → name_at (bytes ++ after) ≡ Err Bad
name_bad [] after e = absurd cc
name_bad (b ∷ bytes) after e = choose (begins_name b) (past goes_on_name bytes) e
  where
    choose : (v : Bool) (p : List ℕ) → cond {A = Read (List ℕ)} v (ended (b ∷ front goes_on_name bytes) p) (Err Bad) ≡ Err Bad
        → cond {A = Read (List ℕ)} v (ended (b ∷ front goes_on_name (bytes ++ after)) (past goes_on_name (bytes ++ after))) (Err Bad) ≡ Err Bad
    choose true [] k = absurd cc
    choose true (c ∷ r) k = absurd cc
    choose false p k = refl

name_cut : (bytes : List ℕ) → name_at bytes ≡ Err Cut → GoesOn (graph name_at) EndsName bytes
name_cut [] e = record { more = 97 ∷ []; read = 97 ∷ []; whole = λ tail f. name_again (97 ∷ []) tail (refl, tt) f }
name_cut (b ∷ bytes) e = choose (begins_name b) refl (past goes_on_name bytes) refl e
  where
    choose : (v : Bool) → begins_name b ≡ v → (p : List ℕ) → past goes_on_name bytes ≡ p →
        cond {A = Read (List ℕ)} v (ended (b ∷ front goes_on_name bytes) p) (Err Bad) ≡ Err Cut → GoesOn (graph name_at) EndsName (b ∷ bytes)
    choose true h [] p k = record { more = []; read = b ∷ bytes; whole = λ tail f. name_again (b ∷ bytes) tail (h, passes_all goes_on_name bytes p) f }
    choose true h (c ∷ r) p k = absurd cc
    choose false h p q k = absurd cc

pub Law-name : Law (graph name_at) IsNameText EndsName
Law-name = record {
  takes = name_takes;
  again = λ text name rest t f. ap (λ (u : List ℕ). name_at (u ++ rest)) t.same ∙ name_again name rest t.named f;
  more = name_more;
  bad = name_bad;
  cut = name_cut;
  once = λ bytes r s e k. sym e ∙ k;
}

-- ---- values

pub record IsValueText (quote : ℕ) (text value : List ℕ) : Type 0 where
  pub within : AllOfClass (is_in_value quote) value
  pub parts : text ≡ value ++ quote ∷ []

quote_ends : (quote : ℕ) → is_in_value quote quote ≡ false
quote_ends quote = rw (eq-same quote) refl

value_again : (quote : ℕ) (value rest : List ℕ) → AllOfClass (is_in_value quote) value → value_at quote (value ++ quote ∷ rest) ≡ Ok (value, rest)
value_again quote value rest h =
    let p = is_in_value quote in
    rw (front_run p value quote rest h (quote_ends quote), past_run p value quote rest h (quote_ends quote), eq-same quote) refl

record IsClosed (quote : ℕ) (bytes value rest : List ℕ) : Type 0 where
  ends : past (is_in_value quote) bytes ≡ quote ∷ rest
  is_value : front (is_in_value quote) bytes ≡ value

value_closed : (quote : ℕ) (bytes value rest : List ℕ) → value_at quote bytes ≡ Ok (value, rest) → IsClosed quote bytes value rest
value_closed quote bytes value rest e = cases (past (is_in_value quote) bytes) refl e
  where
    cases : (p : List ℕ) → past (is_in_value quote) bytes ≡ p → closed_value quote (front (is_in_value quote) bytes) p ≡ Ok (value, rest) →
        IsClosed quote bytes value rest
    cases [] p k = absurd cc
    cases (c ∷ r) p k = choose (c == quote) refl k
      where
        choose : (v : Bool) → (c == quote) ≡ v → cond {A = Read (List ℕ)} v (Ok (front (is_in_value quote) bytes, r)) (Err Bad) ≡ Ok (value, rest) →
            IsClosed quote bytes value rest
        choose true h q = record {
          ends = p ∙ ap (λ (d : ℕ). d ∷ r) (same_if_eq c quote h) ∙ ap (λ (u : List ℕ). quote ∷ u) (done_rest (front (is_in_value quote) bytes) value r rest q);
          is_value = done_read (front (is_in_value quote) bytes) value r rest q;
        }
        choose false h q = absurd cc

value_takes : (quote : ℕ) (bytes value rest : List ℕ) → value_at quote bytes ≡ Ok (value, rest) → Taken (IsValueText quote) bytes value rest
value_takes quote bytes value rest e =
    let c = value_closed quote bytes value rest e in
    record {
      text = value ++ quote ∷ [];
      is = record { within = subst (AllOfClass (is_in_value quote)) c.is_value (front_passes (is_in_value quote) bytes); parts = refl };
      parts = sym (front-past (is_in_value quote) bytes) ∙ ap (λ (u : List ℕ). front (is_in_value quote) bytes ++ u) c.ends
          ∙ ap (λ (u : List ℕ). u ++ quote ∷ rest) c.is_value ∙ sym (append_assoc value (quote ∷ []) rest);
    }

value_bad : (quote : ℕ) (bytes after : List ℕ) → value_at quote bytes ≡ Err Bad → value_at quote (bytes ++ after) ≡ Err Bad
value_bad quote bytes after e = cases (past (is_in_value quote) bytes) refl e
  where
    cases : (p : List ℕ) → past (is_in_value quote) bytes ≡ p → closed_value quote (front (is_in_value quote) bytes) p ≡ Err Bad →
        value_at quote (bytes ++ after) ≡ Err Bad
    cases [] p k = absurd cc
    cases (c ∷ r) p k = rw (past_more (is_in_value quote) bytes c r after p) (choose (c == quote) k)
      where
        choose : (v : Bool) → cond {A = Read (List ℕ)} v (Ok (front (is_in_value quote) bytes, r)) (Err Bad) ≡ Err Bad
            → cond {A = Read (List ℕ)} v (Ok (front (is_in_value quote) (bytes ++ after), r ++ after)) (Err Bad) ≡ Err Bad
        choose true q = absurd cc
        choose false q = refl

value_cut : (quote : ℕ) (bytes : List ℕ) → value_at quote bytes ≡ Err Cut → GoesOn (graph (value_at quote)) Anything bytes
value_cut quote bytes e = cases (past (is_in_value quote) bytes) refl e
  where
    cases : (p : List ℕ) → past (is_in_value quote) bytes ≡ p → closed_value quote (front (is_in_value quote) bytes) p ≡ Err Cut →
        GoesOn (graph (value_at quote)) Anything bytes
    cases [] p k = record { more = quote ∷ []; read = bytes; whole = λ tail f. value_again quote bytes tail (passes_all (is_in_value quote) bytes p) }
    cases (c ∷ r) p k = choose (c == quote) k
      where
        choose : (v : Bool) → cond {A = Read (List ℕ)} v (Ok (front (is_in_value quote) bytes, r)) (Err Bad) ≡ Err Cut →
            GoesOn (graph (value_at quote)) Anything bytes
        choose true q = absurd cc
        choose false q = absurd cc

Law-value : (quote : ℕ) → Law (graph (value_at quote)) (IsValueText quote) Anything
Law-value quote = record {
  takes = value_takes quote;
  again = again;
  more = λ bytes value rest after e.
      let t = value_takes quote bytes value rest e in
      ap (λ (u : List ℕ). value_at quote (u ++ after)) t.parts ∙ ap (value_at quote) (append_assoc t.text rest after)
      ∙ again t.text value (rest ++ after) t.is tt;
  bad = value_bad quote;
  cut = value_cut quote;
  once = λ bytes r s e k. sym e ∙ k;
}
  where
    again : (text value rest : List ℕ) → IsValueText quote text value → Anything rest → value_at quote (text ++ rest) ≡ Ok (value, rest)
    again text value rest t f = ap (λ (u : List ℕ). value_at quote (u ++ rest)) t.parts ∙ ap (value_at quote) (append_assoc value (quote ∷ []) rest)
        ∙ value_again quote value rest t.within

pub record IsQuoted (text value : List ℕ) : Type 0 where
  pub quote : ℕ
  pub is_quote : (quote ≡ 34) ⊎ (quote ≡ 39)
  pub within : AllOfClass (is_in_value quote) value
  pub spelled : text ≡ quote ∷ (value ++ quote ∷ [])

quoted_says : (text value : List ℕ) → FirstText 34 (IsValueText 34) (FirstText 39 (IsValueText 39) NoText) text value → IsQuoted text value
quoted_says text value (inl t) = record { quote = 34; is_quote = inl refl; within = t.is.within; spelled = t.parts ∙ ap (λ (u : List ℕ). 34 ∷ u) t.is.parts }
quoted_says text value (inr (inl t)) = record {
  quote = 39;
  is_quote = inr refl;
  within = t.is.within;
  spelled = t.parts ∙ ap (λ (u : List ℕ). 39 ∷ u) t.is.parts;
}
quoted_says text value (inr (inr n)) = absurd n

quoted_said : (text value : List ℕ) → IsQuoted text value → FirstText 34 (IsValueText 34) (FirstText 39 (IsValueText 39) NoText) text value
quoted_said text value t = cases t.is_quote
  where
    of : (q : ℕ) → t.quote ≡ q → AfterFirst q (IsValueText q) text value
    of q e = record {
      thing = value ++ q ∷ [];
      is = record { within = subst (λ (k : ℕ). AllOfClass (is_in_value k) value) e t.within; parts = refl };
      parts = t.spelled ∙ ap (λ (k : ℕ). k ∷ (value ++ k ∷ [])) e;
    }

    cases : (t.quote ≡ 34) ⊎ (t.quote ≡ 39) → FirstText 34 (IsValueText 34) (FirstText 39 (IsValueText 39) NoText) text value
    cases (inl e) = inl (of 34 e)
    cases (inr e) = inr (inl (of 39 e))

some_value : (quote : ℕ) → SomeText (IsValueText quote)
some_value quote = record { text = quote ∷ []; read = []; is = record { within = tt; parts = refl } }

pub Law-quoted : Law (graph quoted_at) IsQuoted Anything
Law-quoted = Law-spelled (Law-by_first 34 (value_at 34) (by_first 39 (value_at 39) nothing_at) (Law-value 34)
    (Law-by_first 39 (value_at 39) nothing_at (Law-value 39) (Law-nothing Anything) (some_value 39) (λ text x n. absurd n)) (some_value 34) others) quoted_says
    quoted_said
  where
    others : (text value : List ℕ) → FirstText 39 (IsValueText 39) NoText text value → OtherFirst 34 text
    others text value (inl t) = record { head = 39; tail = t.thing; other = refl; parts = t.parts }
    others text value (inr n) = absurd n

pub SomeText-quoted : SomeText IsQuoted
SomeText-quoted = record { text = 34 ∷ 34 ∷ []; read = []; is = record { quote = 34; is_quote = inl refl; within = tt; spelled = refl } }

-- ---- after white space or none

abbrev pub SkipText : {X : Type 0} → (List ℕ → X → Type 0) → List ℕ → X → Type 0
SkipText Is text x = GapText (λ v. Is) text x

pub Law-skip : {X : Type 0} (f : List ℕ → Read X) {Is : List ℕ → X → Type 0} {F : List ℕ → Type 0} → Law (graph f) Is F → f [] ≡ Err Cut →
    ((text : List ℕ) (x : X) → Is text x → NoBlankFirst text)
    → Law (graph (skip f)) (SkipText Is) F
Law-skip f l none begins = Law-gap (λ v. f) (λ v. l) (λ v. none) (λ v. begins)

pub SomeText-skip : {X : Type 0} {Is : List ℕ → X → Type 0} → SomeText Is → SomeText (SkipText Is)
SomeText-skip s = record { text = s.text; read = s.read; is = record { blanks = []; thing = s.text; blank = tt; is = s.is; parts = refl } }

word_begins : (c : ℕ) (text : List ℕ) (x : ⊤) → is_blank c ≡ false → IsWord (c ∷ []) text x → NoBlankFirst text
word_begins c text x n t = record { head = c; tail = []; no_blank = n; parts = t }

quote_no_blank : (quote : ℕ) → (quote ≡ 34) ⊎ (quote ≡ 39) → is_blank quote ≡ false
quote_no_blank quote (inl e) = rw e refl
quote_no_blank quote (inr e) = rw e refl

quoted_begins : (text value : List ℕ) → IsQuoted text value → NoBlankFirst text
quoted_begins text value t = record { head = t.quote; tail = value ++ t.quote ∷ []; no_blank = quote_no_blank t.quote t.is_quote; parts = t.spelled }

-- white space or none and then a byte end a name where the byte does
pub blanks_end_name : (blanks : List ℕ) (c : ℕ) (rest : List ℕ) → AreBlanks blanks → goes_on_name c ≡ false → EndsName (blanks ++ c ∷ rest)
blanks_end_name [] c rest h n = record { head = c; tail = rest; no_name = n; parts = refl }
blanks_end_name (b ∷ blanks) c rest h n = record { head = b; tail = blanks ++ c ∷ rest; no_name = blank_no_name b h.0; parts = refl }

-- ---- attributes

abbrev EqualsText : List ℕ → List ℕ → Type 0
EqualsText = TurnText last_of_two (SkipText (IsWord (codes "="))) (SkipText IsQuoted)

Law-equals : Law (graph equals_at) EqualsText Anything
unfolding equals_at
Law-equals = Law-in_turn last_of_two (skip (word_at (codes "="))) (skip quoted_at)
    (Law-skip (word_at (codes "=")) (Law-word (codes "=")) refl (λ text x. word_begins 61 text x refl))
    (Law-skip quoted_at Law-quoted refl quoted_begins)
    (λ b y rest t g. tt)
    (SomeText-skip SomeText-quoted)

attr_parts : (text a b n e f v g h q : List ℕ) → text ≡ a ++ b → a ≡ n → b ≡ e ++ f → e ≡ g ++ codes "=" → f ≡ h ++ (q ++ (v ++ q)) →
    text ≡ n ++ g ++ codes "=" ++ h ++ q ++ v ++ q
attr_parts text a b n e f v g h q t u w x y = rw (t, u, w, x, y) (simp append_assoc)

attr_says : (text : List ℕ) (attr : Written) → TurnText written IsNameText EqualsText text attr → IsAttr text attr
attr_says text attr t =
    let s = t.is_b in
    let quoted = s.is_b.is in
    let same : written t.x s.y ≡ attr = ap (λ (v : List ℕ). written t.x v) (sym s.made) ∙ sym t.made in
    subst (IsAttr text) same (record {
      before = s.is_a.blanks;
      after = s.is_b.blanks;
      quote = quoted.quote;
      named = t.is_a.named;
      blank_before = s.is_a.blank;
      blank_after = s.is_b.blank;
      is_quote = quoted.is_quote;
      within = quoted.within;
      spelled = attr_parts text t.a t.b t.x s.a s.b s.y s.is_a.blanks s.is_b.blanks (quoted.quote ∷ []) t.parts t.is_a.same s.parts
          (s.is_a.parts ∙ ap (λ (u : List ℕ). s.is_a.blanks ++ u) s.is_a.is) (s.is_b.parts ∙ ap (λ (u : List ℕ). s.is_b.blanks ++ u) quoted.spelled);
    })

attr_said : (text : List ℕ) (attr : Written) → IsAttr text attr → TurnText written IsNameText EqualsText text attr
attr_said text attr i =
    let value = i.quote ∷ (attr.value ++ i.quote ∷ []) in
    record {
      a = attr.name;
      b = (i.before ++ codes "=") ++ (i.after ++ value);
      x = attr.name;
      y = attr.value;
      is_a = record { same = refl; named = i.named };
      is_b = record {
        a = i.before ++ codes "=";
        b = i.after ++ value;
        x = tt;
        y = attr.value;
        is_a = record { blanks = i.before; thing = codes "="; blank = i.blank_before; is = refl; parts = refl };
        is_b = record {
          blanks = i.after;
          thing = value;
          blank = i.blank_after;
          is = record {
            quote = i.quote;
            is_quote = i.is_quote;
            within = i.within;
            spelled = refl;
          };
          parts = refl;
        };
        parts = refl;
        made = refl;
      };
      parts = i.spelled ∙ simp append_assoc;
      made = refl;
    }

equals_ends_name : (b value rest : List ℕ) → EqualsText b value → EndsName (b ++ rest)
equals_ends_name b value rest t =
    let e : b ++ rest ≡ t.is_a.blanks ++ 61 ∷ (t.b ++ rest) = rw (t.parts, t.is_a.parts, t.is_a.is) (simp append_assoc) in
    subst EndsName (sym e) (blanks_end_name t.is_a.blanks 61 (t.b ++ rest) t.is_a.blank refl)

some_equals : SomeText EqualsText
some_equals = SomeText-turn last_of_two (SomeText-skip (SomeText-word (codes "="))) (SomeText-skip SomeText-quoted)

pub Law-attr : Law (graph attr_at) IsAttr Anything
unfolding attr_at
Law-attr = Law-spelled (Law-in_turn written name_at equals_at Law-name Law-equals (λ b value rest t g. equals_ends_name b value rest t) some_equals) attr_says
    attr_said

pub record BeginsName (text : List ℕ) : Type 0 where
  pub head : ℕ
  pub tail : List ℕ
  pub begins : begins_name head ≡ true
  pub parts : text ≡ head ∷ tail

pub name_begins : (name rest : List ℕ) → IsXmlName name → BeginsName (name ++ rest)
name_begins [] rest h = absurd h
name_begins (b ∷ name) rest h = record { head = b; tail = name ++ rest; begins = h.0; parts = refl }

pub attr_begins : (text : List ℕ) (attr : Written) → IsAttr text attr → BeginsName text
attr_begins text attr i =
    let e : text ≡ attr.name ++ (i.before ++ codes "=" ++ i.after ++ i.quote ∷ [] ++ attr.value ++ i.quote ∷ []) = i.spelled ∙ simp append_assoc in
    subst BeginsName (sym e) (name_begins attr.name (i.before ++ codes "=" ++ i.after ++ i.quote ∷ [] ++ attr.value ++ i.quote ∷ []) i.named)

-- ---- end tags, after `</`

abbrev pub AfterSlash : List ℕ → List ℕ → Type 0
AfterSlash text name = IsEndTag (60 ∷ 47 ∷ text) name

end_parts : (text a b n g h : List ℕ) → text ≡ a ++ b → a ≡ n → b ≡ g ++ h → h ≡ codes ">" → 60 ∷ 47 ∷ text ≡ codes "</" ++ n ++ g ++ codes ">"
end_parts text a b n g h t u w x = rw (t, u, w, x) (simp append_assoc)

end_says : (text name : List ℕ) → TurnText first_of_two IsNameText (SkipText (IsWord (codes ">"))) text name → AfterSlash text name
end_says text name t = subst (AfterSlash text) (sym t.made) (record {
  blanks = t.is_b.blanks;
  named = t.is_a.named;
  blank = t.is_b.blank;
  spelled = end_parts text t.a t.b t.x t.is_b.blanks t.is_b.thing t.parts t.is_a.same t.is_b.parts t.is_b.is;
})

end_said : (text name : List ℕ) → AfterSlash text name → TurnText first_of_two IsNameText (SkipText (IsWord (codes ">"))) text name
end_said text name i = record {
  a = name;
  b = i.blanks ++ codes ">";
  x = name;
  y = tt;
  is_a = record { same = refl; named = i.named };
  is_b = record { blanks = i.blanks; thing = codes ">"; blank = i.blank; is = refl; parts = refl };
  parts = ap (λ (u : List ℕ). drop 2 u) i.spelled ∙ append_assoc name i.blanks (codes ">");
  made = refl;
}

close_ends_name : (b : List ℕ) (x : ⊤) (rest : List ℕ) → SkipText (IsWord (codes ">")) b x → EndsName (b ++ rest)
close_ends_name b x rest t =
    let e : b ++ rest ≡ t.blanks ++ 62 ∷ rest = rw (t.parts, t.is) (simp append_assoc) in
    subst EndsName (sym e) (blanks_end_name t.blanks 62 rest t.blank refl)

pub Law-end_tag : Law (graph end_tag_at) AfterSlash Anything
unfolding end_tag_at
Law-end_tag = Law-spelled (Law-in_turn first_of_two name_at (skip (word_at (codes ">"))) Law-name
    (Law-skip (word_at (codes ">")) (Law-word (codes ">")) refl (λ text x. word_begins 62 text x refl))
    (λ b x rest t g. close_ends_name b x rest t) (SomeText-skip (SomeText-word (codes ">")))) end_says end_said
