-- The rest of a tag after its name.
use Rattle.std.proofs.Common.{◌≡◌, ◌≢◌, ◌⊎◌, ℕ, ◌<◌, Bool, true, false, cond, codes, List, [], ◌∷◌, ◌++◌, length, Ok, Err, refl, sym, ap, ◌∙◌, subst}
use Rattle.std.proofs.Common.{append_assoc, length-append, arith, inl, inr}
use Rattle.railml_text.specs.declared.miss.Miss.TheVariants.{Cut, Bad}
use Rattle.railml_text.specs.declared.written.Closing.{Closing}
use Rattle.railml_text.specs.declared.written.Closing.TheVariants.{Tag, Declaration}
use Rattle.railml_text.specs.Bytes.{is_blank, begins_name}
use Rattle.railml_text.specs.Grammar.{AreBlanks, Written, IsAttr, AreAttrs}
use Rattle.railml_text.specs.Reading.{Read, done, by_first, nothing_at, word_at, attr_at, Step, attribute, ends, begins_blank, empty_closing_at, closing_at}
use Rattle.railml_text.specs.Reading.{spaced_attr_at, closing_step_at, spaced_step_at, step_at, Attrs, Tail}
use Rattle.railml_text.proofs.RunLemmas.{name_no_blank}
use Rattle.railml_text.proofs.LawLemmas.{Taken, GoesOn, Law, graph, Anything, done_rest, done_read, Law-spelled, MappedText, Law-mapped, SomeText}
use Rattle.railml_text.proofs.LawLemmas.{NoBlankFirst, GapText, Law-gap, OtherFirst, FirstText, Law-by_first, ClassFirst, EitherText, Law-by_class, NoText}
use Rattle.railml_text.proofs.LawLemmas.{Law-nothing, Law-done}
use Rattle.railml_text.proofs.ReaderLemmas.{IsWord, Law-word, Law-attr, attr_begins}

-- ---- closings

abbrev pub IsClosing : Closing → List ℕ → Bool → Type 0
IsClosing Tag text empty = text ≡ cond empty (codes "/>") (codes ">")
IsClosing Declaration text empty = (text ≡ codes "?>") × (empty ≡ false)

abbrev TagClosing : List ℕ → Bool → Type 0
TagClosing = FirstText 62 (λ text empty. (text ≡ []) × (empty ≡ false)) (FirstText 47 (MappedText (λ _. true) (IsWord (codes ">"))) NoText)

tag_says : (text : List ℕ) (empty : Bool) → TagClosing text empty → IsClosing Tag text empty
tag_says text empty (inl t) = rw (t.is.1, t.parts, t.is.0) refl
tag_says text empty (inr (inl t)) = rw (t.is.made, t.parts, t.is.is) refl
tag_says text empty (inr (inr n)) = absurd n

tag_said : (text : List ℕ) (empty : Bool) → IsClosing Tag text empty → TagClosing text empty
tag_said text true e = inr (inl (record { thing = codes ">"; is = record { read = tt; is = refl; made = refl }; parts = e }))
tag_said text false e = inl (record { thing = []; is = (refl, refl); parts = e })

declaration_says : (text : List ℕ) (empty : Bool) → MappedText (λ _. false) (IsWord (codes "?>")) text empty → IsClosing Declaration text empty
declaration_says text empty t = (t.is, t.made)

declaration_said : (text : List ℕ) (empty : Bool) → IsClosing Declaration text empty → MappedText (λ _. false) (IsWord (codes "?>")) text empty
declaration_said text empty c = record { read = tt; is = c.0; made = c.1 }

Law-closing : (closing : Closing) → Law (graph (closing_at closing)) (IsClosing closing) Anything
Law-closing Tag = Law-spelled (Law-by_first 62 (done false) (by_first 47 empty_closing_at nothing_at) (Law-done false)
    (Law-by_first 47 empty_closing_at nothing_at (Law-mapped (λ _. true) (word_at (codes ">")) (Law-word (codes ">"))) (Law-nothing Anything)
    (record { text = codes ">"; read = true; is = record { read = tt; is = refl; made = refl } }) (λ text x n. absurd n))
    (record { text = []; read = false; is = (refl, refl) }) others) tag_says tag_said
  where
    others : (text : List ℕ) (empty : Bool) → FirstText 47 (MappedText (λ _. true) (IsWord (codes ">"))) NoText text empty → OtherFirst 62 text
    others text empty (inl t) = record { head = 47; tail = t.thing; other = refl; parts = t.parts }
    others text empty (inr n) = absurd n
Law-closing Declaration = Law-spelled (Law-mapped (λ _. false) (word_at (codes "?>")) (Law-word (codes "?>"))) declaration_says declaration_said

pub some_closing : (closing : Closing) → SomeText (IsClosing closing)
some_closing Tag = record { text = codes ">"; read = false; is = refl }
some_closing Declaration = record { text = codes "?>"; read = false; is = (refl, refl) }

-- a closing begins with a byte that is no white space and of no name
pub record ClosesFirst (text : List ℕ) : Type 0 where
  pub head : ℕ
  pub tail : List ℕ
  pub which : (head ≡ 62) ⊎ (head ≡ 47) ⊎ (head ≡ 63)
  pub parts : text ≡ head ∷ tail

pub closing_begins : (closing : Closing) (text : List ℕ) (empty : Bool) → IsClosing closing text empty → ClosesFirst text
closing_begins Tag text true e = record { head = 47; tail = codes ">"; which = inr (inl refl); parts = e }
closing_begins Tag text false e = record { head = 62; tail = []; which = inl refl; parts = e }
closing_begins Declaration text empty c = record { head = 63; tail = codes ">"; which = inr (inr refl); parts = c.0 }

closes_no_name : (b : ℕ) → (b ≡ 62) ⊎ (b ≡ 47) ⊎ (b ≡ 63) → begins_name b ≡ false
closes_no_name b (inl e) = rw e refl
closes_no_name b (inr (inl e)) = rw e refl
closes_no_name b (inr (inr e)) = rw e refl

closes_no_blank : (b : ℕ) → (b ≡ 62) ⊎ (b ≡ 47) ⊎ (b ≡ 63) → is_blank b ≡ false
closes_no_blank b (inl e) = rw e refl
closes_no_blank b (inr (inl e)) = rw e refl
closes_no_blank b (inr (inr e)) = rw e refl

-- ---- steps

abbrev pub IsStep : Closing → Bool → List ℕ → Step → Type 0
IsStep closing spaced text (attribute attr) = (spaced ≡ true) × IsAttr text attr
IsStep closing spaced text (ends empty) = IsClosing closing text empty

abbrev SpacedAttr : Bool → List ℕ → Step → Type 0
SpacedAttr true text step = MappedText attribute IsAttr text step
SpacedAttr false text step = ⊥

Law-spaced_attr : (spaced : Bool) → Law (graph (spaced_attr_at spaced)) (SpacedAttr spaced) Anything
Law-spaced_attr true = Law-mapped attribute attr_at Law-attr
Law-spaced_attr false = Law-nothing Anything

step_says : (closing : Closing) (spaced : Bool) (text : List ℕ) (step : Step) → EitherText (SpacedAttr spaced) (MappedText ends (IsClosing closing)) text step →
    IsStep closing spaced text step
step_says closing true text step (inl t) = subst (IsStep closing true text) (sym t.made) (refl, t.is)
step_says closing false text step (inl t) = absurd t
step_says closing spaced text step (inr t) = subst (IsStep closing spaced text) (sym t.made) t.is

step_said : (closing : Closing) (spaced : Bool) (text : List ℕ) (step : Step) → IsStep closing spaced text step →
    EitherText (SpacedAttr spaced) (MappedText ends (IsClosing closing)) text step
step_said closing true text (attribute attr) t = inl (record { read = attr; is = t.1; made = refl })
step_said closing false text (attribute attr) t = let k : false ≡ true = t.0 in absurd cc
step_said closing spaced text (ends empty) t = inr (record { read = empty; is = t; made = refl })

attr_first : (spaced : Bool) (text : List ℕ) (step : Step) → SpacedAttr spaced text step → ClassFirst begins_name true text
attr_first true text step t = let b = attr_begins text t.read t.is in record { head = b.head; tail = b.tail; is = b.begins; parts = b.parts }
attr_first false text step t = absurd t

closing_first : (closing : Closing) (text : List ℕ) (step : Step) → MappedText ends (IsClosing closing) text step → ClassFirst begins_name false text
closing_first closing text step t = let c = closing_begins closing text t.read t.is in record {
  head = c.head;
  tail = c.tail;
  is = closes_no_name c.head c.which;
  parts = c.parts;
}

some_step : (closing : Closing) → SomeText (MappedText ends (IsClosing closing))
some_step closing = let c = some_closing closing in record { text = c.text; read = ends c.read; is = record { read = c.read; is = c.is; made = refl } }

Law-spaced_step : (closing : Closing) (spaced : Bool) → Law (graph (spaced_step_at closing spaced)) (IsStep closing spaced) Anything
Law-spaced_step closing spaced = Law-spelled (Law-by_class begins_name (spaced_attr_at spaced) (closing_step_at closing) (Law-spaced_attr spaced)
    (Law-mapped ends (closing_at closing) (Law-closing closing))
    (some_step closing) (attr_first spaced) (closing_first closing)) (step_says closing spaced) (step_said closing spaced)

step_begins : (closing : Closing) (spaced : Bool) (text : List ℕ) (step : Step) → IsStep closing spaced text step → NoBlankFirst text
step_begins closing spaced text (attribute attr) t = let b = attr_begins text attr t.1 in record {
  head = b.head;
  tail = b.tail;
  no_blank = name_no_blank b.head b.begins;
  parts = b.parts;
}
step_begins closing spaced text (ends empty) t = let c = closing_begins closing text empty t in record {
  head = c.head;
  tail = c.tail;
  no_blank = closes_no_blank c.head c.which;
  parts = c.parts;
}

abbrev pub StepText : Closing → List ℕ → Step → Type 0
StepText closing text step = GapText (IsStep closing) text step

pub Law-step : (closing : Closing) → Law (graph (step_at closing)) (StepText closing) Anything
unfolding step_at
Law-step closing = Law-gap (spaced_step_at closing) (λ v. Law-spaced_step closing v) (λ v. refl) (step_begins closing)

-- ---- attributes

pub record TakesAttrs (attrs : List Written) (bytes rest : List ℕ) : Type 0 where
  pub between : List ℕ
  pub attributes : AreAttrs between attrs
  pub parts : bytes ≡ between ++ rest

begun_blank : (blanks : List ℕ) → begins_blank blanks ≡ true → blanks ≢ []
begun_blank [] e = absurd cc
begun_blank (b ∷ blanks) e = λ h. cc

begins_blanks : (blanks : List ℕ) → blanks ≢ [] → AreBlanks blanks → begins_blank blanks ≡ true
begins_blanks [] n h = absurd (n refl)
begins_blanks (b ∷ blanks) n h = h.0

pub attrs_taken : (closing : Closing) (attrs : List Written) (bytes rest : List ℕ) → Attrs closing attrs bytes rest → TakesAttrs attrs bytes rest
attrs_taken closing [] bytes rest h = record { between = []; attributes = refl; parts = h }
attrs_taken closing (attr ∷ attrs) bytes rest h =
    let s = (Law-step closing).takes bytes (attribute attr) h.0 h.1 in
    let t = attrs_taken closing attrs h.0 rest h.2 in
    record {
      between = s.is.blanks ++ s.is.thing ++ t.between;
      attributes = (s.is.blanks, s.is.thing, t.between, begun_blank s.is.blanks s.is.is.0, s.is.blank, s.is.is.1, t.attributes, refl);
      parts = s.parts ∙ ap (λ (u : List ℕ). u ++ h.0) s.is.parts ∙ ap (λ (u : List ℕ). (s.is.blanks ++ s.is.thing) ++ u) t.parts
          ∙ sym (append_assoc (s.is.blanks ++ s.is.thing) t.between rest);
    }

attrs_again : (closing : Closing) (attrs : List Written) (between tail : List ℕ) → AreAttrs between attrs → Attrs closing attrs (between ++ tail) tail
attrs_again closing [] between tail h = ap (λ (u : List ℕ). u ++ tail) h
attrs_again closing (attr ∷ attrs) between tail h =
    let e : between ++ tail ≡ (h.0 ++ h.1) ++ (h.2 ++ tail) = ap (λ (u : List ℕ). u ++ tail) h.7 ∙ append_assoc (h.0 ++ h.1) h.2 tail in
    let s = (Law-step closing).again (h.0 ++ h.1) (attribute attr) (h.2 ++ tail) (record {
      blanks = h.0;
      thing = h.1;
      blank = h.4;
      is = (begins_blanks h.0 h.3 h.4, h.5);
      parts = refl;
    }) tt in
    (h.2 ++ tail, ap (step_at closing) e ∙ s, attrs_again closing attrs h.2 tail h.6)

pub attrs_more : (closing : Closing) (attrs : List Written) (bytes rest after : List ℕ) → Attrs closing attrs bytes rest →
    Attrs closing attrs (bytes ++ after) (rest ++ after)
attrs_more closing [] bytes rest after h = ap (λ (u : List ℕ). u ++ after) h
attrs_more closing (attr ∷ attrs) bytes rest after h = (
  h.0 ++ after,
  (Law-step closing).more bytes (attribute attr) h.0 after h.1,
  attrs_more closing attrs h.0
      rest after h.2,
)

-- one more attribute
pub Attrs-push : (closing : Closing) (attrs : List Written) (attr : Written) (bytes last rest : List ℕ) → Attrs closing attrs bytes last →
    step_at closing last ≡ Ok (attribute attr, rest) → Attrs closing (attrs ++ attr ∷ []) bytes rest
Attrs-push closing [] attr bytes last rest h e = (rest, ap (step_at closing) h ∙ e, refl)
Attrs-push closing (one ∷ attrs) attr bytes last rest h e = (h.0, h.1, Attrs-push closing attrs attr h.0 last rest h.2 e)

pub step_shorter : (closing : Closing) (attr : Written) (bytes rest : List ℕ) → step_at closing bytes ≡ Ok (attribute attr, rest) → length rest < length bytes
step_shorter closing attr bytes rest e =
    let s = (Law-step closing).takes bytes (attribute attr) rest e in
    let b = attr_begins s.is.thing attr s.is.is.1 in
    omega (arith, ap length s.parts, length-append s.text rest, ap length s.is.parts, length-append s.is.blanks s.is.thing, ap length b.parts)

-- ---- the whole rest

pub record TailText (closing : Closing) (text : List ℕ) (tail : List Written × Bool) : Type 0 where
  pub between : List ℕ
  pub blanks : List ℕ
  pub close : List ℕ
  pub attributes : AreAttrs between tail.0
  pub blank : AreBlanks blanks
  pub closes : IsClosing closing close tail.1
  pub parts : text ≡ between ++ (blanks ++ close)

-- a step that ends the attributes
abbrev EndsAttrs : Step → Type 0
EndsAttrs (attribute attr) = ⊥
EndsAttrs (ends empty) = Unit {0}

abbrev NoAttribute : Read Step → Type 0
NoAttribute (Err miss) = Unit {0}
NoAttribute (Ok x) = EndsAttrs x.0

attrs_once : (closing : Closing) (attrs others : List Written) (bytes mid last : List ℕ) → Attrs closing attrs bytes mid → Attrs closing others bytes last →
    NoAttribute (step_at closing mid) → NoAttribute (step_at closing last)
    → (attrs ≡ others) × (mid ≡ last)
attrs_once closing [] [] bytes mid last h k m n = (refl, sym h ∙ k)
attrs_once closing [] (b ∷ others) bytes mid last h k m n = absurd (subst NoAttribute (ap (step_at closing) (sym h) ∙ k.1) m)
attrs_once closing (a ∷ attrs) [] bytes mid last h k m n = absurd (subst NoAttribute (ap (step_at closing) (sym k) ∙ h.1) n)
attrs_once closing (a ∷ attrs) (b ∷ others) bytes mid last h k m n =
    let both : done (attribute a) h.0 ≡ done (attribute b) k.0 = sym h.1 ∙ k.1 in
    let rest : h.0 ≡ k.0 = done_rest (attribute a) (attribute b) h.0 k.0 both in
    let read : attribute a ≡ attribute b = done_read (attribute a) (attribute b) h.0 k.0 both in
    let same : a ≡ b = ap (λ (s : Step). attr_of s) read in
    let more = attrs_once closing attrs others h.0 mid last h.2 (subst (λ (t : List ℕ). Attrs closing others t last) (sym rest) k.2) m n in
    (ap (λ (x : Written). x ∷ attrs) same ∙ ap (λ (xs : List Written). b ∷ xs) more.0, more.1)
  where
    attr_of : Step → Written
    attr_of (attribute x) = x
    attr_of (ends empty) = a

-- what the attributes and the step after them make
abbrev finished : List Written → Step → List ℕ → Read (List Written × Bool)
finished attrs (attribute attr) rest = Err Bad
finished attrs (ends empty) rest = Ok ((attrs, empty), rest)

abbrev finish : List Written → Read Step → Read (List Written × Bool)
finish attrs (Ok x) = finished attrs x.0 x.1
finish attrs (Err miss) = Err miss

-- how the rest of a tag was read
record Ended (closing : Closing) (bytes : List ℕ) (r : Read (List Written × Bool)) : Type 0 where
  attrs : List Written
  last : List ℕ
  reading : Attrs closing attrs bytes last
  over : NoAttribute (step_at closing last)
  made : r ≡ finish attrs (step_at closing last)

tail_ended : (closing : Closing) (bytes : List ℕ) (r : Read (List Written × Bool)) → Tail closing bytes r → Ended closing bytes r
tail_ended closing bytes (Ok x) t = record {
  attrs = x.0.0;
  last = t.0;
  reading = t.1;
  over = subst NoAttribute (sym t.2) tt;
  made = ap (finish x.0.0) (sym t.2);
}
tail_ended closing bytes (Err miss) t = record {
  attrs = t.0;
  last = t.1;
  reading = t.2;
  over = subst NoAttribute (sym t.3) tt;
  made = ap (finish t.0) (sym t.3);
}

tail_once : (closing : Closing) (bytes : List ℕ) (r s : Read (List Written × Bool)) → Tail closing bytes r → Tail closing bytes s → r ≡ s
tail_once closing bytes r s t u =
    let a = tail_ended closing bytes r t in
    let b = tail_ended closing bytes s u in
    let o = attrs_once closing a.attrs b.attrs bytes a.last b.last a.reading b.reading a.over b.over in
    a.made ∙ ap (λ (x : List Written). finish x (step_at closing a.last)) o.0 ∙ ap (λ (l : List ℕ). finish b.attrs (step_at closing l)) o.1 ∙ sym b.made

tail_takes : (closing : Closing) (bytes : List ℕ) (x : List Written × Bool) (rest : List ℕ) → Tail closing bytes (Ok (x, rest)) →
    Taken (TailText closing) bytes x rest
tail_takes closing bytes x rest t =
    let a = attrs_taken closing x.0 bytes t.0 t.1 in
    let c = (Law-step closing).takes t.0 (ends x.1) rest t.2 in
    record {
      text = a.between ++ (c.is.blanks ++ c.is.thing);
      is = record {
        between = a.between;
        blanks = c.is.blanks;
        close = c.is.thing;
        attributes = a.attributes;
        blank = c.is.blank;
        closes = c.is.is;
        parts = refl;
      };
      parts = a.parts ∙ ap (λ (u : List ℕ). a.between ++ u) (c.parts ∙ ap (λ (u : List ℕ). u ++ rest) c.is.parts)
          ∙ sym (append_assoc a.between (c.is.blanks ++ c.is.thing) rest);
    }

close_again : (closing : Closing) (blanks close : List ℕ) (empty : Bool) (rest : List ℕ) → AreBlanks blanks → IsClosing closing close empty →
    step_at closing ((blanks ++ close) ++ rest) ≡ Ok (ends empty, rest)
close_again closing blanks close empty rest h c = (Law-step closing).again (blanks ++ close) (ends empty) rest (record {
  blanks = blanks;
  thing = close;
  blank = h;
  is = c;
  parts = refl;
}) tt

tail_again : (closing : Closing) (text : List ℕ) (x : List Written × Bool) (rest : List ℕ) → TailText closing text x → Anything rest →
    Tail closing (text ++ rest) (Ok (x, rest))
tail_again closing text x rest t f =
    let last = (t.blanks ++ t.close) ++ rest in
    let e : t.between ++ last ≡ text ++ rest = sym (ap (λ (u : List ℕ). u ++ rest) t.parts ∙ append_assoc t.between (t.blanks ++ t.close) rest) in (
      last,
      subst (λ (u : List ℕ). Attrs closing x.0 u last) e (attrs_again closing x.0 t.between last t.attributes),
      close_again closing t.blanks t.close x.1
          rest t.blank t.closes,
    )

tail_cut : (closing : Closing) (bytes : List ℕ) → Tail closing bytes (Err Cut) → GoesOn (Tail closing) Anything bytes
tail_cut closing bytes t = cases g.read g.whole
  where
    g : GoesOn (graph (step_at closing)) Anything t.1
    g = (Law-step closing).cut t.1 t.3

    cases : (step : Step) → ((tail : List ℕ) → Anything tail → step_at closing (t.1 ++ (g.more ++ tail)) ≡ Ok (step, tail)) →
        GoesOn (Tail closing) Anything bytes
    cases (ends empty) whole = record {
      more = g.more;
      read = (t.0, empty);
      whole = λ tail f. (t.1 ++ (g.more ++ tail), attrs_more closing t.0 bytes t.1 (g.more ++ tail) t.2, whole tail f);
    }
    cases (attribute attr) whole =
        let c = some_closing closing in
        record {
          more = g.more ++ c.text;
          read = (t.0 ++ attr ∷ [], c.read);
          whole = λ tail f.
              let more = g.more ++ (c.text ++ tail) in
              let e : bytes ++ more ≡ bytes ++ ((g.more ++ c.text) ++ tail) = ap (λ (u : List ℕ). bytes ++ u) (sym (append_assoc g.more c.text tail)) in (
                c.text ++ tail,
                subst (λ (u : List ℕ). Attrs closing (t.0 ++ attr ∷ []) u (c.text ++ tail)) e
                    (Attrs-push closing t.0 attr (bytes ++ more) (t.1 ++ more) (c.text ++ tail) (attrs_more closing t.0 bytes t.1 more t.2)
                    (whole (c.text ++ tail) tt)),
                close_again closing [] c.text c.read tail tt c.is,
              );
        }

pub Law-tail : (closing : Closing) → Law (Tail closing) (TailText closing) Anything
Law-tail closing = record {
  takes = tail_takes closing;
  again = tail_again closing;
  more = λ bytes x rest after t. (t.0 ++ after, attrs_more closing x.0 bytes t.0 after t.1, (Law-step closing).more t.0 (ends x.1) rest after t.2);
  bad = λ bytes after t. (t.0, t.1 ++ after, attrs_more closing t.0 bytes t.1 after t.2, (Law-step closing).bad t.1 after t.3);
  cut = tail_cut closing;
  once = tail_once closing;
}

pub some_tail : (closing : Closing) → SomeText (TailText closing)
some_tail closing = let c = some_closing closing in record {
  text = c.text;
  read = ([], c.read);
  is = record { between = []; blanks = []; close = c.text; attributes = refl; blank = tt; closes = c.is; parts = refl };
}
