-- The names and values of an item of UTF-8 bytes are UTF-8, and so is what follows it.
use Rattle.std.proofs.Common.{◌≡◌, ◌≢◌, ◌⊎◌, ℕ, ◌<◌, Bool, true, false, cond, codes, List, [], ◌∷◌, ◌++◌, length, refl, sym, ap, ◌∙◌, subst, append_assoc}
use Rattle.std.proofs.Common.{length-append, arith, inl, inr, lit<}
use Rattle.std.specs.Str.{IsUtf8}
use Rattle.std.proofs.lemmas.Bool.Decides.{nat_tests}
use Rattle.std.proofs.lemmas.Str.{IsUtf8-nil}
use Rattle.railml_text.specs.Bytes.{is_blank, is_in_text}
use Rattle.railml_text.specs.References.{IsReference}
use Rattle.railml_text.specs.Grammar.{AreBlanks, Written, IsAttr, AreAttrs, IsStartTag, IsEndTag}
use Rattle.railml_text.specs.Items.{Shape, declaration, instruction, comment, cdata, start_tag, end_tag, reference, chars, IsItem, IsLongest, HasItem}
use Rattle.railml_text.specs.Judging.{AreUtf8, IsUtf8Shape}
use Rattle.railml_text.proofs.ReferenceLemmas.{reference_shape}
use Rattle.railml_text.proofs.TextLemmas.{text_before, text_after, text_from}
use Rattle.railml_text.proofs.OneItem.{Sort, sort_of, IsMarkupShape, markup_first}

-- ---- white space

blank_ascii : (b : ℕ) → is_blank b ≡ true → b < 128
blank_ascii b e = grind (arith, nat_tests)

skip_blanks : (blanks rest : List ℕ) → AreBlanks blanks → IsUtf8 (blanks ++ rest) → IsUtf8 rest
skip_blanks [] rest h u = u
skip_blanks (b ∷ blanks) rest h u = skip_blanks blanks rest h.1 (text_after [] b (blanks ++ rest) (blank_ascii b h.0) u)

-- it begins with an ASCII character
record AsciiFirst (bytes : List ℕ) : Type 0 where
  head : ℕ
  tail : List ℕ
  small : head < 128
  parts : bytes ≡ head ∷ tail

blanks_first : (blanks : List ℕ) (c : ℕ) (rest : List ℕ) → AreBlanks blanks → c < 128 → AsciiFirst (blanks ++ c ∷ rest)
blanks_first [] c rest h lt = record { head = c; tail = rest; small = lt; parts = refl }
blanks_first (b ∷ blanks) c rest h lt = record { head = b; tail = blanks ++ c ∷ rest; small = blank_ascii b h.0; parts = refl }

-- what stands before such bytes, and they themselves
before_first : (name rest : List ℕ) → AsciiFirst rest → IsUtf8 (name ++ rest) → IsUtf8 name × IsUtf8 rest
before_first name rest f u =
    let whole = subst (λ (t : List ℕ). IsUtf8 (name ++ t)) f.parts u in
    (text_before name f.head f.tail f.small whole, subst IsUtf8 (sym f.parts) (text_from name f.head f.tail f.small whole))

-- ---- attributes

attr_text : (text name before after value quote rest : List ℕ) → text ≡ name ++ before ++ codes "=" ++ after ++ quote ++ value ++ quote →
    text ++ rest ≡ name ++ (before ++ 61 ∷ (after ++ (quote ++ (value ++ (quote ++ rest)))))
attr_text text name before after value quote rest e = rw e (simp append_assoc)

quote_ascii : (quote : ℕ) → (quote ≡ 34) ⊎ (quote ≡ 39) → quote < 128
quote_ascii quote (inl e) = rw e (lit< tt)
quote_ascii quote (inr e) = rw e (lit< tt)

attr_utf8 : (text : List ℕ) (attr : Written) (rest : List ℕ) → IsAttr text attr → IsUtf8 (text ++ rest) → IsUtf8 attr.name × IsUtf8 attr.value × IsUtf8 rest
attr_utf8 text attr rest i u =
    let q = quote_ascii i.quote i.is_quote in
    let tail = i.after ++ (i.quote ∷ (attr.value ++ (i.quote ∷ rest))) in
    let whole = subst IsUtf8 (attr_text text attr.name i.before i.after attr.value (i.quote ∷ []) rest i.spelled) u in
    let name = before_first attr.name (i.before ++ 61 ∷ tail) (blanks_first i.before 61 tail i.blank_before (lit< tt)) whole in
    let equals = skip_blanks i.before (61 ∷ tail) i.blank_before name.1 in
    let quoted = skip_blanks i.after (i.quote ∷ (attr.value ++ (i.quote ∷ rest))) i.blank_after (text_after [] 61 tail (lit< tt) equals) in
    let value = text_after [] i.quote (attr.value ++ (i.quote ∷ rest)) q quoted in
    (name.0, text_before attr.value i.quote rest q value, text_after attr.value i.quote rest q value)

attrs_text : (between gap one others rest : List ℕ) → between ≡ gap ++ one ++ others → between ++ rest ≡ gap ++ (one ++ (others ++ rest))
attrs_text between gap one others rest e = rw e (simp append_assoc)

attrs_utf8 : (attrs : List Written) (between rest : List ℕ) → AreAttrs between attrs → IsUtf8 (between ++ rest) → AreUtf8 attrs × IsUtf8 rest
attrs_utf8 [] between rest h u = (tt, subst (λ (t : List ℕ). IsUtf8 (t ++ rest)) h u)
attrs_utf8 (attr ∷ attrs) between rest h u =
    let whole = subst IsUtf8 (attrs_text between h.0 h.1 h.2 rest h.7) u in
    let one = attr_utf8 h.1 attr (h.2 ++ rest) h.5 (skip_blanks h.0 (h.1 ++ (h.2 ++ rest)) h.4 whole) in
    let others = attrs_utf8 attrs h.2 rest h.6 one.2 in
    (((one.0, one.1), others.0), others.1)

-- ---- tags

close_first : (empty : Bool) (rest : List ℕ) → (c : ℕ) × (tail : List ℕ) × (c < 128) × (cond empty (codes "/>") (codes ">") ++ rest ≡ c ∷ tail)
close_first true rest = (47, 62 ∷ rest, lit< tt, refl)
close_first false rest = (62, rest, lit< tt, refl)

tag_text : (text name between blanks close rest : List ℕ) → text ≡ codes "<" ++ name ++ between ++ blanks ++ close →
    text ++ rest ≡ 60 ∷ (name ++ (between ++ (blanks ++ (close ++ rest))))
tag_text text name between blanks close rest e = rw e (simp append_assoc)

-- what follows a start tag's name
after_name : (attrs : List Written) (between blanks : List ℕ) (empty : Bool) (rest : List ℕ) → AreAttrs between attrs → AreBlanks blanks →
    AsciiFirst (between ++ (blanks ++ (cond empty (codes "/>") (codes ">") ++ rest)))
after_name [] between blanks empty rest h b =
    let c = close_first empty rest in
    let e : blanks ++ c.0 ∷ c.1 ≡ between ++ (blanks ++ (cond empty (codes "/>") (codes ">") ++ rest)) = sym
    (ap (λ (t : List ℕ). t ++ (blanks ++ (cond empty (codes "/>") (codes ">") ++ rest))) h ∙ ap (λ (t : List ℕ). blanks ++ t) c.3) in
    subst AsciiFirst e (blanks_first blanks c.0 c.1 b c.2)
after_name (attr ∷ attrs) between blanks empty rest h b = gap h.0 h.3 h.4 refl
  where
    last : List ℕ
    last = blanks ++ (cond empty (codes "/>") (codes ">") ++ rest)

    gap : (g : List ℕ) → g ≢ [] → AreBlanks g → h.0 ≡ g → AsciiFirst (between ++ last)
    gap [] n k e = absurd (n refl)
    gap (c ∷ g) n k e = record {
      head = c;
      tail = g ++ (h.1 ++ (h.2 ++ last));
      small = blank_ascii c k.0;
      parts = attrs_text between h.0 h.1 h.2 last h.7
          ∙ ap (λ (t : List ℕ). t ++ (h.1 ++ (h.2 ++ last))) e;
    }

start_utf8 : (text name : List ℕ) (attrs : List Written) (empty : Bool) (rest : List ℕ) → IsStartTag text name attrs empty → IsUtf8 (text ++ rest) →
    IsUtf8 name × AreUtf8 attrs
start_utf8 text name attrs empty rest i u =
    let close = cond empty (codes "/>") (codes ">") in
    let last = i.blanks ++ (close ++ rest) in
    let whole = subst IsUtf8 (tag_text text name i.between i.blanks close rest i.spelled) u in
    let n = before_first name (i.between ++ last) (after_name attrs i.between i.blanks empty rest i.attributes i.blank)
    (text_after [] 60 (name ++ (i.between ++ last)) (lit< tt) whole) in
    (n.0, (attrs_utf8 attrs i.between last i.attributes n.1).0)

end_text : (text name blanks rest : List ℕ) → text ≡ codes "</" ++ name ++ blanks ++ codes ">" → text ++ rest ≡ 60 ∷ 47 ∷ (name ++ (blanks ++ 62 ∷ rest))
end_text text name blanks rest e = rw e (simp append_assoc)

end_utf8 : (text name rest : List ℕ) → IsEndTag text name → IsUtf8 (text ++ rest) → IsUtf8 name
end_utf8 text name rest i u =
    let whole = subst IsUtf8 (end_text text name i.blanks rest i.spelled) u in
    let tail = name ++ (i.blanks ++ 62 ∷ rest) in
    (before_first name (i.blanks ++ 62 ∷ rest) (blanks_first i.blanks 62 rest i.blank (lit< tt))
    (text_after [] 47 tail (lit< tt) (text_after [] 60 (47 ∷ tail) (lit< tt) whole))).0

pub parts_utf8 : (first : Bool) (rest : List ℕ) (shape : Shape) (after : List ℕ) → HasItem first rest shape after → IsUtf8 rest → IsUtf8Shape shape
parts_utf8 first rest (declaration attrs) after h u = tt
parts_utf8 first rest instruction after h u = tt
parts_utf8 first rest comment after h u = tt
parts_utf8 first rest cdata after h u = tt
parts_utf8 first rest (start_tag name attrs empty) after h u = start_utf8 h.text name attrs empty after h.is (subst IsUtf8 h.parts u)
parts_utf8 first rest (end_tag name) after h u = end_utf8 h.text name after h.is (subst IsUtf8 h.parts u)
parts_utf8 first rest reference after h u = tt
parts_utf8 first rest (chars blank) after h u = tt

-- ---- what follows an item

-- it ends with an ASCII character
record AsciiLast (text : List ℕ) : Type 0 where
  init : List ℕ
  last : ℕ
  small : last < 128
  parts : text ≡ init ++ last ∷ []

one_last : (text init : List ℕ) (c : ℕ) → c < 128 → text ≡ init ++ c ∷ [] → AsciiLast text
one_last text init c lt e = record { init = init; last = c; small = lt; parts = e }

two_last : (text init : List ℕ) (b c : ℕ) → c < 128 → text ≡ init ++ b ∷ c ∷ [] → AsciiLast text
two_last text init b c lt e = record { init = init ++ b ∷ []; last = c; small = lt; parts = e ∙ sym (append_assoc init (b ∷ []) (c ∷ [])) }

three_last : (text init : List ℕ) (a b c : ℕ) → c < 128 → text ≡ init ++ a ∷ b ∷ c ∷ [] → AsciiLast text
three_last text init a b c lt e = record { init = init ++ a ∷ b ∷ []; last = c; small = lt; parts = e ∙ sym (append_assoc init (a ∷ b ∷ []) (c ∷ [])) }

tag_last : (text init : List ℕ) (empty : Bool) → text ≡ init ++ cond empty (codes "/>") (codes ">") → AsciiLast text
tag_last text init true e = two_last text init 47 62 (lit< tt) e
tag_last text init false e = one_last text init 62 (lit< tt) e

item_last : (first : Bool) (text : List ℕ) (shape : Shape) → IsMarkupShape shape → IsItem first text shape → AsciiLast text
item_last first text (declaration attrs) m i = two_last text (codes "<?xml" ++ i.1.between ++ i.1.blanks) 63 62 (lit< tt) i.1.spelled
item_last first text instruction m i = two_last text (codes "<?" ++ i.0.inner) 63 62 (lit< tt)
    (i.0.spelled ∙ sym (append_assoc (codes "<?") i.0.inner (codes "?>")))
item_last first text comment m i = three_last text (codes "<!--" ++ i.inner) 45 45 62 (lit< tt)
    (i.spelled ∙ sym (append_assoc (codes "<!--") i.inner (codes "-->")))
item_last first text cdata m i = three_last text (codes "<![CDATA[" ++ i.inner) 93 93 62 (lit< tt)
    (i.spelled ∙ sym (append_assoc (codes "<![CDATA[") i.inner (codes "]]>")))
item_last first text (start_tag name attrs empty) m i = tag_last text (codes "<" ++ name ++ i.between ++ i.blanks) empty i.spelled
item_last first text (end_tag name) m i = one_last text (codes "</" ++ name ++ i.blanks) 62 (lit< tt) i.spelled
item_last first text reference m i = absurd m
item_last first text (chars blank) m i = absurd m

reference_last : (text : List ℕ) (c : ℕ) → IsReference text c → AsciiLast text
reference_last text c r = let s = reference_shape text c r in one_last text (38 ∷ s.inner) 59 (lit< tt) s.spelled

after_last : (rest text after : List ℕ) → AsciiLast text → rest ≡ text ++ after → IsUtf8 rest → IsUtf8 after
after_last rest text after l e u =
    let whole : rest ≡ l.init ++ l.last ∷ after = e ∙ ap (λ (t : List ℕ). t ++ after) l.parts ∙ append_assoc l.init (l.last ∷ []) after in
    text_after l.init l.last after l.small (subst IsUtf8 whole u)

not_text_ascii : (b : ℕ) → is_in_text b ≡ false → b < 128
not_text_ascii b e = grind (arith, nat_tests)

after_chars : (text after rest : List ℕ) (blank : Bool) → IsLongest (chars blank) after → rest ≡ text ++ after → IsUtf8 rest → IsUtf8 after
after_chars text [] rest blank l e u = IsUtf8-nil
after_chars text (b ∷ after) rest blank l e u = text_from text b after (not_text_ascii b l) (subst IsUtf8 e u)

pub after_utf8 : (first : Bool) (rest : List ℕ) (shape : Shape) (after : List ℕ) → HasItem first rest shape after → IsUtf8 rest → IsUtf8 after
after_utf8 first rest shape after h u = by_sort (sort_of shape)
  where
    by_sort : Sort shape → IsUtf8 after
    by_sort (inl m) = after_last rest h.text after (item_last first h.text shape m h.is) h.parts u
    by_sort (inr (inl r)) = let i = subst (λ (s : Shape). HasItem first rest s after) r h in after_last rest i.text after (reference_last i.text i.is.0 i.is.1)
        i.parts u
    by_sort (inr (inr c)) = let i = subst (λ (s : Shape). HasItem first rest s after) c.1 h in after_chars i.text after rest c.0 i.longest i.parts u

-- an item has a byte or more
pub item_some : (first : Bool) (rest : List ℕ) (shape : Shape) (after : List ℕ) → HasItem first rest shape after → length after < length rest
item_some first rest shape after h = by_sort (sort_of shape)
  where
    longer : (text : List ℕ) (b : ℕ) (tail : List ℕ) → text ≡ b ∷ tail → rest ≡ text ++ after → length after < length rest
    longer text b tail e p = omega (arith, ap length p, length-append text after, ap length e)

    some : (text : List ℕ) → text ≢ [] → rest ≡ text ++ after → length after < length rest
    some [] n p = absurd (n refl)
    some (b ∷ text) n p = longer (b ∷ text) b text refl p

    by_sort : Sort shape → length after < length rest
    by_sort (inl m) = let t = markup_first first h.text shape m h.is in longer h.text 60 t.0 t.1 h.parts
    by_sort (inr (inl r)) = let i = subst (λ (s : Shape). HasItem first rest s after) r h in let s = reference_shape i.text i.is.0 i.is.1 in longer i.text 38
        (s.inner ++ 59 ∷ []) s.spelled i.parts
    by_sort (inr (inr c)) = let i = subst (λ (s : Shape). HasItem first rest s after) c.1 h in some i.text i.is.0.some i.parts
