-- What begins at a place: at most one item.
use Rattle.std.proofs.Common.{◌≡◌, ◌≢◌, ◌⊎◌, ℕ, Bool, true, false, cond, codes, List, [], ◌∷◌, ◌++◌, Ok, Err, refl, sym, ap, ◌∙◌, subst, arith, inl, inr}
use Rattle.std.specs.Prelude.{⊤}
use Rattle.std.specs.List.{list_all}
use Rattle.std.proofs.lemmas.List.{append-nil}
use Rattle.std.proofs.lemmas.Bool.{both_ways}
use Rattle.plan_core.proofs.ListFacts.{same_heads, same_tails}
use Rattle.railml_text.specs.declared.miss.Miss.{Miss}
use Rattle.railml_text.specs.declared.miss.Miss.TheVariants.{Cut, Bad}
use Rattle.railml_text.specs.Bytes.{is_blank, is_in_text, AllOfClass, BeginsWith, front, past}
use Rattle.railml_text.specs.Items.{Shape, declaration, instruction, comment, cdata, start_tag, end_tag, reference, chars, IsItem, IsLongest, HasItem}
use Rattle.railml_text.specs.Items.{HasNoItem, IsFront}
use Rattle.railml_text.specs.Reading.{done, Found, item, doctype, MarkupRead}
use Rattle.railml_text.proofs.LawLemmas.{Taken, GoesOn, Law, Anything, done_rest, done_read, Law-spelled}
use Rattle.railml_text.proofs.ReferenceLemmas.{reference_first, one_reference}
use Rattle.railml_text.proofs.MarkupLemmas.{Law-markup}
use Rattle.railml_text.proofs.ItemLemmas.{IsFound, says, said}

pub Law-found : (first : Bool) → Law (MarkupRead first) (IsFound first) Anything
Law-found first = Law-spelled (Law-markup first) (says first) (said first)

-- ---- the first byte tells the sort of item

abbrev pub IsMarkupShape : Shape → Type 0
IsMarkupShape reference = ⊥
IsMarkupShape (chars blank) = ⊥
IsMarkupShape shape = ⊤

abbrev pub Sort : Shape → Type 0
Sort shape = IsMarkupShape shape ⊎ (shape ≡ reference) ⊎ ((blank : Bool) × (shape ≡ chars blank))

pub sort_of : (shape : Shape) → Sort shape
sort_of (declaration attrs) = inl tt
sort_of instruction = inl tt
sort_of comment = inl tt
sort_of cdata = inl tt
sort_of (start_tag name attrs empty) = inl tt
sort_of (end_tag name) = inl tt
sort_of reference = inr (inl refl)
sort_of (chars blank) = inr (inr (blank, refl))

pub markup_first : (first : Bool) (text : List ℕ) (shape : Shape) → IsMarkupShape shape → IsItem first text shape → (tail : List ℕ) × (text ≡ 60 ∷ tail)
markup_first first text (declaration attrs) m i = (codes "?xml" ++ i.1.between ++ i.1.blanks ++ codes "?>", i.1.spelled)
markup_first first text instruction m i = (63 ∷ (i.0.inner ++ codes "?>"), i.0.spelled)
markup_first first text comment m i = (codes "!--" ++ (i.inner ++ codes "-->"), i.spelled)
markup_first first text cdata m i = (codes "![CDATA[" ++ (i.inner ++ codes "]]>"), i.spelled)
markup_first first text (start_tag name attrs empty) m i = (name ++ i.between ++ i.blanks ++ cond empty (codes "/>") (codes ">"), i.spelled)
markup_first first text (end_tag name) m i = (47 ∷ name ++ i.blanks ++ codes ">", i.spelled)
markup_first first text reference m i = absurd m
markup_first first text (chars blank) m i = absurd m

-- ---- after `<`

-- an item that begins so is read
pub item_read : (first : Bool) (bytes : List ℕ) (shape : Shape) (after : List ℕ) → HasItem first (60 ∷ bytes) shape after →
    MarkupRead first bytes (Ok (item shape, after))
item_read first bytes shape after h = cases h.text h.is h.parts
  where
    cases : (text : List ℕ) → IsItem first text shape → 60 ∷ bytes ≡ text ++ after → MarkupRead first bytes (Ok (item shape, after))
    cases [] i e = absurd (none (sort_of shape))
      where
        none : Sort shape → ⊥
        none (inl m) = let t = markup_first first [] shape m i in let k : [] ≡ 60 ∷ t.0 = t.1 in cc
        none (inr (inl r)) = let k = subst (IsItem first []) r i in let t = reference_first [] k.0 k.1 in let q : [] ≡ 38 ∷ t.0 = t.1 in cc
        none (inr (inr c)) = let k = subst (IsItem first []) c.1 i in k.0.some refl
    cases (b ∷ text) i e =
        let same : 60 ≡ b = same_heads 60 b bytes (text ++ after) e in
        let rest : bytes ≡ text ++ after = same_tails 60 b bytes (text ++ after) e in
        let found : IsFound first text (item shape) = subst (λ (c : ℕ). IsItem first (c ∷ text) shape) (sym same) i in
        subst (λ (u : List ℕ). MarkupRead first u (Ok (item shape, after))) (sym rest) ((Law-found first).again text (item shape) after found tt)

longest : (first : Bool) (text : List ℕ) (shape : Shape) (after : List ℕ) → IsItem first (60 ∷ text) shape → IsLongest shape after
longest first text (declaration attrs) after i = tt
longest first text instruction after i = tt
longest first text comment after i = tt
longest first text cdata after i = tt
longest first text (start_tag name attrs empty) after i = tt
longest first text (end_tag name) after i = tt
longest first text reference after i = tt
longest first text (chars blank) after i = let k : false ≡ true = i.0.within.0 in absurd cc

-- what is read is an item
pub read_item : (first : Bool) (bytes : List ℕ) (shape : Shape) (after : List ℕ) → MarkupRead first bytes (Ok (item shape, after)) →
    HasItem first (60 ∷ bytes) shape after
read_item first bytes shape after h =
    let t = (Law-found first).takes bytes (item shape) after h in
    record { text = 60 ∷ t.text; is = t.is; longest = longest first t.text shape after t.is; parts = ap (λ (u : List ℕ). 60 ∷ u) t.parts }

pub doctype_read : (first : Bool) (bytes : List ℕ) → BeginsWith (60 ∷ bytes) (codes "<!DOCTYPE") →
    (after : List ℕ) × MarkupRead first bytes (Ok (doctype, after))
doctype_read first bytes b =
    let rest : bytes ≡ codes "!DOCTYPE" ++ b.0 = same_tails 60 60 bytes (codes "!DOCTYPE" ++ b.0) b.1 in
    (b.0, subst (λ (u : List ℕ). MarkupRead first u (Ok (doctype, b.0))) (sym rest) ((Law-found first).again (codes "!DOCTYPE") doctype b.0 refl tt))

pub read_doctype : (first : Bool) (bytes after : List ℕ) → MarkupRead first bytes (Ok (doctype, after)) → BeginsWith (60 ∷ bytes) (codes "<!DOCTYPE")
read_doctype first bytes after h =
    let t = (Law-found first).takes bytes doctype after h in
    (after, ap (λ (u : List ℕ). 60 ∷ u) t.parts ∙ ap (λ (u : List ℕ). u ++ after) t.is)

abbrev shape_or : Shape → Found → Shape
shape_or other (item shape) = shape
shape_or other doctype = other

item_same : (shape other : Shape) → item shape ≡ item other → shape ≡ other
item_same shape other e = ap (λ (f : Found). shape_or shape f) e

once : (first : Bool) (bytes : List ℕ) (found other : Found) (after last : List ℕ) → MarkupRead first bytes (Ok (found, after)) →
    MarkupRead first bytes (Ok (other, last)) → (found ≡ other) × (after ≡ last)
once first bytes found other after last h k =
    let e : done found after ≡ done other last = (Law-found first).once bytes (Ok (found, after)) (Ok (other, last)) h k in
    (done_read found other after last e, done_rest found other after last e)

never_both : (first : Bool) (bytes : List ℕ) (found : Found) (after : List ℕ) (miss : Miss) → MarkupRead first bytes (Ok (found, after)) →
    MarkupRead first bytes (Err miss) → ⊥
never_both first bytes found after miss h k = let e = (Law-found first).once bytes (Ok (found, after)) (Err miss) h k in cc

item_no_doctype : (shape : Shape) → item shape ≡ doctype → ⊥
item_no_doctype shape e = cc

-- an item and a document type declaration never begin at one place
pub no_doctype : (first : Bool) (rest : List ℕ) (shape : Shape) (after : List ℕ) → HasItem first rest shape after → BeginsWith rest (codes "<!DOCTYPE") → ⊥
no_doctype first rest shape after h b =
    let e : rest ≡ 60 ∷ (codes "!DOCTYPE" ++ b.0) = b.1 in
    let bytes = codes "!DOCTYPE" ++ b.0 in
    let d = doctype_read first bytes (b.0, refl) in
    let i = item_read first bytes shape after (subst (λ (u : List ℕ). HasItem first u shape after) e h) in
    item_no_doctype shape (once first bytes (item shape) doctype after d.0 i d.1).0

-- ---- the two misses

pub miss_no_item : (first : Bool) (bytes : List ℕ) (miss : Miss) → MarkupRead first bytes (Err miss) → HasNoItem first (60 ∷ bytes)
miss_no_item first bytes miss h shape after i = never_both first bytes (item shape) after miss (item_read first bytes shape after i) h

pub miss_no_doctype : (first : Bool) (bytes : List ℕ) (miss : Miss) → MarkupRead first bytes (Err miss) → BeginsWith (60 ∷ bytes) (codes "<!DOCTYPE") → ⊥
miss_no_doctype first bytes miss h b = let d = doctype_read first bytes b in never_both first bytes doctype d.0 miss d.1 h

-- what was cut is a proper front of an item or of a document type declaration
pub cut_front : (first : Bool) (bytes : List ℕ) → MarkupRead first bytes (Err Cut) → IsFront first (60 ∷ bytes)
cut_front first bytes h = cases g.read t.is
  where
    g : GoesOn (MarkupRead first) Anything bytes
    g = (Law-found first).cut bytes h

    whole : MarkupRead first (bytes ++ (g.more ++ [])) (Ok (g.read, []))
    whole = g.whole [] tt

    t : Taken (IsFound first) (bytes ++ (g.more ++ [])) g.read []
    t = (Law-found first).takes (bytes ++ (g.more ++ [])) g.read [] whole

    -- the text that was read
    parts : t.text ≡ bytes ++ g.more
    parts = sym (append-nil t.text) ∙ sym t.parts ∙ ap (λ (u : List ℕ). bytes ++ u) (append-nil g.more)

    some : g.more ≢ []
    some e =
        let same : bytes ++ (g.more ++ []) ≡ bytes = ap (λ (u : List ℕ). bytes ++ (u ++ [])) e ∙ append-nil bytes in
        never_both first bytes g.read [] Cut (subst (λ (u : List ℕ). MarkupRead first u (Ok (g.read, []))) same whole) h

    cases : (found : Found) → IsFound first t.text found → IsFront first (60 ∷ bytes)
    cases (item shape) i = inl (record {
      text = 60 ∷ t.text;
      shape = shape;
      is = i;
      front = record { more = g.more; some = some; parts = ap (λ (u : List ℕ). 60 ∷ u) parts };
    })
    cases doctype i = inr (record { more = g.more; some = some; parts = sym i ∙ ap (λ (u : List ℕ). 60 ∷ u) parts })

-- what is bad is no front of either
bad_no_text : (first : Bool) (bytes more : List ℕ) (found : Found) → MarkupRead first bytes (Err Bad) → IsFound first (bytes ++ more) found → ⊥
bad_no_text first bytes more found h i =
    let read = (Law-found first).again (bytes ++ more) found [] i tt in
    never_both first (bytes ++ more) found [] Bad (subst (λ (u : List ℕ). MarkupRead first u (Ok (found, []))) (append-nil (bytes ++ more)) read)
    ((Law-found first).bad bytes more h)

pub bad_no_front : (first : Bool) (bytes : List ℕ) → MarkupRead first bytes (Err Bad) → IsFront first (60 ∷ bytes) → ⊥
bad_no_front first bytes h (inl f) = bad_no_text first bytes f.front.more (item f.shape) h (subst (λ (u : List ℕ). IsItem first u f.shape) f.front.parts f.is)
bad_no_front first bytes h (inr f) = bad_no_text first bytes f.more doctype h (sym f.parts)

-- ---- one item

text_front : (text after : List ℕ) (blank : Bool) → AllOfClass is_in_text text → IsLongest (chars blank) after →
    (front is_in_text (text ++ after) ≡ text) × (past is_in_text (text ++ after) ≡ after)
text_front [] [] blank h e = (refl, refl)
text_front [] (c ∷ after) blank h e = (rw e refl, rw e refl)
text_front (b ∷ text) after blank h e = let k = text_front text after blank h.1 e in (rw h.0 (ap (λ (t : List ℕ). b ∷ t) k.0), rw h.0 k.1)

-- the rest begins with this byte
abbrev pub Heads : ℕ → List ℕ → Type 0
Heads b rest = (tail : List ℕ) × (rest ≡ b ∷ tail)

pub heads_differ : (b c : ℕ) (rest : List ℕ) → Heads b rest → Heads c rest → b ≡ c
heads_differ b c rest h k = same_heads b c h.0 k.0 (sym h.1 ∙ k.1)

pub markup_heads : (first : Bool) (rest : List ℕ) (shape : Shape) (after : List ℕ) → IsMarkupShape shape → HasItem first rest shape after → Heads 60 rest
markup_heads first rest shape after m h = let t = markup_first first h.text shape m h.is in (t.0 ++ after, h.parts ∙ ap (λ (u : List ℕ). u ++ after) t.1)

pub reference_heads : (first : Bool) (rest after : List ℕ) → HasItem first rest reference after → Heads 38 rest
reference_heads first rest after h = let t = reference_first h.text h.is.0 h.is.1 in (t.0 ++ after, h.parts ∙ ap (λ (u : List ℕ). u ++ after) t.1)

pub chars_heads : (first : Bool) (rest after : List ℕ) (blank : Bool) → HasItem first rest (chars blank) after → (b : ℕ) × Heads b rest × (is_in_text b ≡ true)
chars_heads first rest after blank h = cases h.text h.is.0.some h.is.0.within h.parts
  where
    cases : (text : List ℕ) → text ≢ [] → AllOfClass is_in_text text → rest ≡ text ++ after → (b : ℕ) × Heads b rest × (is_in_text b ≡ true)
    cases [] n p e = absurd (n refl)
    cases (b ∷ text) n p e = (b, (text ++ after, e), p.0)

pub not_in_text : (first : Bool) (rest after : List ℕ) (blank : Bool) (c : ℕ) → is_in_text c ≡ false → HasItem first rest (chars blank) after → Heads c rest → ⊥
not_in_text first rest after blank c n h k =
    let t = chars_heads first rest after blank h in
    let same : t.0 ≡ c = heads_differ t.0 c rest t.1 k in
    both_ways (is_in_text c) n (ap is_in_text (sym same) ∙ t.2)

one_sort : (first : Bool) (rest : List ℕ) (s t : Shape) (a b : List ℕ) → HasItem first rest s a → HasItem first rest t b → Sort s → Sort t → (s ≡ t) × (a ≡ b)
one_sort first rest s t a b h k (inl m) (inl n) =
    let e = markup_heads first rest s a m h in
    let i = item_read first e.0 s a (subst (λ (u : List ℕ). HasItem first u s a) e.1 h) in
    let j = item_read first e.0 t b (subst (λ (u : List ℕ). HasItem first u t b) e.1 k) in
    let o = once first e.0 (item s) (item t) a b i j in
    (item_same s t o.0, o.1)
one_sort first rest s t a b h k (inl m) (inr (inl r)) = let q = heads_differ 60 38 rest (markup_heads first rest s a m h)
    (reference_heads first rest b (subst (λ (u : Shape). HasItem first rest u b) r k)) in absurd (omega (arith, q))
one_sort first rest s t a b h k (inl m) (inr (inr c)) = absurd (not_in_text first rest b c.0 60 refl (subst (λ (u : Shape). HasItem first rest u b) c.1 k)
    (markup_heads first rest s a m h))
one_sort first rest s t a b h k (inr (inl r)) (inl n) = let q = heads_differ 60 38 rest (markup_heads first rest t b n k)
    (reference_heads first rest a (subst (λ (u : Shape). HasItem first rest u a) r h)) in absurd (omega (arith, q))
one_sort first rest s t a b h k (inr (inl r)) (inr (inl p)) =
    let i = subst (λ (u : Shape). HasItem first rest u a) r h in
    let j = subst (λ (u : Shape). HasItem first rest u b) p k in
    (r ∙ sym p, (one_reference i.text j.text i.is.0 j.is.0 a b i.is.1 j.is.1 (sym i.parts ∙ j.parts)).1)
one_sort first rest s t a b h k (inr (inl r)) (inr (inr c)) = absurd (not_in_text first rest b c.0 38 refl (subst (λ (u : Shape). HasItem first rest u b) c.1 k)
    (reference_heads first rest a (subst (λ (u : Shape). HasItem first rest u a) r h)))
one_sort first rest s t a b h k (inr (inr c)) (inl n) = absurd (not_in_text first rest a c.0 60 refl (subst (λ (u : Shape). HasItem first rest u a) c.1 h)
    (markup_heads first rest t b n k))
one_sort first rest s t a b h k (inr (inr c)) (inr (inl p)) = absurd (not_in_text first rest a c.0 38 refl (subst (λ (u : Shape). HasItem first rest u a) c.1 h)
    (reference_heads first rest b (subst (λ (u : Shape). HasItem first rest u b) p k)))
one_sort first rest s t a b h k (inr (inr c)) (inr (inr d)) =
    let i = subst (λ (u : Shape). HasItem first rest u a) c.1 h in
    let j = subst (λ (u : Shape). HasItem first rest u b) d.1 k in
    let f = text_front i.text a c.0 i.is.0.within i.longest in
    let g = text_front j.text b d.0 j.is.0.within j.longest in
    let e : i.text ++ a ≡ j.text ++ b = sym i.parts ∙ j.parts in
    let text : i.text ≡ j.text = sym f.0 ∙ ap (front is_in_text) e ∙ g.0 in
    let blank : c.0 ≡ d.0 = i.is.1 ∙ ap (list_all is_blank) text ∙ sym j.is.1 in
    (c.1 ∙ ap (λ (v : Bool). chars v) blank ∙ sym d.1, sym f.1 ∙ ap (past is_in_text) e ∙ g.1)

-- bytes begin with at most one item
pub one_item : (first : Bool) (rest : List ℕ) (s t : Shape) (a b : List ℕ) → HasItem first rest s a → HasItem first rest t b → (s ≡ t) × (a ≡ b)
one_item first rest s t a b h k = one_sort first rest s t a b h k (sort_of s) (sort_of t)
