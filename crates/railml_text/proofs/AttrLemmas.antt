-- Lists of attributes: names that repeat, texts, parts that are UTF-8.
use Rattle.std.proofs.Common.{◌≡◌, ◌≢◌, ◌⊎◌, ℕ, zero, suc, ◌+◌, ◌<◌, Bool, true, false, cond, ◌==◌, ◌&&◌, ◌||◌, Option, Some, List, [], ◌∷◌, ◌++◌, length}
use Rattle.std.proofs.Common.{take, drop, get_or, refl, sym, ap, ◌∙◌, subst, arith, inl, inr}
use Rattle.std.specs.Prelude.{⊤, Any, map, slice_get, is_some, codes}
use Rattle.std.specs.Str.{IsUtf8, bytes_eq, str_to_ascii_lowercase}
use Rattle.std.specs.List.{list_any}
use Rattle.std.proofs.lemmas.Bool.Decides.{nat_tests}
use Rattle.std.proofs.lemmas.List.{take_more, get_or-map, length-map, take-append-drop}
use Rattle.std.proofs.lemmas.Slice.Eq.{bytes_eq-Decides}
use Rattle.std.proofs.lemmas.Bool.{both_ways}
use Rattle.railml_text.specs.declared.written.WrittenAttr.{WrittenAttr}
use Rattle.railml_text.specs.declared.item.Attr.{Attr}
use Rattle.railml_text.specs.declared.fault.ItemFault.{ItemFault}
use Rattle.railml_text.specs.declared.fault.ItemFault.TheVariants as answers
use Rattle.railml_text.specs.Values.{IsValueText, HasLoose}
use Rattle.railml_text.specs.Grammar.{Written}
use Rattle.railml_text.specs.Items.{AreTextsOf}
use Rattle.railml_text.specs.Faults.{HasRepeat, NamesOtherEncoding}
use Rattle.railml_text.specs.Reading.{written_of, IsValueFault}
use Rattle.railml_text.specs.Judging.{AnyLoose, AreUtf8, IsAttrsFault}
use Rattle.railml_text.proofs.ValueLemmas.{text_no_loose}

-- ---- names

abbrev names : List WrittenAttr → List (List ℕ)
names attrs = map (λ attr. attr.name) (map written_of attrs)

-- whether an attribute has the name
abbrev pub has_name : List ℕ → List WrittenAttr → Bool
has_name name attrs = list_any (λ attr. bytes_eq name attr.name.now) attrs

or_first : (v w : Bool) → v ≡ true → (v || w) ≡ true
or_first true w e = refl
or_first false w e = absurd cc

or_second : (v w : Bool) → w ≡ true → (v || w) ≡ true
or_second true w e = refl
or_second false w e = e

name_at : (name : List ℕ) (attrs : List WrittenAttr) → has_name name attrs ≡ true → (i : ℕ) × (i < length attrs) × (slice_get (names attrs) i ≡ Some name)
name_at name [] e = absurd cc
name_at name (a ∷ attrs) e = choose (bytes_eq name a.name.now) refl e (name_at name attrs)
  where
    choose : (v : Bool) → bytes_eq name a.name.now ≡ v → (v || has_name name attrs) ≡ true →
        (has_name name attrs ≡ true → (i : ℕ) × (i < length attrs) × (slice_get (names attrs) i ≡ Some name))
        → (i : ℕ) × (i < length (a ∷ attrs)) × (slice_get (names (a ∷ attrs)) i ≡ Some name)
    choose true h k ih = (zero, omega arith, ap (λ (n : List ℕ). some n) (sym ((bytes_eq-Decides name a.name.now).0 h)))
      where
        some : List ℕ → Option (List ℕ)
        some n = Some n
    choose false h k ih = let t = ih k in (suc t.0, omega (arith, t.1), t.2)

at_name : (name : List ℕ) (attrs : List WrittenAttr) (i : ℕ) → slice_get (names attrs) i ≡ Some name → has_name name attrs ≡ true
at_name name [] i e = absurd cc
at_name name (a ∷ attrs) zero e = let same : a.name.now ≡ name = cc in or_first (bytes_eq name a.name.now) (has_name name attrs)
    ((bytes_eq-Decides name a.name.now).1 (sym same))
at_name name (a ∷ attrs) (suc i) e = or_second (bytes_eq name a.name.now) (has_name name attrs) (at_name name attrs i e)

-- a name among one more attribute
push_cases : (attrs : List WrittenAttr) (a : WrittenAttr) (i : ℕ) (name : List ℕ) → slice_get (names (attrs ++ a ∷ [])) i ≡ Some name
    → ((i < length attrs) × (slice_get (names attrs) i ≡ Some name)) ⊎ ((i ≡ length attrs) × (a.name.now ≡ name))
push_cases [] a zero name e = inr (refl, cc)
push_cases [] a (suc i) name e = absurd cc
push_cases (b ∷ attrs) a zero name e = inl (omega arith, e)
push_cases (b ∷ attrs) a (suc i) name e = elim (push_cases attrs a i name e) [
  | inl h ↦ inl (omega (arith, h.0), h.1)
  | inr h ↦ inr (omega (arith, h.0), h.1)
]

at_last : (attrs : List WrittenAttr) (a : WrittenAttr) → slice_get (names (attrs ++ a ∷ [])) (length attrs) ≡ Some a.name.now
at_last [] a = refl
at_last (b ∷ attrs) a = at_last attrs a

at_front : (attrs more : List WrittenAttr) (i : ℕ) (name : List ℕ) → slice_get (names attrs) i ≡ Some name → slice_get (names (attrs ++ more)) i ≡ Some name
at_front [] more i name e = absurd cc
at_front (b ∷ attrs) more zero name e = e
at_front (b ∷ attrs) more (suc i) name e = at_front attrs more i name e

repeat_more : (attrs more : List WrittenAttr) → HasRepeat (map written_of attrs) → HasRepeat (map written_of (attrs ++ more))
repeat_more attrs more r = record {
  name = r.name;
  i = r.i;
  j = r.j;
  earlier = r.earlier;
  at_i = at_front attrs more r.i r.name r.at_i;
  at_j = at_front attrs more r.j r.name r.at_j;
}

repeat_last : (attrs : List WrittenAttr) (a : WrittenAttr) → has_name a.name.now attrs ≡ true → HasRepeat (map written_of (attrs ++ a ∷ []))
repeat_last attrs a e =
    let t = name_at a.name.now attrs e in
    record { name = a.name.now; i = t.0; j = length attrs; earlier = t.1; at_i = at_front attrs (a ∷ []) t.0 a.name.now t.2; at_j = at_last attrs a }

no_repeat_push : (attrs : List WrittenAttr) (a : WrittenAttr) → (HasRepeat (map written_of attrs) → ⊥) → has_name a.name.now attrs ≡ false →
    HasRepeat (map written_of (attrs ++ a ∷ [])) → ⊥
no_repeat_push attrs a none e r = elim (push_cases attrs a r.j r.name r.at_j) [
  | inl later ↦ elim (push_cases attrs a r.i r.name r.at_i) [
    | inl earlier ↦ none (record { name = r.name; i = r.i; j = r.j; earlier = r.earlier; at_i = earlier.1; at_j = later.1 })
    | inr earlier ↦ let lt = r.earlier in absurd (omega (arith, earlier.0, later.0, lt))
  ]
  | inr later ↦ elim (push_cases attrs a r.i r.name r.at_i) [
    | inl earlier ↦ both_ways (has_name r.name attrs) (subst (λ (n : List ℕ). has_name n attrs ≡ false) later.1 e) (at_name r.name attrs r.i earlier.1)
    | inr earlier ↦ let lt = r.earlier in absurd (omega (arith, earlier.0, later.0, lt))
  ]
]

-- ---- along a loop

pub no_repeat_more : (attrs : List WrittenAttr) (i : ℕ) (d : WrittenAttr) → i < length attrs → (HasRepeat (map written_of (take i attrs)) → ⊥) →
    has_name (get_or attrs i d).name.now (take i attrs) ≡ false → HasRepeat (map written_of (take (i + 1) attrs)) → ⊥
no_repeat_more attrs i d lt none e r = no_repeat_push (take i attrs) (get_or attrs i d) none e
    (subst (λ (xs : List WrittenAttr). HasRepeat (map written_of xs)) (take_more attrs i d lt) r)

pub repeat_found : (attrs : List WrittenAttr) (i : ℕ) (d : WrittenAttr) → i < length attrs → has_name (get_or attrs i d).name.now (take i attrs) ≡ true →
    HasRepeat (map written_of attrs)
repeat_found attrs i d lt e =
    let front = subst (λ (xs : List WrittenAttr). HasRepeat (map written_of xs)) (sym (take_more attrs i d lt))
    (repeat_last (take i attrs) (get_or attrs i d) e) in
    subst (λ (xs : List WrittenAttr). HasRepeat (map written_of xs)) (take-append-drop (i + 1) attrs)
    (repeat_more (take (i + 1) attrs) (drop (i + 1) attrs) front)

eq-swap : (a b : ℕ) → (a == b) ≡ (b == a)
eq-swap a b = grind (arith, nat_tests)

bytes_eq-swap : (xs ys : List ℕ) → bytes_eq xs ys ≡ bytes_eq ys xs
bytes_eq-swap [] [] = refl
bytes_eq-swap [] (y ∷ ys) = refl
bytes_eq-swap (x ∷ xs) [] = refl
bytes_eq-swap (x ∷ xs) (y ∷ ys) = ap (λ (v : Bool). v && bytes_eq xs ys) (eq-swap x y) ∙ ap (λ (v : Bool). (y == x) && v) (bytes_eq-swap xs ys)

seen_cases : (v some : Bool) (old new : Option ⊤) → new ≡ cond v (Some tt) old → is_some old ≡ some → is_some new ≡ (some || v)
seen_cases true true old new e f = ap is_some e
seen_cases true false old new e f = ap is_some e
seen_cases false true old new e f = ap is_some e ∙ f
seen_cases false false old new e f = ap is_some e ∙ f

-- one more name in the set
pub seen_more : (q name : List ℕ) (some : Bool) (old new : Option ⊤) → new ≡ cond (bytes_eq name q) (Some tt) old → is_some old ≡ some →
    is_some new ≡ (some || bytes_eq q name)
seen_more q name some old new e f = seen_cases (bytes_eq name q) some old new e f ∙ ap (λ (v : Bool). some || v) (bytes_eq-swap name q)

-- ---- texts

pub AreTextsOf-push : (attrs : List Written) (texts : List Attr) (attr : Written) (text : Attr) → AreTextsOf attrs texts → text.name ≡ attr.name →
    IsValueText attr.value text.value → AreTextsOf (attrs ++ attr ∷ []) (texts ++ text ∷ [])
AreTextsOf-push [] [] attr text h n v = (n, v, tt)
AreTextsOf-push [] (t ∷ texts) attr text h n v = absurd h
AreTextsOf-push (a ∷ attrs) [] attr text h n v = absurd h
AreTextsOf-push (a ∷ attrs) (t ∷ texts) attr text h n v = (h.0, h.1, AreTextsOf-push attrs texts attr text h.2 n v)

map-push : (attrs : List WrittenAttr) (a : WrittenAttr) → map written_of (attrs ++ a ∷ []) ≡ map written_of attrs ++ written_of a ∷ []
map-push [] a = refl
map-push (b ∷ attrs) a = ap (λ (xs : List Written). written_of b ∷ xs) (map-push attrs a)

pub texts_more : (attrs : List WrittenAttr) (i : ℕ) (d : WrittenAttr) (texts : List Attr) (text : Attr) → i < length attrs →
    AreTextsOf (map written_of (take i attrs)) texts
    → text.name ≡ (get_or attrs i d).name.now → IsValueText (get_or attrs i d).value.now text.value →
    AreTextsOf (map written_of (take (i + 1) attrs)) (texts ++ text ∷ [])
texts_more attrs i d texts text lt h n v =
    subst (λ (xs : List Written). AreTextsOf xs (texts ++ text ∷ [])) (sym (ap (map written_of) (take_more attrs i d lt)
    ∙ map-push (take i attrs) (get_or attrs i d)))
    (AreTextsOf-push (map written_of (take i attrs)) texts (written_of (get_or attrs i d)) text h n v)

utf8_at : (attrs : List WrittenAttr) (i : ℕ) (d : WrittenAttr) → AreUtf8 (map written_of attrs) → i < length attrs →
    IsUtf8 (get_or attrs i d).name.now × IsUtf8 (get_or attrs i d).value.now
utf8_at [] i d h lt = absurd (omega arith)
utf8_at (a ∷ attrs) zero d h lt = h.0
utf8_at (a ∷ attrs) (suc i) d h lt = utf8_at attrs i d h.1 (omega arith)

pub name_utf8 : (attrs : List WrittenAttr) (i : ℕ) (d : WrittenAttr) → AreUtf8 (map written_of attrs) → i < length attrs → IsUtf8 (get_or attrs i d).name.now
name_utf8 attrs i d h lt = (utf8_at attrs i d h lt).0

pub value_utf8 : (attrs : List WrittenAttr) (i : ℕ) (d : WrittenAttr) → AreUtf8 (map written_of attrs) → i < length attrs → IsUtf8 (get_or attrs i d).value.now
value_utf8 attrs i d h lt = (utf8_at attrs i d h lt).1

any_at : (P : Written → Type 0) (attrs : List WrittenAttr) (i : ℕ) (d : WrittenAttr) → i < length attrs → P (written_of (get_or attrs i d)) →
    Any P (map written_of attrs)
any_at P attrs i d lt h = (
  i,
  written_of (get_or attrs i d),
  subst (λ (n : ℕ). i < n) (sym (length-map attrs written_of)) lt,
  get_or-map written_of attrs i d
      (written_of (get_or attrs i d)) lt,
  h,
)

pub value_fault : (attrs : List WrittenAttr) (i : ℕ) (d : WrittenAttr) (e : ItemFault) → i < length attrs → IsValueFault (get_or attrs i d).value.now e →
    IsAttrsFault (map written_of attrs) e
value_fault attrs i d (answers.Item what) lt h = (h.0, any_at (λ attr. HasLoose attr.value) attrs i d lt h.1)
value_fault attrs i d answers.Memory lt h = tt

-- attributes with texts have no loose `&`
none_loose : (attrs : List Written) (texts : List Attr) (k : ℕ) (d : Written) → AreTextsOf attrs texts → k < length attrs → HasLoose (get_or attrs k d).value →
    ⊥
none_loose [] texts k d h lt l = absurd (omega arith)
none_loose (a ∷ attrs) [] k d h lt l = h
none_loose (a ∷ attrs) (t ∷ texts) zero d h lt l = text_no_loose a.value t.value h.1 l
none_loose (a ∷ attrs) (t ∷ texts) (suc k) d h lt l = none_loose attrs texts k d h.2 (omega arith) l

pub texts_no_loose : (attrs : List Written) (texts : List Attr) → AreTextsOf attrs texts → AnyLoose attrs → ⊥
texts_no_loose attrs texts h a = none_loose attrs texts a.0 a.1 h a.2 (subst (λ (w : Written). HasLoose w.value) (sym a.3) a.4)

-- ---- the encoding

-- an attribute `encoding` with another value, as the code sees it
abbrev pub OtherEncoding : WrittenAttr → Type 0
OtherEncoding attr = (attr.name.now ≡ codes "encoding") × (str_to_ascii_lowercase attr.value.now ≢ codes "utf-8")

pub encoding_named : (attrs : List WrittenAttr) → Any OtherEncoding attrs → NamesOtherEncoding (map written_of attrs)
encoding_named attrs a = any_at (λ attr. (attr.name ≡ codes "encoding") × (str_to_ascii_lowercase attr.value ≢ codes "utf-8")) attrs a.0 a.1 a.2
    (subst OtherEncoding (sym a.3) a.4)

named_at : (attrs : List WrittenAttr) (k : ℕ) (w : Written) → k < length attrs → get_or (map written_of attrs) k w ≡ w →
    (a : WrittenAttr) × (get_or attrs k a ≡ a) × (written_of a ≡ w)
named_at [] k w lt e = absurd (omega arith)
named_at (a ∷ attrs) zero w lt e = (a, refl, e)
named_at (a ∷ attrs) (suc k) w lt e = named_at attrs k w (omega arith) e

pub named_encoding : (attrs : List WrittenAttr) → NamesOtherEncoding (map written_of attrs) → Any OtherEncoding attrs
named_encoding attrs a =
    let lt : a.0 < length attrs = subst (λ (n : ℕ). a.0 < n) (length-map attrs written_of) a.2 in
    let t = named_at attrs a.0 a.1 lt a.3 in
    (a.0, t.0, lt, t.1, subst (λ (w : Written). (w.name ≡ codes "encoding") × (str_to_ascii_lowercase w.value ≢ codes "utf-8")) (sym t.2) a.4)
