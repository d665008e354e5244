-- Items one after another.
use Rattle.std.proofs.Common.{◌≡◌, ◌⊎◌, ℕ, ◌+◌, ◌<◌, ◌≤◌, Bool, true, false, cond, ◌==◌, ◌&&◌, codes, List, [], ◌∷◌, ◌++◌, length, drop, refl, sym, ap, ◌∙◌}
use Rattle.std.proofs.Common.{subst, length-drop, arith, inl, inr}
use Rattle.std.specs.Prelude.{nat_eq}
use Rattle.std.specs.List.{starts_with}
use Rattle.std.specs.Str.{IsUtf8, IsCharBoundary}
use Rattle.std.proofs.lemmas.Str.{IsUtf8-past_char, IsCharBoundary-at_seam, IsCharBoundary-start}
use Rattle.std.proofs.lemmas.Bool.{both_ways, and_parts}
use Rattle.railml_text.specs.declared.item.ItemKind.{ItemKind}
use Rattle.railml_text.specs.declared.item.ItemKind.TheVariants as kinds
use Rattle.railml_text.specs.declared.item.Attr.{Attr}
use Rattle.railml_text.specs.declared.fault.TextWhat.{TextWhat}
use Rattle.railml_text.specs.declared.fault.TextWhat.TheVariants.{NotUtf8, Encoding, Doctype, Markup, Entity, EndTag, RepeatedAttribute, Root, Unfinished}
use Rattle.railml_text.specs.declared.fault.TextWhat.TheVariants.{AfterRoot, Depth, NoInfrastructure}
use Rattle.railml_text.specs.Grammar.{Written}
use Rattle.railml_text.specs.Items.{Shape, declaration, instruction, comment, cdata, start_tag, end_tag, reference, chars, HasItem, AreTextsOf, IsKindOf}
use Rattle.railml_text.specs.Faults.{number_of, HasItemFault, IsLeastFault, HasSoundItem}
use Rattle.railml_text.specs.Cutting.{Placed, Cuts, byte_order_mark, start_of, ComesTo, IsCutInto, is_first, FirstFault}
use Rattle.std.proofs.lemmas.Bool.Decides.{nat_tests}
use Rattle.railml_text.proofs.RunLemmas.{same_if_eq}
use Rattle.railml_text.proofs.ValueLemmas.{one_text}
use Rattle.railml_text.proofs.OneItem.{one_item, no_doctype}
use Rattle.railml_text.proofs.PartLemmas.{item_some}

-- ---- one kind

abbrev attr_made : List ℕ → List ℕ → Attr
attr_made name value = record { name = name; value = value }

one_texts : (written : List Written) (attrs others : List Attr) → AreTextsOf written attrs → AreTextsOf written others → attrs ≡ others
one_texts [] [] [] h k = refl
one_texts [] [] (o ∷ others) h k = absurd k
one_texts [] (a ∷ attrs) others h k = absurd h
one_texts (w ∷ written) [] others h k = absurd h
one_texts (w ∷ written) (a ∷ attrs) [] h k = absurd k
one_texts (w ∷ written) (a ∷ attrs) (o ∷ others) h k =
    let name : a.name ≡ o.name = h.0 ∙ sym k.0 in
    let value : a.value ≡ o.value = one_text w.value a.value o.value h.1 k.1 in
    let same : a ≡ o = ap (λ (n : List ℕ). attr_made n a.value) name ∙ ap (attr_made o.name) value in
    ap (λ (x : Attr). x ∷ attrs) same ∙ ap (λ (xs : List Attr). o ∷ xs) (one_texts written attrs others h.2 k.2)

abbrev start : List ℕ → List Attr → Bool → ItemKind
start name attrs empty = kinds.Start name attrs empty

one_kind : (shape : Shape) (kind other : ItemKind) → IsKindOf shape kind → IsKindOf shape other → kind ≡ other
one_kind (declaration attrs) kind other h k = h ∙ sym k
one_kind instruction kind other h k = h ∙ sym k
one_kind comment kind other h k = h ∙ sym k
one_kind cdata kind other h k = h ∙ sym k
one_kind (start_tag name written empty) kind other h k = h.2 ∙ ap (λ (attrs : List Attr). start name attrs empty) (one_texts written h.0 k.0 h.1 k.1) ∙ sym k.2
one_kind (end_tag name) kind other h k = h ∙ sym k
one_kind reference kind other h k = h ∙ sym k
one_kind (chars blank) kind other h k = h ∙ sym k

-- what is told of the item at a place is one
pub one_sound_item : (first : Bool) (rest : List ℕ) (kind other : ItemKind) (a b : List ℕ) → HasSoundItem first rest kind a → HasSoundItem first rest other b →
    (kind ≡ other) × (a ≡ b)
one_sound_item first rest kind other a b h k =
    let o = one_item first rest h.shape k.shape a b h.item k.item in
    (one_kind k.shape kind other (subst (λ (s : Shape). IsKindOf s kind) o.0 h.kind_is) k.kind_is, o.1)

-- ---- one fault

-- a kind by its number
abbrev kind_at : ℕ → TextWhat
kind_at n =
    cond (n == 1) NotUtf8 (cond (n == 2) Encoding (cond (n == 3) Doctype (cond (n == 4) Markup (cond (n == 5) Entity (cond (n == 6) EndTag
    (cond (n == 7) RepeatedAttribute (cond (n == 8) Root (cond (n == 9) Unfinished (cond (n == 10) AfterRoot (cond (n == 11) Depth NoInfrastructure))))))))))

kind_at-number : (what : TextWhat) → kind_at (number_of what) ≡ what
kind_at-number NotUtf8 = refl
kind_at-number Encoding = refl
kind_at-number Doctype = refl
kind_at-number Markup = refl
kind_at-number Entity = refl
kind_at-number EndTag = refl
kind_at-number RepeatedAttribute = refl
kind_at-number Root = refl
kind_at-number Unfinished = refl
kind_at-number AfterRoot = refl
kind_at-number Depth = refl
kind_at-number NoInfrastructure = refl

pub same_number : (what other : TextWhat) → number_of what ≡ number_of other → what ≡ other
same_number what other e = sym (kind_at-number what) ∙ ap kind_at e ∙ kind_at-number other

order : (m n : ℕ) → (m < n) ⊎ (n < m) ⊎ (m ≡ n)
order m n = grind (arith, nat_tests)

pub one_fault : (first : Bool) (rest : List ℕ) (what other : TextWhat) → IsLeastFault first rest what → IsLeastFault first rest other → what ≡ other
one_fault first rest what other h k = elim (order (number_of what) (number_of other)) [
  | inl lt ↦ absurd (k.least what lt h.holds)
  | inr (inl lt) ↦ absurd (h.least other lt k.holds)
  | inr (inr e) ↦ same_number what other e
]

-- ---- an item or a fault

pub fault_no_sound : (first : Bool) (rest : List ℕ) (what : TextWhat) (kind : ItemKind) (after : List ℕ) → HasItemFault first rest what →
    HasSoundItem first rest kind after → ⊥
fault_no_sound first rest what kind after f h = h.sound what f

-- at these faults no item begins
pub fault_no_item : (first : Bool) (rest : List ℕ) (shape : Shape) (after : List ℕ) →
    HasItemFault first rest Doctype ⊎ HasItemFault first rest Markup ⊎ HasItemFault first rest Unfinished → HasItem first rest shape after → ⊥
fault_no_item first rest shape after (inl d) h = no_doctype first rest shape after h d
fault_no_item first rest shape after (inr (inl m)) h = m.no_item shape after h
fault_no_item first rest shape after (inr (inr u)) h = u.no_item shape after h

-- ---- one cut

-- whether the item after these is the first
abbrev pub first_after : Bool → List Placed → Bool
first_after first [] = first
first_after first (item ∷ items) = false

first_after-false : (items : List Placed) → first_after false items ≡ false
first_after-false [] = refl
first_after-false (item ∷ items) = refl

pub first_after-is_first : (items : List Placed) → first_after true items ≡ is_first items
first_after-is_first [] = refl
first_after-is_first (item ∷ items) = refl

-- no item without a fault begins here
abbrev pub Stops : Bool → List ℕ → Type 0
Stops first rest = (kind : ItemKind) (after : List ℕ) → HasSoundItem first rest kind after → ⊥

pub Stops-end : (first : Bool) → Stops first []
Stops-end first kind after h = absurd (omega (arith, item_some first [] h.shape after h.item))

abbrev placed : ℕ → ItemKind → Placed
placed at kind = record { at = at; kind = kind }

pub cuts_once : (first : Bool) (at : ℕ) (bytes : List ℕ) (items others : List Placed) (rest last : List ℕ) → Cuts first at bytes items rest →
    Cuts first at bytes others last
    → Stops (first_after first items) rest → Stops (first_after first others) last → (items ≡ others) × (rest ≡ last)
cuts_once first at bytes [] [] rest last h k s t = (refl, sym h ∙ k)
cuts_once first at bytes [] (o ∷ others) rest last h k s t = absurd (s o.kind k.1 (subst (λ (u : List ℕ). HasSoundItem first u o.kind k.1) h k.3))
cuts_once first at bytes (i ∷ items) [] rest last h k s t = absurd (t i.kind h.1 (subst (λ (u : List ℕ). HasSoundItem first u i.kind h.1) k h.3))
cuts_once first at bytes (i ∷ items) (o ∷ others) rest last h k s t =
    let one = one_sound_item first bytes i.kind o.kind h.1 k.1 h.3 k.3 in
    let next : h.0 ≡ k.0 = omega (arith, h.4, k.4, ap length one.1) in
    let k-rest = subst (λ (n : ℕ). Cuts false n h.1 others last) (sym next) (subst (λ (u : List ℕ). Cuts false k.0 u others last) (sym one.1) k.5) in
    let more = cuts_once false h.0 h.1 items others rest last h.5 k-rest (subst (λ (v : Bool). Stops v rest) (sym (first_after-false items)) s)
    (subst (λ (v : Bool). Stops v last) (sym (first_after-false others)) t) in
    let same : i ≡ o = ap (λ (n : ℕ). placed n i.kind) (h.2 ∙ sym k.2) ∙ ap (placed o.at) one.0 in
    (ap (λ (x : Placed). x ∷ items) same ∙ ap (λ (xs : List Placed). o ∷ xs) more.0, more.1)

pub comes_once : (bytes : List ℕ) (items others : List Placed) (at next : ℕ) (rest last : List ℕ) → ComesTo bytes items at rest →
    ComesTo bytes others next last → Stops (is_first items) rest → Stops (is_first others) last
    → (items ≡ others) × (at ≡ next) × (rest ≡ last)
comes_once bytes items others at next rest last h k s t =
    let stops : Stops (first_after true items) rest = subst (λ (v : Bool). Stops v rest) (sym (first_after-is_first items)) s in
    let ends : Stops (first_after true others) last = subst (λ (v : Bool). Stops v last) (sym (first_after-is_first others)) t in
    let o = cuts_once true (start_of bytes) (drop (start_of bytes) bytes) items others rest last h.cut k.cut stops ends in
    (o.0, omega (arith, h.place, k.place, ap length o.1), o.1)

-- bytes are cut into items in at most one way
pub one_cut : (bytes : List ℕ) (items others : List Placed) → IsCutInto bytes items → IsCutInto bytes others → items ≡ others
one_cut bytes items others h k = (comes_once bytes items others (length bytes) (length bytes) [] [] h k (Stops-end (is_first items))
    (Stops-end (is_first others))).0

Stops-fault : (first : Bool) (rest : List ℕ) (what : TextWhat) → IsLeastFault first rest what → Stops first rest
Stops-fault first rest what f kind after h = h.sound what f.holds

-- a file has at most one first fault
pub one_first_fault : (bytes : List ℕ) (what other : TextWhat) (at next : ℕ) → FirstFault bytes what at → FirstFault bytes other next →
    (what ≡ other) × (at ≡ next)
one_first_fault bytes what other at next h k =
    let o = comes_once bytes h.items k.items at next h.rest k.rest h.before k.before (Stops-fault (is_first h.items) h.rest what h.fault)
    (Stops-fault (is_first k.items) k.rest other k.fault) in
    let moved = subst (λ (v : Bool). IsLeastFault v k.rest what) (ap is_first o.0)
    (subst (λ (u : List ℕ). IsLeastFault (is_first h.items) u what) o.2 h.fault) in
    (one_fault (is_first k.items) k.rest what other moved k.fault, o.1)

-- a fault has a byte to begin at
no_item_at_end : (first : Bool) (shape : Shape) (after : List ℕ) → HasItem first [] shape after → ⊥
no_item_at_end first shape after h = absurd (omega (arith, item_some first [] shape after h))

fault_some : (first : Bool) (what : TextWhat) → HasItemFault first [] what → ⊥
fault_some first NotUtf8 f = f
fault_some first Encoding f = no_item_at_end first (declaration f.attrs) f.after f.item
fault_some first Doctype f = let k : [] ≡ codes "<!DOCTYPE" ++ f.0 = f.1 in cc
fault_some first Markup f = let k : [] ≡ 60 ∷ f.begins.0 = f.begins.1 in cc
fault_some first Entity (inl f) = let k : [] ≡ 38 ∷ f.rest = f.ampersand in cc
fault_some first Entity (inr f) = no_item_at_end first (start_tag f.name f.attrs f.empty) f.after f.item
fault_some first EndTag f = f
fault_some first RepeatedAttribute f = no_item_at_end first f.shape f.after f.item
fault_some first Root f = f
fault_some first Unfinished f = let k : [] ≡ 60 ∷ f.begins.0 = f.begins.1 in cc
fault_some first AfterRoot f = f
fault_some first Depth f = f
fault_some first NoInfrastructure f = f

-- a file with a fault isn't cut to its last byte
pub fault_no_cut : (bytes : List ℕ) (what : TextWhat) (at : ℕ) (items : List Placed) → FirstFault bytes what at → IsCutInto bytes items → ⊥
fault_no_cut bytes what at items h k =
    let o = comes_once bytes h.items items at (length bytes) h.rest [] h.before k (Stops-fault (is_first h.items) h.rest what h.fault)
    (Stops-end (is_first items)) in
    fault_some (is_first h.items) what (subst (λ (u : List ℕ). HasItemFault (is_first h.items) u what) o.2 h.fault.holds)

-- ---- from left to right

pub Cuts-push : (first : Bool) (at : ℕ) (bytes : List ℕ) (items : List Placed) (rest : List ℕ) (place : ℕ) (kind : ItemKind) (after : List ℕ) (next : ℕ) →
    Cuts first at bytes items rest
    → place + length rest ≡ at + length bytes → HasSoundItem (first_after first items) rest kind after → next + length after ≡ place + length rest →
    Cuts first at bytes (items ++ placed place kind ∷ []) after
Cuts-push first at bytes [] rest place kind after next h p s n =
    let here : place ≡ at = omega (arith, p, ap length h) in
    (next, after, here, subst (λ (u : List ℕ). HasSoundItem first u kind after) (sym h) s, omega (arith, n, p), refl)
Cuts-push first at bytes (i ∷ items) rest place kind after next h p s n = (
  h.0,
  h.1,
  h.2,
  h.3,
  h.4,
  Cuts-push false h.0 h.1 items rest place kind after next h.5 (omega (arith, p, h.4))
      (subst (λ (v : Bool). HasSoundItem v rest kind after) (sym (first_after-false items)) s) n,
)

-- one more item of a file
pub ComesTo-push : (bytes : List ℕ) (items : List Placed) (at : ℕ) (rest : List ℕ) (kind : ItemKind) (after : List ℕ) (next : ℕ) → ComesTo bytes items at rest →
    start_of bytes ≤ length bytes
    → HasSoundItem (is_first items) rest kind after → next + length after ≡ length bytes → ComesTo bytes (items ++ placed at kind ∷ []) next after
ComesTo-push bytes items at rest kind after next h w s n = record {
  cut = Cuts-push true (start_of bytes) (drop (start_of bytes) bytes) items rest at kind after next h.cut
      (omega (arith, h.place, length-drop (start_of bytes) bytes, w))
      (subst (λ (v : Bool). HasSoundItem v rest kind after) (sym (first_after-is_first items)) s) (omega (arith, n, h.place));
  place = n;
}

-- ---- the start of a file

-- what a file that begins with a mark is
mark_parts : (bytes : List ℕ) → starts_with nat_eq bytes byte_order_mark ≡ true → bytes ≡ byte_order_mark ++ drop 3 bytes
mark_parts [] e = absurd cc
mark_parts (a ∷ []) e = let k = and_parts (nat_eq 239 a) false e in absurd (both_ways false refl k.1)
mark_parts (a ∷ b ∷ []) e =
    let k = and_parts (nat_eq 239 a) (nat_eq 187 b && false) e in
    let l = and_parts (nat_eq 187 b) false k.1 in absurd (both_ways false refl l.1)
mark_parts (a ∷ b ∷ c ∷ bytes) e =
    let k = and_parts (nat_eq 239 a) (nat_eq 187 b && (nat_eq 191 c && true)) e in
    let l = and_parts (nat_eq 187 b) (nat_eq 191 c && true) k.1 in
    let m = and_parts (nat_eq 191 c) true l.1 in
    rw (sym (same_if_eq 239 a k.0), sym (same_if_eq 187 b l.0), sym (same_if_eq 191 c m.0)) refl

pub start_within : (bytes : List ℕ) → start_of bytes ≤ length bytes
start_within bytes = cases (starts_with nat_eq bytes byte_order_mark) refl
  where
    cases : (v : Bool) → starts_with nat_eq bytes byte_order_mark ≡ v → cond v 3 0 ≤ length bytes
    cases true e = omega (arith, ap length (mark_parts bytes e))
    cases false e = omega arith

-- a character begins there
pub start_boundary : (bytes : List ℕ) → IsUtf8 bytes → IsCharBoundary bytes (start_of bytes)
unfolding lib.Utf8.encode
start_boundary bytes u = cases (starts_with nat_eq bytes byte_order_mark) refl
  where
    cases : (v : Bool) → starts_with nat_eq bytes byte_order_mark ≡ v → IsCharBoundary bytes (cond v 3 0)
    cases true e = IsCharBoundary-at_seam bytes byte_order_mark (drop 3 bytes) (mark_parts bytes e)
        (IsUtf8-past_char bytes (drop 3 bytes) 65279 u (mark_parts bytes e))
    cases false e = IsCharBoundary-start bytes u

pub ComesTo-none : (bytes : List ℕ) → ComesTo bytes [] (start_of bytes) (drop (start_of bytes) bytes)
ComesTo-none bytes = record { cut = refl; place = omega (arith, length-drop (start_of bytes) bytes, start_within bytes) }
