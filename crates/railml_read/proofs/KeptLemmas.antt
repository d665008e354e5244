-- What is kept while the items of a document go by.
use Rattle.std.proofs.Common.{◌≡◌, ◌⊎◌, ℕ, ◌<◌, ◌≤◌, Bool, true, false, Some, None, List, [], ◌∷◌, ◌++◌, length, drop, refl, sym, ap, ◌∙◌, subst, inl, inr}
use Rattle.std.proofs.Common.{length-drop, arith}
use Rattle.std.specs.Prelude.{fold, ◌||◌, IsUtf8, IsCharBoundary, codes}
use Rattle.std.proofs.lemmas.List.{drop_all}
use Rattle.std.proofs.lemmas.List.Sums.{fold-append}
use Rattle.plan_core.specs.declared.limits.TheConstants.{MAX_FILE_BYTES}
use Rattle.railml_text.specs.declared.item.ItemKind.{ItemKind}
use Rattle.railml_text.specs.declared.fault.TextWhat.{TextWhat}
use Rattle.railml_text.specs.declared.fault.TextWhat.TheVariants.{NotUtf8, Encoding, Doctype, Markup, Entity, EndTag, RepeatedAttribute, Root, Unfinished}
use Rattle.railml_text.specs.declared.fault.TextWhat.TheVariants.{AfterRoot, Depth, NoInfrastructure}
use Rattle.railml_text.specs.declared.fault.ItemFault.{ItemFault}
use Rattle.railml_text.specs.declared.fault.ItemFault.TheVariants as answers
use Rattle.railml_read.specs.declared.faults.ReadFault.TheVariants as reads
use Rattle.railml_text.specs.Items.{Shape, declaration, instruction, comment, cdata, start_tag, end_tag, reference, chars, IsItem, HasItem, IsKindOf}
use Rattle.railml_text.specs.Bytes.{is_in_text}
use Rattle.railml_text.specs.Grammar.{IsChars, IsBracketed}
use Rattle.railml_text.specs.References.{IsReference, BeginsLoose}
use Rattle.railml_text.specs.Faults.{number_of, attrs_of, HasItemFault, HasSoundItem, IsLeastFault, IsItemFault, HasRepeat}
use Rattle.railml_text.specs.Cutting.{Placed, Cuts, ComesTo, start_of, is_first}
use Rattle.railml_read.specs.Places.{Role, opening, closing, content, free, role_of, role_of_shape, tags_at, tags_in, open_names, begins_element, has_root}
use Rattle.railml_read.specs.Places.{IsMisplaced, AreInPlace}
use Rattle.railml_read.specs.Document.{IsFirstTextFault, IsTextFault, IsReadFault}
use Rattle.railml_read.specs.declared.progress.Frame.{Frame}
use Rattle.railml_read.specs.declared.rows.Elem.{Elem}
use Rattle.railml_read.specs.Progress.{State, after_tag, start, state_after, names_in, fault_in}
use Rattle.railml_read.specs.Passing.{IsReadThrough, HasMarks, fault_at}
use Rattle.std.specs.Prelude.{◌+◌, slice_get}
use Rattle.std.proofs.lemmas.List.{append-nil}
use Rattle.std.proofs.lemmas.Option.{slice_get_within}
use Rattle.plan_core.proofs.ListFacts.{get_pushed}
use Rattle.railml_text.specs.declared.item.Attr.{Attr}
use Rattle.railml_text.specs.declared.item.ItemKind.TheVariants as kinds
use Rattle.railml_read.specs.declared.rows.SignalElem.{SignalElem}
use Rattle.railml_read.specs.declared.rows.ElemKind.TheVariants as kinds_of
use Rattle.railml_read.specs.declared.contexts.Context.{Context}
use Rattle.railml_read.specs.declared.contexts.Context.TheVariants as contexts
use Rattle.railml_read.specs.Contexts.{below}
use Rattle.railml_read.specs.Signals.{own_track, own_signal, AreRising}
use Rattle.railml_read.specs.Progress.{top_frame, context_in, Marks, after_both, no_marks, marks_after}
use Rattle.railml_read.proofs.SignalLemmas.{first_of_both, marked}
use Rattle.railml_text.proofs.OneItem.{one_item}
use Rattle.railml_text.proofs.CutLemmas.{ComesTo-push, ComesTo-none, start_within, start_boundary}
use Rattle.railml_read.proofs.PlaceLemmas.{tags_push, root_push, place_push, FaultIs, IsLeastMisplaced, fault_is}
use Rattle.railml_read.proofs.RowLemmas.{names_kept, made}
use Rattle.railml_read.proofs.FormedLemmas.{IsFormedUpTo, formed_start, formed_item, all_formed}

pub record Kept (bytes : List ℕ) (at : ℕ) (first : Bool) (state : State) (rooted : Bool) : Type 0 where
  pub items : List Placed
  pub comes_to : ComesTo bytes items at (drop at bytes)
  pub first_is : first ≡ is_first items
  pub sound : AreInPlace [] items
  pub state_is : state ≡ state_after items
  pub root_is : rooted ≡ has_root items
  pub formed : IsFormedUpTo state at
  pub within : at ≤ length bytes
  pub boundary : IsCharBoundary bytes at

-- ---- at the start

-- nothing has been read
pub new_state : (stack : List Frame) (rows : List Elem) (reached : Bool) → stack ≡ [] → rows ≡ [] → reached ≡ false → made stack rows reached ≡ start
new_state stack rows reached s r f = ap (λ (x : List Frame). made x rows reached) s ∙ ap (λ (x : List Elem). made [] x reached) r
    ∙ ap (λ (x : Bool). made [] [] x) f

pub kept_start : (bytes : List ℕ) (at : ℕ) (state : State) (rooted : Bool) → IsUtf8 bytes → at ≡ start_of bytes → state ≡ start → rooted ≡ false →
    Kept bytes at true state rooted
kept_start bytes at state rooted utf8 here s r =
    record {
      items = [];
      comes_to = rw here (ComesTo-none bytes);
      first_is = refl;
      sound = tt;
      state_is = s;
      root_is = r;
      formed = rw s (formed_start at);
      within = rw here (start_within bytes);
      boundary = rw here (start_boundary bytes utf8);
    }

-- ---- one item more

not_first : (items : List Placed) (item : Placed) → false ≡ is_first (items ++ item ∷ [])
not_first [] item = refl
not_first (i ∷ items) item = refl

pub names_open : (items : List Placed) (state : State) → state ≡ state_after items → names_in state.stack ≡ open_names items
names_open items state e = ap (λ (s : State). names_in s.stack) e ∙ names_kept (tags_in items) start

pub kept_next : (bytes : List ℕ) (at next : ℕ) (first : Bool) (state after : State) (rooted root : Bool) (kind : ItemKind) → Kept bytes at first state rooted →
    HasSoundItem first (drop at bytes) kind (drop next bytes) → at < next → next ≤ length bytes → IsCharBoundary bytes next →
    None ≡ fault_in (names_in state.stack) rooted (role_of kind) → after ≡ fold after_tag state (tags_at at kind) → root ≡ (rooted || begins_element kind) →
    Kept bytes next false after root
kept_next bytes at next first state after rooted root kind k sound lt within boundary free_of s r =
    let item : Placed = record { at = at; kind = kind } in
    let items = k.items ++ item ∷ [] in
    let here : FaultIs (names_in state.stack) rooted (role_of kind) None = subst (FaultIs (names_in state.stack) rooted (role_of kind)) (sym free_of)
    (fault_is (names_in state.stack) rooted (role_of kind)) in
    let names : names_in state.stack ≡ open_names k.items = names_open k.items state k.state_is in
    let tags : state_after items ≡ fold after_tag (state_after k.items) (tags_at at kind) = ap (λ t. fold after_tag start t) (tags_push k.items item)
    ∙ fold-append after_tag start (tags_in k.items) (tags_at at kind) in
    record {
      items = items;
      comes_to = ComesTo-push bytes k.items at (drop at bytes) kind (drop next bytes) next k.comes_to (start_within bytes)
          (subst (λ (b : Bool). HasSoundItem b (drop at bytes) kind (drop next bytes)) k.first_is sound) (omega (arith, length-drop next bytes));
      first_is = not_first k.items item;
      sound = place_push [] k.items item k.sound (λ what m. here what (subst (λ (ns : List (List ℕ)). IsMisplaced ns rooted (role_of kind) what) (sym names)
          (subst (λ (b : Bool). IsMisplaced (open_names k.items) b (role_of kind) what) (sym k.root_is) m)));
      state_is = s ∙ ap (λ (x : State). fold after_tag x (tags_at at kind)) k.state_is ∙ sym tags;
      root_is = r ∙ ap (λ (b : Bool). b || begins_element kind) k.root_is ∙ sym (root_push k.items item);
      formed = rw s (formed_item state at next kind lt k.formed);
      within = within;
      boundary = boundary;
    }

-- ---- the first fault

first_is_one : (bytes : List ℕ) (at : ℕ) (what : TextWhat) → IsFirstTextFault bytes what at → IsTextFault bytes what at
first_is_one bytes at NotUtf8 f = elim f.fault [
  | inl own ↦ absurd own
  | inr m ↦ absurd (no_place (open_names f.before) (has_root f.before) (role_of_shape m.shape) m.misplaced)
]
  where
    no_place : (names : List (List ℕ)) (rooted : Bool) (role : Role) → IsMisplaced names rooted role NotUtf8 → ⊥
    no_place names rooted (opening name) m = m
    no_place names rooted (closing name) m = m
    no_place names rooted content m = m
    no_place names rooted free m = m
first_is_one bytes at NoInfrastructure f = elim f.fault [
  | inl own ↦ absurd own
  | inr m ↦ absurd (no_place (open_names f.before) (has_root f.before) (role_of_shape m.shape) m.misplaced)
]
  where
    no_place : (names : List (List ℕ)) (rooted : Bool) (role : Role) → IsMisplaced names rooted role NoInfrastructure → ⊥
    no_place names rooted (opening name) m = m
    no_place names rooted (closing name) m = m
    no_place names rooted content m = m
    no_place names rooted free m = m
first_is_one bytes at Unfinished f = inl f
first_is_one bytes at what f = f

-- an item has the role of its shape
pub same_role : (shape : Shape) (kind : ItemKind) → IsKindOf shape kind → role_of_shape shape ≡ role_of kind
same_role (declaration attrs) kind h = rw h refl
same_role instruction kind h = rw h refl
same_role comment kind h = rw h refl
same_role cdata kind h = rw h refl
same_role (start_tag name written empty) kind h = rw h.2 refl
same_role (end_tag name) kind h = rw h refl
same_role reference kind h = rw h refl
same_role (chars true) kind h = rw h refl
same_role (chars false) kind h = rw h refl

-- the numbers of what its place may give to an item
opening_number : (names : List (List ℕ)) (rooted : Bool) (name : List ℕ) (what : TextWhat) → IsMisplaced names rooted (opening name) what → 8 ≤ number_of what
opening_number names rooted name Root m = omega arith
opening_number names rooted name AfterRoot m = omega arith
opening_number names rooted name Depth m = omega arith
opening_number names rooted name what m = absurd m

closing_number : (names : List (List ℕ)) (rooted : Bool) (name : List ℕ) (what : TextWhat) → IsMisplaced names rooted (closing name) what → 6 ≤ number_of what
closing_number names rooted name EndTag m = omega arith
closing_number names rooted name what m = absurd m

content_number : (names : List (List ℕ)) (rooted : Bool) (what : TextWhat) → IsMisplaced names rooted content what → 4 ≤ number_of what
content_number names rooted Markup m = omega arith
content_number names rooted AfterRoot m = omega arith
content_number names rooted what m = absurd m

place_number : (names : List (List ℕ)) (rooted : Bool) (role : Role) (what : TextWhat) → IsMisplaced names rooted role what → 4 ≤ number_of what
place_number names rooted (opening name) what m = omega (arith, opening_number names rooted name what m)
place_number names rooted (closing name) what m = omega (arith, closing_number names rooted name what m)
place_number names rooted content what m = content_number names rooted what m
place_number names rooted free what m = absurd m

-- an `&` that begins no reference begins no other item either
begins_other : (b : ℕ) (front text after rest : List ℕ) → text ≡ b ∷ front → 38 ∷ rest ≡ text ++ after → b ≡ 38
begins_other b front text after rest e f = let whole : 38 ∷ rest ≡ b ∷ (front ++ after) = f ∙ ap (λ (t : List ℕ). t ++ after) e in cc

no_chars : (text after rest : List ℕ) → IsChars text → 38 ∷ rest ≡ text ++ after → ⊥
no_chars [] after rest h e = h.some refl
no_chars (b ∷ text) after rest h e = let same : b ≡ 38 = cc in let no : is_in_text 38 ≡ true = ap is_in_text (sym same) ∙ h.within.0 in cc

no_cdata : (text after rest : List ℕ) → IsBracketed (codes "<![CDATA[") (codes "]]>") text → 38 ∷ rest ≡ text ++ after → ⊥
no_cdata text after rest h e = let no = begins_other 60 _ text after rest h.spelled e in cc

no_content : (first : Bool) (text after rest : List ℕ) (shape : Shape) → IsItem first text shape → 38 ∷ rest ≡ text ++ after →
    ((c : ℕ) → IsReference text c → ⊥) → role_of_shape shape ≡ content → ⊥
no_content first text after rest cdata is e none role = no_cdata text after rest is e
no_content first text after rest reference is e none role = none is.0 is.1
no_content first text after rest (chars false) is e none role = no_chars text after rest is.0 e
no_content first text after rest (chars true) is e none role = cc
no_content first text after rest (declaration attrs) is e none role = cc
no_content first text after rest instruction is e none role = cc
no_content first text after rest comment is e none role = cc
no_content first text after rest (start_tag name attrs empty) is e none role = cc
no_content first text after rest (end_tag name) is e none role = cc

-- what has a fault by its place of a number below 5 is content
is_content : (names : List (List ℕ)) (rooted : Bool) (role : Role) (what : TextWhat) → IsMisplaced names rooted role what → number_of what < 5 → role ≡ content
is_content names rooted (opening name) what m lt = absurd (omega (arith, opening_number names rooted name what m, lt))
is_content names rooted (closing name) what m lt = absurd (omega (arith, closing_number names rooted name what m, lt))
is_content names rooted content what m lt = refl
is_content names rooted free what m lt = absurd m

loose_lower : (first : Bool) (rest : List ℕ) (names : List (List ℕ)) (rooted : Bool) (shape : Shape) (after : List ℕ) (other : TextWhat) → BeginsLoose rest →
    HasItem first rest shape after → IsMisplaced names rooted (role_of_shape shape) other → number_of other < 5 → ⊥
loose_lower first rest names rooted shape after other loose item m lt = no_content first item.text after loose.rest shape item.is
    (sym loose.ampersand ∙ item.parts) (λ c r. loose.none item.text after c item.parts r) (is_content names rooted (role_of_shape shape) other m lt)

repeat_lower : (names : List (List ℕ)) (rooted : Bool) (shape : Shape) (other : TextWhat) → HasRepeat (attrs_of shape) →
    IsMisplaced names rooted (role_of_shape shape) other → number_of other < 7 → ⊥
repeat_lower names rooted (declaration attrs) other r m lt = m
repeat_lower names rooted (start_tag name attrs empty) other r m lt = omega (arith, opening_number names rooted name other m, lt)
repeat_lower names rooted shape other r m lt = let no = r.at_i in cc

-- an item with a fault of its own has none of a lower number by its place
own_is_lower : (first : Bool) (rest : List ℕ) (names : List (List ℕ)) (rooted : Bool) (shape : Shape) (after : List ℕ) (what other : TextWhat) →
    HasItemFault first rest what → HasItem first rest shape after → IsMisplaced names rooted (role_of_shape shape) other → number_of other < number_of what → ⊥
own_is_lower first rest names rooted shape after Encoding other fault item m lt = omega (arith, place_number names rooted (role_of_shape shape) other m, lt)
own_is_lower first rest names rooted shape after Doctype other fault item m lt = omega (arith, place_number names rooted (role_of_shape shape) other m, lt)
own_is_lower first rest names rooted shape after Markup other fault item m lt = omega (arith, place_number names rooted (role_of_shape shape) other m, lt)
own_is_lower first rest names rooted shape after Entity other fault item m lt = elim fault [
  | inl loose ↦ loose_lower first rest names rooted shape after other loose item m lt
  | inr tag ↦
      let same = (one_item first rest shape (start_tag tag.name tag.attrs tag.empty) after tag.after item tag.item).0 in
      omega (arith, opening_number names rooted tag.name other (subst (λ (s : Shape). IsMisplaced names rooted (role_of_shape s) other) same m), lt)
]
own_is_lower first rest names rooted shape after RepeatedAttribute other fault item m lt =
    let same = (one_item first rest shape fault.shape after fault.after item fault.item).0 in
    repeat_lower names rooted fault.shape other fault.repeat (subst (λ (s : Shape). IsMisplaced names rooted (role_of_shape s) other) same m) lt
own_is_lower first rest names rooted shape after Unfinished other fault item m lt = fault.no_item shape after item
own_is_lower first rest names rooted shape after what other fault item m lt = fault

pub own_fault : (bytes : List ℕ) (at : ℕ) (first : Bool) (state : State) (rooted : Bool) (what : TextWhat) → IsUtf8 bytes → Kept bytes at first state rooted →
    at < length bytes → IsLeastFault first (drop at bytes) what → IsTextFault bytes what at
own_fault bytes at first state rooted what utf8 k lt f =
    let least : IsLeastFault (is_first k.items) (drop at bytes) what = subst (λ (b : Bool). IsLeastFault b (drop at bytes) what) k.first_is f in
    first_is_one bytes at what (record {
      utf8 = utf8;
      before = k.items;
      rest = drop at bytes;
      comes_to = k.comes_to;
      sound = k.sound;
      some = λ e. omega (arith, length-drop at bytes, ap length e);
      fault = inl least.holds;
      least = λ other low h. elim h [
        | inl own ↦ least.least other low own
        | inr m ↦ own_is_lower (is_first k.items) (drop at bytes) (open_names k.items) (has_root k.items) m.shape m.after what other least.holds m.item
            m.misplaced low
      ];
    })

-- the fault that an item's own is answered as
pub item_fault : (bytes : List ℕ) (at : ℕ) (first : Bool) (state : State) (rooted : Bool) (e : ItemFault) → IsUtf8 bytes → Kept bytes at first state rooted →
    at < length bytes → (e ≡ answers.Memory) ⊎ IsItemFault first (drop at bytes) e → (fault_at e at ≡ reads.Memory) ⊎ IsReadFault bytes (fault_at e at)
item_fault bytes at first state rooted e utf8 k lt (inl want) = inl (ap (λ (f : ItemFault). fault_at f at) want)
item_fault bytes at first state rooted (answers.Item what) utf8 k lt (inr f) = inr (own_fault bytes at first state rooted what utf8 k lt f)
item_fault bytes at first state rooted answers.Memory utf8 k lt (inr f) = absurd f

pub place_fault : (bytes : List ℕ) (at : ℕ) (first : Bool) (state : State) (rooted : Bool) (kind : ItemKind) (after : List ℕ) (what : TextWhat) → IsUtf8 bytes →
    Kept bytes at first state rooted → at < length bytes → HasSoundItem first (drop at bytes) kind after →
    Some what ≡ fault_in (names_in state.stack) rooted (role_of kind) → IsTextFault bytes what at
place_fault bytes at first state rooted kind after what utf8 k lt sound e =
    let names : names_in state.stack ≡ open_names k.items = names_open k.items state k.state_is in
    let told : IsLeastMisplaced (names_in state.stack) rooted (role_of kind) what = subst (FaultIs (names_in state.stack) rooted (role_of kind)) (sym e)
    (fault_is (names_in state.stack) rooted (role_of kind)) in
    let least : IsLeastMisplaced (open_names k.items) (has_root k.items) (role_of kind) what = subst
    (λ (b : Bool). IsLeastMisplaced (open_names k.items) b (role_of kind) what) k.root_is
    (subst (λ (ns : List (List ℕ)). IsLeastMisplaced ns rooted (role_of kind) what) names told) in
    let item : HasItem (is_first k.items) (drop at bytes) sound.shape after = subst (λ (b : Bool). HasItem b (drop at bytes) sound.shape after) k.first_is
    sound.item in
    let role : role_of_shape sound.shape ≡ role_of kind = same_role sound.shape kind sound.kind_is in
    first_is_one bytes at what (record {
      utf8 = utf8;
      before = k.items;
      rest = drop at bytes;
      comes_to = k.comes_to;
      sound = k.sound;
      some = λ empty. omega (arith, length-drop at bytes, ap length empty);
      fault = inr (record {
        shape = sound.shape;
        after = after;
        item = item;
        misplaced = subst (λ (x : Role). IsMisplaced (open_names k.items) (has_root k.items) x what) (sym role)
            least.holds;
      });
      least = λ other low h. elim h [
        | inl own ↦ sound.sound other (subst (λ (b : Bool). HasItemFault b (drop at bytes) other) (sym k.first_is) own)
        | inr m ↦
            let same = one_item (is_first k.items) (drop at bytes) m.shape sound.shape m.after after m.item item in
            least.least other low (subst (λ (x : Role). IsMisplaced (open_names k.items) (has_root k.items) x other)
            (ap role_of_shape same.0 ∙ role) m.misplaced)
      ];
    })

-- ---- at the end

pub read_through : (bytes : List ℕ) (at : ℕ) (first : Bool) (state : State) (rooted : Bool) → length bytes ≤ MAX_FILE_BYTES → Kept bytes at first state rooted →
    length bytes ≤ at → IsReadThrough bytes state rooted
read_through bytes at first state rooted few k end =
    let here : at ≡ length bytes = omega (arith, k.within, end) in
    record {
      items = k.items;
      cut = record {
        cut = subst (λ (rest : List ℕ). Cuts true (start_of bytes) (drop (start_of bytes) bytes) k.items rest) (drop_all at bytes end) k.comes_to.cut;
        place = omega arith;
      };
      sound = k.sound;
      state_is = k.state_is;
      root_is = k.root_is;
      formed = all_formed state at (omega (arith, k.within, few)) k.formed;
    }

-- ---- signals

-- what one item adds to what is kept of signals
pub record AddsOne (m n : Marks) (at : ℕ) : Type 0 where
  pub tracks : n.tracks ≤ m.tracks + 1
  pub signals : (n.signals ≡ m.signals) ⊎ ((x : SignalElem) × (x.at ≡ at) × (n.signals ≡ m.signals ++ x ∷ []))

adds_here : (m : Marks) (at : ℕ) (attrs : List Attr) (here : Context) →
    AddsOne m (record { tracks = m.tracks + own_track here; signals = m.signals ++ own_signal here at attrs (m.tracks + own_track here) }) at
adds_here m at attrs contexts.Signal = record { tracks = omega arith; signals = inr (_, refl, refl) }
adds_here m at attrs (contexts.Selected kinds_of.Track) = record { tracks = omega arith; signals = inl (append-nil m.signals) }
adds_here m at attrs here = record { tracks = omega arith; signals = inl (append-nil m.signals) }

adds_item : (s : State) (m : Marks) (at : ℕ) (kind : ItemKind) → AddsOne m ((fold after_both (s, m) (tags_at at kind)).1) at
adds_item s m at (kinds.Start name attrs true) = adds_here m at attrs (below (context_in (top_frame s.stack)) name)
adds_item s m at (kinds.Start name attrs false) = adds_here m at attrs (below (context_in (top_frame s.stack)) name)
adds_item s m at (kinds.EndTag name) = record { tracks = omega arith; signals = inl refl }
adds_item s m at kind = record { tracks = omega arith; signals = inl refl }

pub record KeptBoth (bytes : List ℕ) (at : ℕ) (first : Bool) (state : State) (rooted : Bool) (marks : Marks) : Type 0 where
  pub kept : Kept bytes at first state rooted
  pub marks_are : marks ≡ marks_after kept.items
  pub few : marks.tracks ≤ at
  pub rising : AreRising marks.signals
  pub before : (i : ℕ) (a : SignalElem) → slice_get marks.signals i ≡ Some a → a.at < at

pub both_start : (bytes : List ℕ) (at : ℕ) (state : State) (rooted : Bool) (marks : Marks) → IsUtf8 bytes → at ≡ start_of bytes → state ≡ start →
    rooted ≡ false → marks ≡ no_marks → KeptBoth bytes at true state rooted marks
unfolding kept_start
both_start bytes at state rooted marks utf8 here s r m = record {
  kept = kept_start bytes at state rooted utf8 here s r;
  marks_are = m;
  few = rw m (omega arith);
  rising = rw m (record { rise = λ i j a b lt e f. absurd cc });
  before = rw m (λ i a e. absurd cc);
}

rising_more : (old new : List SignalElem) (at next : ℕ) → at < next → AreRising old → ((i : ℕ) (a : SignalElem) → slice_get old i ≡ Some a → a.at < at) →
    (new ≡ old) ⊎ ((x : SignalElem) × (x.at ≡ at) × (new ≡ old ++ x ∷ [])) → AreRising new × ((i : ℕ) (a : SignalElem) → slice_get new i ≡ Some a → a.at < next)
rising_more old new at next lt rise before (inl same) = rw same (rise, λ i a e. let low = before i a e in omega arith)
rising_more old new at next lt rise before (inr more) =
    let x = more.0 in
    let here : x.at ≡ at = more.1 in
    rw more.2 (
      record {
        rise = λ i j a b less e f. elim (get_pushed old x j b f) [
          | inl kept ↦
              (let within = slice_get_within old j b kept in
              elim (get_pushed old x i a e) [
                | inl earlier ↦ rise.rise i j a b less earlier kept
                | inr same ↦ absurd (omega (arith, same.0, within, less))
              ])
          | inr last ↦ elim (get_pushed old x i a e) [
            | inl earlier ↦ (let low = before i a earlier in let place : x.at ≡ b.at = ap (λ (y : SignalElem). y.at) last.1 in omega (arith, low, place, here))
            | inr same ↦ absurd (omega (arith, same.0, last.0, less))
          ]
        ];
      },
      λ i a e. elim (get_pushed old x i a e) [
        | inl kept ↦ (let low = before i a kept in omega arith)
        | inr last ↦ (let place : x.at ≡ a.at = ap (λ (y : SignalElem). y.at) last.1 in omega (arith, here, place))
      ],
    )

marks_push : (items : List Placed) (item : Placed) (state : State) (marks : Marks) → state ≡ state_after items → marks ≡ marks_after items →
    (fold after_both (state, marks) (tags_at item.at item.kind)).1 ≡ marks_after (items ++ item ∷ [])
marks_push items item state marks s m =
    let both = fold after_both (start, no_marks) (tags_in items) in
    let one : both.0 ≡ state = first_of_both (tags_in items) start no_marks ∙ sym s in
    let two : both.1 ≡ marks = sym m in
    let pair : State → Marks → State × Marks = λ a b. (a, b) in
    let same : both ≡ (state, marks) = ap (λ (a : State). pair a both.1) one ∙ ap (pair state) two in
    let whole : fold after_both (start, no_marks) (tags_in (items ++ item ∷ [])) ≡ fold after_both both (tags_at item.at item.kind) = ap
    (λ t. fold after_both (start, no_marks) t) (tags_push items item) ∙ fold-append after_both (start, no_marks) (tags_in items) (tags_at item.at item.kind) in
    sym (ap (λ (b : State × Marks). b.1) (whole ∙ ap (λ (b : State × Marks). fold after_both b (tags_at item.at item.kind)) same))

pub both_next : (bytes : List ℕ) (at next : ℕ) (first : Bool) (state after : State) (rooted root : Bool) (marks more : Marks) (kind : ItemKind) →
    KeptBoth bytes at first state rooted marks → HasSoundItem first (drop at bytes) kind (drop next bytes) → at < next → next ≤ length bytes →
    IsCharBoundary bytes next → None ≡ fault_in (names_in state.stack) rooted (role_of kind) → after ≡ fold after_tag state (tags_at at kind) →
    root ≡ (rooted || begins_element kind) → more ≡ (fold after_both (state, marks) (tags_at at kind)).1 → KeptBoth bytes next false after root more
unfolding kept_next
both_next bytes at next first state after rooted root marks more kind b sound lt within boundary free_of s r m =
    let adds = adds_item state marks at kind in
    let risen = rising_more marks.signals ((fold after_both (state, marks) (tags_at at kind)).1.signals) at next lt b.rising b.before adds.signals in
    record {
      kept = kept_next bytes at next first state after rooted root kind b.kept sound lt within boundary free_of s r;
      marks_are = m ∙ marks_push b.kept.items (record { at = at; kind = kind }) state marks b.kept.state_is b.marks_are;
      few = rw m (let some = b.few in let one = adds.tracks in omega (arith, some, one, lt));
      rising = rw m risen.0;
      before = rw m risen.1;
    }

pub marked_through : (bytes : List ℕ) (at : ℕ) (first : Bool) (state : State) (rooted : Bool) (marks : Marks) → length bytes ≤ MAX_FILE_BYTES →
    KeptBoth bytes at first state rooted marks → length bytes ≤ at → HasMarks bytes state rooted marks
unfolding read_through
marked_through bytes at first state rooted marks few b end = record {
  through = read_through bytes at first state rooted few b.kept end;
  marks_are = b.marks_are;
  rising = b.rising;
}

pub new_marks : (tracks : ℕ) (signals : List SignalElem) → tracks ≡ 0 → signals ≡ [] → marked tracks signals ≡ no_marks
new_marks tracks signals t s = ap (λ (n : ℕ). marked n signals) t ∙ ap (marked 0) s
