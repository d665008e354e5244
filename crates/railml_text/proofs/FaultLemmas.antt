-- The faults of one item.
use Rattle.std.proofs.Common.{◌≡◌, ℕ, ◌<◌, Bool, codes, Some, None, List, [], ◌∷◌, ◌++◌, Ok, Err, refl, sym, ◌∙◌, subst, arith, inl, inr}
use Rattle.std.specs.Prelude.{⊤}
use Rattle.plan_core.proofs.ListFacts.{same_heads}
use Rattle.railml_text.specs.declared.item.ItemKind.{ItemKind}
use Rattle.railml_text.specs.declared.item.ItemKind.TheVariants as kinds
use Rattle.railml_text.specs.declared.item.Attr.{Attr}
use Rattle.railml_text.specs.declared.fault.TextWhat.{TextWhat}
use Rattle.railml_text.specs.declared.fault.TextWhat.TheVariants.{NotUtf8, Encoding, Doctype, Markup, Entity, EndTag, RepeatedAttribute, Root, Unfinished}
use Rattle.railml_text.specs.declared.fault.TextWhat.TheVariants.{AfterRoot, Depth, NoInfrastructure}
use Rattle.railml_text.specs.declared.fault.ItemFault.{ItemFault}
use Rattle.railml_text.specs.declared.fault.ItemFault.TheVariants as answers
use Rattle.railml_text.specs.declared.miss.Miss.TheVariants.{Cut, Bad}
use Rattle.railml_text.specs.declared.miss.Stop.{Stop}
use Rattle.railml_text.specs.declared.miss.Stop.TheVariants as stops
use Rattle.railml_text.specs.Bytes.{BeginsWith}
use Rattle.railml_text.specs.References.{BeginsLoose}
use Rattle.railml_text.specs.Grammar.{Written}
use Rattle.railml_text.specs.Items.{Shape, declaration, instruction, comment, cdata, start_tag, end_tag, reference, chars, HasItem, AreTextsOf, IsKindOf}
use Rattle.railml_text.specs.Faults.{number_of, NamesOtherEncoding, HasRepeat, attrs_of, HasItemFault, IsLeastFault, HasSoundItem}
use Rattle.railml_text.specs.Reading.{Found, item, doctype, MarkupRead, Stopped}
use Rattle.railml_text.specs.Judging.{AnyLoose, OwnFault, IsLeastOwn, IsSoundKind, IsFoundKind, IsFoundFault, refusal_of, IsFaultAt}
use Rattle.railml_text.proofs.AttrLemmas.{texts_no_loose}
use Rattle.railml_text.proofs.OneItem.{Sort, sort_of, one_item, no_doctype, read_item, read_doctype, miss_no_item, miss_no_doctype, cut_front, bad_no_front}
use Rattle.railml_text.proofs.OneItem.{heads_differ, markup_heads, not_in_text}

-- ---- a fault at an item is a fault of that item

loose_no_item : (first : Bool) (rest : List ℕ) (shape : Shape) (after : List ℕ) → BeginsLoose rest → HasItem first rest shape after → ⊥
loose_no_item first rest shape after l h = by_sort (sort_of shape)
  where
    by_sort : Sort shape → ⊥
    by_sort (inl m) = let q = heads_differ 60 38 rest (markup_heads first rest shape after m h) (l.rest, l.ampersand) in absurd (omega (arith, q))
    by_sort (inr (inl r)) = let i = subst (λ (u : Shape). HasItem first rest u after) r h in l.none i.text after i.is.0 i.parts i.is.1
    by_sort (inr (inr c)) = not_in_text first rest after c.0 38 refl (subst (λ (u : Shape). HasItem first rest u after) c.1 h) (l.rest, l.ampersand)

pub own_fault : (first : Bool) (rest : List ℕ) (shape : Shape) (after : List ℕ) → HasItem first rest shape after → (what : TextWhat) →
    HasItemFault first rest what → OwnFault shape what
own_fault first rest shape after h NotUtf8 f = absurd f
own_fault first rest shape after h Encoding f = subst (λ (u : Shape). OwnFault u Encoding)
    (one_item first rest (declaration f.attrs) shape f.after after f.item h).0 f.names
own_fault first rest shape after h Doctype f = absurd (no_doctype first rest shape after h f)
own_fault first rest shape after h Markup f = absurd (f.no_item shape after h)
own_fault first rest shape after h Entity (inl f) = absurd (loose_no_item first rest shape after f h)
own_fault first rest shape after h Entity (inr f) = subst (λ (u : Shape). OwnFault u Entity)
    (one_item first rest (start_tag f.name f.attrs f.empty) shape f.after after f.item h).0 f.loose
own_fault first rest shape after h EndTag f = absurd f
own_fault first rest shape after h RepeatedAttribute f = repeated f.shape f.repeat (one_item first rest f.shape shape f.after after f.item h).0
  where
    repeat_in : (shape : Shape) → HasRepeat (attrs_of shape) → OwnFault shape RepeatedAttribute
    repeat_in (declaration attrs) r = r
    repeat_in instruction r = r
    repeat_in comment r = r
    repeat_in cdata r = r
    repeat_in (start_tag name attrs empty) r = r
    repeat_in (end_tag name) r = r
    repeat_in reference r = r
    repeat_in (chars blank) r = r

    repeated : (other : Shape) → HasRepeat (attrs_of other) → other ≡ shape → OwnFault shape RepeatedAttribute
    repeated other r e = subst (λ (u : Shape). OwnFault u RepeatedAttribute) e (repeat_in other r)
own_fault first rest shape after h Root f = absurd f
own_fault first rest shape after h Unfinished f = absurd (f.no_item shape after h)
own_fault first rest shape after h AfterRoot f = absurd f
own_fault first rest shape after h Depth f = absurd f
own_fault first rest shape after h NoInfrastructure f = absurd f

-- and the other way round
own_holds : (first : Bool) (rest : List ℕ) (shape : Shape) (after : List ℕ) → HasItem first rest shape after → (what : TextWhat) → OwnFault shape what →
    HasItemFault first rest what
own_holds first rest (declaration attrs) after h Encoding o = record { attrs = attrs; after = after; item = h; names = o }
own_holds first rest (declaration attrs) after h RepeatedAttribute o = record { shape = declaration attrs; after = after; item = h; repeat = o }
own_holds first rest (start_tag name attrs empty) after h Entity o = inr (record {
  name = name;
  attrs = attrs;
  empty = empty;
  after = after;
  item = h;
  loose = o;
})
own_holds first rest (start_tag name attrs empty) after h RepeatedAttribute o = record {
  shape = start_tag name attrs empty;
  after = after;
  item = h;
  repeat = o;
}
own_holds first rest instruction after h RepeatedAttribute o = record { shape = instruction; after = after; item = h; repeat = o }
own_holds first rest comment after h RepeatedAttribute o = record { shape = comment; after = after; item = h; repeat = o }
own_holds first rest cdata after h RepeatedAttribute o = record { shape = cdata; after = after; item = h; repeat = o }
own_holds first rest (end_tag name) after h RepeatedAttribute o = record { shape = end_tag name; after = after; item = h; repeat = o }
own_holds first rest reference after h RepeatedAttribute o = record { shape = reference; after = after; item = h; repeat = o }
own_holds first rest (chars blank) after h RepeatedAttribute o = record { shape = chars blank; after = after; item = h; repeat = o }
own_holds first rest shape after h what o = absurd o

-- ---- what is told of an item that was read

sound_item : (first : Bool) (rest : List ℕ) (shape : Shape) (after : List ℕ) (kind : ItemKind) → HasItem first rest shape after → IsSoundKind shape kind →
    HasSoundItem first rest kind after
sound_item first rest shape after kind h s = record {
  shape = shape;
  item = h;
  kind_is = s.kind_is;
  sound = λ what f. s.sound what (own_fault first rest shape after h what f);
}

least_fault : (first : Bool) (rest : List ℕ) (shape : Shape) (after : List ℕ) (what : TextWhat) → HasItem first rest shape after → IsLeastOwn shape what →
    IsLeastFault first rest what
least_fault first rest shape after what h o = record {
  holds = own_holds first rest shape after h what o.holds;
  least = λ other lt f. o.least other lt (own_fault first rest shape after h other f);
}

-- ---- after `<`

least_doctype : (first : Bool) (rest : List ℕ) → BeginsWith rest (codes "<!DOCTYPE") → (other : TextWhat) → number_of other < 3 →
    HasItemFault first rest other → ⊥
least_doctype first rest b NotUtf8 lt f = f
least_doctype first rest b Encoding lt f = no_doctype first rest (declaration f.attrs) f.after f.item b
least_doctype first rest b Doctype lt f = absurd (omega arith)
least_doctype first rest b Markup lt f = absurd (omega arith)
least_doctype first rest b Entity lt f = absurd (omega arith)
least_doctype first rest b EndTag lt f = f
least_doctype first rest b RepeatedAttribute lt f = absurd (omega arith)
least_doctype first rest b Root lt f = f
least_doctype first rest b Unfinished lt f = absurd (omega arith)
least_doctype first rest b AfterRoot lt f = f
least_doctype first rest b Depth lt f = f
least_doctype first rest b NoInfrastructure lt f = f

pub doctype_fault : (first : Bool) (bytes after : List ℕ) → MarkupRead first bytes (Ok (doctype, after)) → IsLeastFault first (60 ∷ bytes) Doctype
doctype_fault first bytes after h = let b = read_doctype first bytes after h in record { holds = b; least = least_doctype first (60 ∷ bytes) b }

not_loose : (bytes : List ℕ) → BeginsLoose (60 ∷ bytes) → ⊥
not_loose bytes l = let q = same_heads 60 38 bytes l.rest l.ampersand in absurd (omega (arith, q))

least_unfinished : (first : Bool) (bytes : List ℕ) → MarkupRead first bytes (Err Cut) → (other : TextWhat) → number_of other < 9 →
    HasItemFault first (60 ∷ bytes) other → ⊥
least_unfinished first bytes h NotUtf8 lt f = f
least_unfinished first bytes h Encoding lt f = miss_no_item first bytes Cut h (declaration f.attrs) f.after f.item
least_unfinished first bytes h Doctype lt f = miss_no_doctype first bytes Cut h f
least_unfinished first bytes h Markup lt f = f.no_front (cut_front first bytes h)
least_unfinished first bytes h Entity lt (inl f) = not_loose bytes f
least_unfinished first bytes h Entity lt (inr f) = miss_no_item first bytes Cut h (start_tag f.name f.attrs f.empty) f.after f.item
least_unfinished first bytes h EndTag lt f = f
least_unfinished first bytes h RepeatedAttribute lt f = miss_no_item first bytes Cut h f.shape f.after f.item
least_unfinished first bytes h Root lt f = f
least_unfinished first bytes h Unfinished lt f = absurd (omega arith)
least_unfinished first bytes h AfterRoot lt f = f
least_unfinished first bytes h Depth lt f = f
least_unfinished first bytes h NoInfrastructure lt f = f

unfinished_fault : (first : Bool) (bytes : List ℕ) → MarkupRead first bytes (Err Cut) → IsLeastFault first (60 ∷ bytes) Unfinished
unfinished_fault first bytes h = record {
  holds = record { begins = (bytes, refl); no_item = miss_no_item first bytes Cut h; front = cut_front first bytes h };
  least = least_unfinished first bytes h;
}

least_markup : (first : Bool) (bytes : List ℕ) → MarkupRead first bytes (Err Bad) → (other : TextWhat) → number_of other < 4 →
    HasItemFault first (60 ∷ bytes) other → ⊥
least_markup first bytes h NotUtf8 lt f = f
least_markup first bytes h Encoding lt f = miss_no_item first bytes Bad h (declaration f.attrs) f.after f.item
least_markup first bytes h Doctype lt f = miss_no_doctype first bytes Bad h f
least_markup first bytes h Markup lt f = absurd (omega arith)
least_markup first bytes h Entity lt f = absurd (omega arith)
least_markup first bytes h EndTag lt f = f
least_markup first bytes h RepeatedAttribute lt f = absurd (omega arith)
least_markup first bytes h Root lt f = f
least_markup first bytes h Unfinished lt f = absurd (omega arith)
least_markup first bytes h AfterRoot lt f = f
least_markup first bytes h Depth lt f = f
least_markup first bytes h NoInfrastructure lt f = f

markup_fault : (first : Bool) (bytes : List ℕ) → MarkupRead first bytes (Err Bad) → IsLeastFault first (60 ∷ bytes) Markup
markup_fault first bytes h = record {
  holds = record {
    begins = (bytes, refl);
    no_doctype = miss_no_doctype first bytes Bad h;
    no_item = miss_no_item first bytes Bad h;
    no_front = bad_no_front first bytes h;
  };
  least = least_markup first bytes h;
}

pub stop_fault : (first : Bool) (bytes : List ℕ) (stop : Stop) → Stopped (MarkupRead first bytes) stop → IsFaultAt first (60 ∷ bytes) (refusal_of stop)
stop_fault first bytes (stops.Miss Cut) h = unfinished_fault first bytes h
stop_fault first bytes (stops.Miss Bad) h = markup_fault first bytes h
stop_fault first bytes stops.Memory h = tt

pub found_sound : (first : Bool) (bytes : List ℕ) (found : Found) (after : List ℕ) (kind : ItemKind) → MarkupRead first bytes (Ok (found, after)) →
    IsFoundKind found kind → HasSoundItem first (60 ∷ bytes) kind after
found_sound first bytes (item shape) after kind h j = sound_item first (60 ∷ bytes) shape after kind (read_item first bytes shape after h) j
found_sound first bytes doctype after kind h j = absurd j

pub found_fault : (first : Bool) (bytes : List ℕ) (found : Found) (after : List ℕ) (fault : ItemFault) → MarkupRead first bytes (Ok (found, after)) →
    IsFoundFault found fault → IsFaultAt first (60 ∷ bytes) fault
found_fault first bytes found after answers.Memory h r = tt
found_fault first bytes (item shape) after (answers.Item what) h r = least_fault first (60 ∷ bytes) shape after what (read_item first bytes shape after h) r
found_fault first bytes doctype after (answers.Item what) h r = subst (IsLeastFault first (60 ∷ bytes)) (sym r) (doctype_fault first bytes after h)

-- ---- items without attributes have no fault

pub no_repeat : HasRepeat [] → ⊥
no_repeat r = let k : None ≡ Some r.name = r.at_i in cc

abbrev pub IsQuiet : Shape → Type 0
IsQuiet (declaration attrs) = ⊥
IsQuiet (start_tag name attrs empty) = ⊥
IsQuiet shape = ⊤

pub quiet : (shape : Shape) → IsQuiet shape → (what : TextWhat) → OwnFault shape what → ⊥
quiet (declaration attrs) q what f = q
quiet (start_tag name attrs empty) q what f = q
quiet instruction q RepeatedAttribute f = no_repeat f
quiet comment q RepeatedAttribute f = no_repeat f
quiet cdata q RepeatedAttribute f = no_repeat f
quiet (end_tag name) q RepeatedAttribute f = no_repeat f
quiet reference q RepeatedAttribute f = no_repeat f
quiet (chars blank) q RepeatedAttribute f = no_repeat f
quiet shape q what f = f

pub quiet_sound : (shape : Shape) (kind : ItemKind) → IsQuiet shape → IsKindOf shape kind → IsSoundKind shape kind
quiet_sound shape kind q k = record { kind_is = k; sound = quiet shape q }

-- ---- after `&`

least_loose : (first : Bool) (rest : List ℕ) → BeginsLoose rest → (other : TextWhat) → number_of other < 5 → HasItemFault first rest other → ⊥
least_loose first rest l NotUtf8 lt f = f
least_loose first rest l Encoding lt f = loose_no_item first rest (declaration f.attrs) f.after l f.item
least_loose first rest l Doctype lt f = let q = same_heads 60 38 (codes "!DOCTYPE" ++ f.0) l.rest (sym f.1 ∙ l.ampersand) in absurd (omega (arith, q))
least_loose first rest l Markup lt f = let q = same_heads 60 38 f.begins.0 l.rest (sym f.begins.1 ∙ l.ampersand) in absurd (omega (arith, q))
least_loose first rest l Entity lt f = absurd (omega arith)
least_loose first rest l EndTag lt f = f
least_loose first rest l RepeatedAttribute lt f = absurd (omega arith)
least_loose first rest l Root lt f = f
least_loose first rest l Unfinished lt f = absurd (omega arith)
least_loose first rest l AfterRoot lt f = f
least_loose first rest l Depth lt f = f
least_loose first rest l NoInfrastructure lt f = f

pub loose_fault : (first : Bool) (rest : List ℕ) → BeginsLoose rest → IsLeastFault first rest Entity
loose_fault first rest l = record { holds = inl l; least = least_loose first rest l }

pub quiet_item : (first : Bool) (rest : List ℕ) (shape : Shape) (after : List ℕ) (kind : ItemKind) → IsQuiet shape → HasItem first rest shape after →
    IsKindOf shape kind → HasSoundItem first rest kind after
quiet_item first rest shape after kind q h k = sound_item first rest shape after kind h (quiet_sound shape kind q k)

-- ---- the declaration and start tags

below_two : (attrs : List Written) (other : TextWhat) → number_of other < 2 → OwnFault (declaration attrs) other → ⊥
below_two attrs Encoding lt f = absurd (omega arith)
below_two attrs RepeatedAttribute lt f = absurd (omega arith)
below_two attrs other lt f = f

pub least_encoding : (attrs : List Written) → NamesOtherEncoding attrs → IsLeastOwn (declaration attrs) Encoding
least_encoding attrs h = record { holds = h; least = below_two attrs }

below_repeat : (attrs : List Written) → (NamesOtherEncoding attrs → ⊥) → (other : TextWhat) → number_of other < 7 → OwnFault (declaration attrs) other → ⊥
below_repeat attrs none Encoding lt f = none f
below_repeat attrs none RepeatedAttribute lt f = absurd (omega arith)
below_repeat attrs none other lt f = f

pub declaration_repeat : (attrs : List Written) → (NamesOtherEncoding attrs → ⊥) → HasRepeat attrs → IsLeastOwn (declaration attrs) RepeatedAttribute
declaration_repeat attrs none r = record { holds = r; least = below_repeat attrs none }

declaration_faults : (attrs : List Written) → (NamesOtherEncoding attrs → ⊥) → (HasRepeat attrs → ⊥) → (what : TextWhat) → OwnFault (declaration attrs) what → ⊥
declaration_faults attrs none once Encoding f = none f
declaration_faults attrs none once RepeatedAttribute f = once f
declaration_faults attrs none once what f = f

pub declaration_sound : (attrs : List Written) → (NamesOtherEncoding attrs → ⊥) → (HasRepeat attrs → ⊥) → IsSoundKind (declaration attrs) kinds.Declaration
declaration_sound attrs none once = record { kind_is = refl; sound = declaration_faults attrs none once }

below_start_repeat : (name : List ℕ) (attrs : List Written) (empty : Bool) → (AnyLoose attrs → ⊥) → (other : TextWhat) → number_of other < 7 →
    OwnFault (start_tag name attrs empty) other → ⊥
below_start_repeat name attrs empty none Entity lt f = none f
below_start_repeat name attrs empty none RepeatedAttribute lt f = absurd (omega arith)
below_start_repeat name attrs empty none other lt f = f

pub start_repeat : (name : List ℕ) (attrs : List Written) (empty : Bool) → (AnyLoose attrs → ⊥) → HasRepeat attrs →
    IsLeastOwn (start_tag name attrs empty) RepeatedAttribute
start_repeat name attrs empty none r = record { holds = r; least = below_start_repeat name attrs empty none }

start_faults : (name : List ℕ) (attrs : List Written) (empty : Bool) → (AnyLoose attrs → ⊥) → (HasRepeat attrs → ⊥) → (what : TextWhat) →
    OwnFault (start_tag name attrs empty) what → ⊥
start_faults name attrs empty none once Entity f = none f
start_faults name attrs empty none once RepeatedAttribute f = once f
start_faults name attrs empty none once what f = f

pub start_sound : (name : List ℕ) (attrs : List Written) (empty : Bool) (texts : List Attr) → AreTextsOf attrs texts → (HasRepeat attrs → ⊥) →
    IsSoundKind (start_tag name attrs empty) (kinds.Start name texts empty)
start_sound name attrs empty texts h once = record { kind_is = (texts, h, refl); sound = start_faults name attrs empty (texts_no_loose attrs texts h) once }
