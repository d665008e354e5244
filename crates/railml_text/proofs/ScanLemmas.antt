-- The item at a place.
use Rattle.std.proofs.Common.{◌≡◌, ◌≢◌, ℕ, ◌-◌, ◌<◌, Bool, true, Some, None, List, [], ◌∷◌, ◌++◌, length, take, drop, get_or, Ok, refl, sym, ap, ◌∙◌, subst}
use Rattle.std.proofs.Common.{append_assoc, length-append, length-drop, take-append-drop, arith}
use Rattle.std.specs.List.{list_all}
use Rattle.std.specs.Str.{IsUtf8, IsCharBoundary}
use Rattle.std.proofs.lemmas.List.{drop_at, take_all}
use Rattle.std.proofs.lemmas.Str.{IsUtf8-drop, IsCharBoundary-from_drop}
use Rattle.railml_text.specs.declared.item.ItemKind.{ItemKind}
use Rattle.railml_text.specs.declared.item.ItemKind.TheVariants as kinds
use Rattle.railml_text.specs.declared.fault.TextWhat.TheVariants.{Entity}
use Rattle.railml_text.specs.Bytes.{is_blank, is_in_text, front, past}
use Rattle.railml_text.specs.Items.{reference, chars, IsLongest}
use Rattle.railml_text.specs.Faults.{IsLeastFault, HasSoundItem}
use Rattle.railml_text.specs.Reading.{Found, item, doctype, MarkupRead, reference_at}
use Rattle.railml_text.specs.Judging.{IsUtf8Found}
use Rattle.railml_text.proofs.RunLemmas.{front-past, front_passes, take_front, past_ends}
use Rattle.railml_text.proofs.ReferenceLemmas.{reference_takes, reference_again, found}
use Rattle.railml_text.proofs.OneItem.{read_item}
use Rattle.railml_text.proofs.FaultLemmas.{quiet_item, loose_fault}
use Rattle.railml_text.proofs.PartLemmas.{parts_utf8, after_utf8, item_some}

pub front_is : (rest : List ℕ) → 0 < length rest → rest ≡ get_or rest 0 0 ∷ drop 1 rest
front_is [] lt = absurd (omega arith)
front_is (b ∷ rest) lt = refl

-- the names and values of what was read
pub found_utf8 : (first : Bool) (bytes : List ℕ) (found : Found) (after : List ℕ) → MarkupRead first bytes (Ok (found, after)) → IsUtf8 (60 ∷ bytes) →
    IsUtf8Found found
found_utf8 first bytes (item shape) after h u = parts_utf8 first (60 ∷ bytes) shape after (read_item first bytes shape after h) u
found_utf8 first bytes doctype after h u = tt

-- ---- references and characters

pub reference_sound : (first : Bool) (rest : List ℕ) (c : ℕ) (after : List ℕ) → reference_at rest ≡ Some (c, after) →
    HasSoundItem first rest kinds.Reference after
reference_sound first rest c after e =
    let t = reference_takes rest c after e in
    quiet_item first rest reference after kinds.Reference tt (record { text = t.text; is = (c, t.is); longest = tt; parts = t.parts }) refl

pub reference_none : (first : Bool) (rest : List ℕ) → 0 < length rest → get_or rest 0 0 ≡ 38 → reference_at rest ≡ None → IsLeastFault first rest Entity
reference_none first rest some begins e = loose_fault first rest (record {
  rest = drop 1 rest;
  ampersand = front_is rest some ∙ ap (λ (b : ℕ). b ∷ drop 1 rest) begins;
  none = λ text after c p r. let both : None ≡ found c after = sym e ∙ ap reference_at p ∙ reference_again text c after r in cc;
})

front_some : (rest : List ℕ) → 0 < length rest → is_in_text (get_or rest 0 0) ≡ true → front is_in_text rest ≢ []
front_some [] lt e = absurd (omega arith)
front_some (b ∷ rest) lt e = rw e (λ h. cc)

longest_past : (rest : List ℕ) (blank : Bool) (p : List ℕ) → past is_in_text rest ≡ p → IsLongest (chars blank) p
longest_past rest blank [] e = tt
longest_past rest blank (b ∷ p) e = past_ends is_in_text rest b p e

pub chars_sound : (first : Bool) (rest : List ℕ) → 0 < length rest → is_in_text (get_or rest 0 0) ≡ true
    → HasSoundItem first rest (kinds.Chars (list_all is_blank (take (length rest - length (past is_in_text rest)) rest))) (past is_in_text rest)
chars_sound first rest some begins =
    let text = front is_in_text rest in
    let blank = list_all is_blank text in
    rw (take_front is_in_text rest) (quiet_item first rest (chars blank) (past is_in_text rest) (kinds.Chars blank) tt (record {
      text = text;
      is = (record { some = front_some rest some begins; within = front_passes is_in_text rest }, refl);
      longest = longest_past rest blank (past is_in_text rest) refl;
      parts = sym (front-past is_in_text rest);
    }) refl)

-- ---- places

-- the item's text stands between the two places
record Between (bytes : List ℕ) (at : ℕ) (after : List ℕ) : Type 0 where
  text : List ℕ
  parts : drop at bytes ≡ text ++ after
  shorter : length after < length (drop at bytes)

between : (first : Bool) (bytes : List ℕ) (at : ℕ) (kind : ItemKind) (after : List ℕ) → HasSoundItem first (drop at bytes) kind after → Between bytes at after
between first bytes at kind after h = record { text = h.item.text; parts = h.item.parts; shorter = item_some first (drop at bytes) h.shape after h.item }

end_drop : (bytes : List ℕ) (at : ℕ) (after : List ℕ) → at < length bytes → Between bytes at after → drop (length bytes - length after) bytes ≡ after
end_drop bytes at after lt b =
    let front = take at bytes ++ b.text in
    let whole : bytes ≡ front ++ after = sym (take-append-drop at bytes) ∙ ap (λ (u : List ℕ). take at bytes ++ u) b.parts
    ∙ sym (append_assoc (take at bytes) b.text after) in
    let count : length front ≡ length bytes - length after = omega (arith, ap length whole, length-append front after) in
    ap (λ (u : List ℕ). drop (length bytes - length after) u) whole ∙ drop_at front after (length bytes - length after) count

pub end_sound : (first : Bool) (bytes : List ℕ) (at : ℕ) (kind : ItemKind) (after : List ℕ) → at < length bytes →
    HasSoundItem first (drop at bytes) kind after → HasSoundItem first (drop at bytes) kind (drop (length bytes - length after) bytes)
end_sound first bytes at kind after lt h = subst (HasSoundItem first (drop at bytes) kind)
    (sym (end_drop bytes at after lt (between first bytes at kind after h))) h

pub end_boundary : (first : Bool) (bytes : List ℕ) (at : ℕ) (kind : ItemKind) (after : List ℕ) → at < length bytes → IsUtf8 bytes → IsCharBoundary bytes at →
    HasSoundItem first (drop at bytes) kind after
    → IsCharBoundary bytes (length bytes - length after)
end_boundary first bytes at kind after lt u c h =
    let rest = after_utf8 first (drop at bytes) h.shape after h.item (IsUtf8-drop bytes at u c) in
    let e = end_drop bytes at after lt (between first bytes at kind after h) in
    IsCharBoundary-from_drop bytes (length bytes - length after) (omega arith) (subst IsUtf8 (sym e) rest)

pub rest_utf8 : (bytes : List ℕ) (at : ℕ) → IsUtf8 bytes → IsCharBoundary bytes at → IsUtf8 (drop at bytes)
rest_utf8 bytes at u c = IsUtf8-drop bytes at u c

pub rest_is : (bytes : List ℕ) (at : ℕ) → take (length bytes - at) (drop at bytes) ≡ drop at bytes
rest_is bytes at = take_all (length bytes - at) (drop at bytes) (omega (arith, length-drop at bytes))
