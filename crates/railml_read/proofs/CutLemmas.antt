-- Two cuts of the same bytes: they are one, or one goes on where the other ends.
use Rattle.std.proofs.Common.{◌≡◌, ◌⊎◌, ℕ, Bool, false, List, [], ◌∷◌, ◌++◌, length, refl, sym, ap, ◌∙◌, subst, inl, inr, arith}
use Rattle.railml_text.specs.declared.item.ItemKind.{ItemKind}
use Rattle.railml_text.specs.Faults.{HasSoundItem}
use Rattle.railml_text.specs.Cutting.{Placed, Cuts}
use Rattle.railml_text.proofs.CutLemmas.{first_after, one_sound_item}

-- behind the items, and before the rest of the bytes, these come: an item, and more
pub record GoesOn (first : Bool) (items : List Placed) (rest : List ℕ) (others : List Placed) (last : List ℕ) : Type 0 where
  pub item : Placed
  pub more : List Placed
  pub next : ℕ
  pub after : List ℕ
  pub are : others ≡ items ++ item ∷ more
  pub sound : HasSoundItem (first_after first items) rest item.kind after
  pub behind : Cuts false next after more last

abbrev pub Compared : Bool → List Placed → List ℕ → List Placed → List ℕ → Type 0
Compared first items rest others last = ((items ≡ others) × (rest ≡ last)) ⊎ (GoesOn first items rest others last ⊎ GoesOn first others last items rest)

one_more : (first : Bool) (item other : Placed) (items others : List Placed) (rest last : List ℕ) → item ≡ other → Compared false items rest others last →
    Compared first (item ∷ items) rest (other ∷ others) last
one_more first item other items others rest last same c = elim c [
  | inl e ↦ inl (ap (λ (i : Placed). i ∷ items) same ∙ ap (λ (is : List Placed). other ∷ is) e.0, e.1)
  | inr d ↦ elim d [
    | inl g ↦ inr (inl (record {
      item = g.item;
      more = g.more;
      next = g.next;
      after = g.after;
      are = ap (λ (i : Placed). i ∷ others) (sym same)
          ∙ ap (λ (is : List Placed). item ∷ is) g.are;
      sound = subst (λ (b : Bool). HasSoundItem b rest g.item.kind g.after) (later items) g.sound;
      behind = g.behind;
    }))
    | inr g ↦ inr (inr (record {
      item = g.item;
      more = g.more;
      next = g.next;
      after = g.after;
      are = ap (λ (i : Placed). i ∷ items) same
          ∙ ap (λ (is : List Placed). other ∷ is) g.are;
      sound = subst (λ (b : Bool). HasSoundItem b last g.item.kind g.after) (later others) g.sound;
      behind = g.behind;
    }))
  ]
]
  where
    later : (items : List Placed) → first_after false items ≡ false
    later [] = refl
    later (i ∷ items) = refl

pub compared : (first : Bool) (at : ℕ) (bytes : List ℕ) (items : List Placed) (rest : List ℕ) (others : List Placed) (last : List ℕ) →
    Cuts first at bytes items rest → Cuts first at bytes others last → Compared first items rest others last
compared first at bytes [] rest [] last h k = inl (refl, sym h ∙ k)
compared first at bytes [] rest (other ∷ others) last h k = inr (inl (record {
  item = other;
  more = others;
  next = k.0;
  after = k.1;
  are = refl;
  sound = subst (λ (b : List ℕ). HasSoundItem first b other.kind k.1) h k.3;
  behind = k.5;
}))
compared first at bytes (item ∷ items) rest [] last h k = inr (inr (record {
  item = item;
  more = items;
  next = h.0;
  after = h.1;
  are = refl;
  sound = subst (λ (b : List ℕ). HasSoundItem first b item.kind h.1) k h.3;
  behind = h.5;
}))
compared first at bytes (item ∷ items) rest (other ∷ others) last h k =
    let one = one_sound_item first bytes item.kind other.kind h.1 k.1 h.3 k.3 in
    let next : h.0 ≡ k.0 = omega (arith, h.4, k.4, ap length one.1) in
    let made : ℕ → ItemKind → Placed = λ a b. record { at = a; kind = b } in
    let same : item ≡ other = ap (λ (a : ℕ). made a item.kind) (h.2 ∙ sym k.2) ∙ ap (made other.at) one.0 in
    one_more first item other items others rest last same (compared false h.0 h.1 items rest others last h.5
    (subst (λ (b : List ℕ). Cuts false h.0 b others last) (sym one.1) (subst (λ (n : ℕ). Cuts false n k.1 others last) (sym next) k.5)))
