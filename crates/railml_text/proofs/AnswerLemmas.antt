-- What is told of the item at a place is this alone, or want of memory.
use Rattle.std.proofs.Common.{◌≡◌, ◌⊎◌, ◌≤◌, ℕ, Bool, List, length, drop, Result, Ok, Err, refl, ◌∙◌, ap, inl, inr, arith, length-drop}
use Rattle.std.specs.Result.{IfOk, IfErr}
use Rattle.plan_core.specs.Exactly.{AnswersExactly}
use Rattle.plan_core.proofs.ExactlyLemmas.{answers_exactly}
use Rattle.railml_text.specs.declared.item.Item.{Item}
use Rattle.railml_text.specs.declared.item.ItemKind.{ItemKind}
use Rattle.railml_text.specs.declared.fault.TextWhat.{TextWhat}
use Rattle.railml_text.specs.declared.fault.ItemFault.{ItemFault}
use Rattle.railml_text.specs.declared.fault.ItemFault.TheVariants as answers
use Rattle.railml_text.specs.Faults.{HasSoundItem, IsItemAt, IsItemFault}
use Rattle.railml_text.specs.Judging.{IsFaultAt}
use Rattle.railml_text.proofs.CutLemmas.{one_sound_item, one_fault}

module _ (first : Bool) (bytes : List ℕ) (at : ℕ) where
  one_item_at : (v w : Item) → IsItemAt first bytes at v → IsItemAt first bytes at w → v ≡ w
  one_item_at v w h k =
      let same = one_sound_item first (drop at bytes) v.kind w.kind (drop v.end bytes) (drop w.end bytes) h.sound k.sound in
      let lengths : length (drop v.end bytes) ≡ length (drop w.end bytes) = ap length same.1 in
      let ends : v.end ≡ w.end = omega (arith, length-drop v.end bytes, length-drop w.end bytes, lengths, h.within, k.within) in
      let item : ItemKind → ℕ → Item = λ kind end. record { kind = kind; end = end } in
      ap (λ kind. item kind v.end) same.0 ∙ ap (λ end. item w.kind end) ends

  one_item_fault : (e f : ItemFault) → IsItemFault first (drop at bytes) e → IsItemFault first (drop at bytes) f → e ≡ f
  one_item_fault (answers.Item what) (answers.Item other) h k = ap (λ (w : TextWhat). answers.Item w) (one_fault first (drop at bytes) what other h k)
  one_item_fault (answers.Item what) answers.Memory h k = absurd k
  one_item_fault answers.Memory f h k = absurd h

  item_or_fault : (v : Item) (e : ItemFault) → IsItemAt first bytes at v → IsItemFault first (drop at bytes) e → ⊥
  item_or_fault v (answers.Item what) h k = h.sound.sound what k.holds
  item_or_fault v answers.Memory h k = k

  items : (r : Result Item ItemFault) → IfOk r (λ item. HasSoundItem first (drop at bytes) item.kind (drop item.end bytes)) →
      IfOk r (λ item. item.end ≤ length bytes) → IfOk r (IsItemAt first bytes at)
  items (Ok item) sound within = record { sound = sound; within = within }
  items (Err e) sound within = tt

  faults : (r : Result Item ItemFault) → IfErr r (λ e. IsFaultAt first (drop at bytes) e) →
      IfErr r (λ e. (e ≡ answers.Memory) ⊎ IsItemFault first (drop at bytes) e)
  faults (Ok item) h = tt
  faults (Err (answers.Item what)) h = inr h
  faults (Err answers.Memory) h = inl refl

  pub scanned : (r : Result Item ItemFault) → IfOk r (λ item. HasSoundItem first (drop at bytes) item.kind (drop item.end bytes)) →
      IfOk r (λ item. item.end ≤ length bytes) → IfErr r (λ e. IsFaultAt first (drop at bytes) e) →
      AnswersExactly r answers.Memory (IsItemAt first bytes at) (IsItemFault first (drop at bytes))
  scanned r sound within fault = answers_exactly r answers.Memory (IsItemAt first bytes at) (IsItemFault first (drop at bytes)) (items r sound within)
      (faults r fault) one_item_at one_item_fault item_or_fault
