-- What stands under a name where a whole file was to be written.
use Rattle.std.proofs.Common.{◌≡◌, ℕ, List, [], take, None, Some, ◌∙◌, inl, inr}
use Rattle.std.specs.Prelude.{◌⊎◌}
use Rattle.std.specs.declared.option.Option.{Option}
use Rattle.outside_io.specs.Contents.{Told, WhereTold, Creates, MayCreate, AppendsTo, MayAppendTo, Sets, MaySet}

-- the file is created, and the bytes are appended
pub whole : (a b c : Option Told) (name bytes : List ℕ) → WhereTold a b (Creates name) → WhereTold b c (AppendsTo name bytes) → WhereTold a c (Sets name bytes)
whole None b c name bytes h k = tt
whole (Some x) None c name bytes h k = absurd h
whole (Some x) (Some y) None name bytes h k = absurd k
whole (Some x) (Some y) (Some z) name bytes h k = record { there = k.grown [] h.empty; others = λ other ne. k.others other ne ∙ h.others other ne }

-- the file couldn't be created
pub not_created : (a b : Option Told) (name bytes : List ℕ) → WhereTold a b (MayCreate name) → WhereTold a b (MaySet name bytes)
not_created None b name bytes h = tt
not_created (Some x) None name bytes h = absurd h
not_created (Some x) (Some y) name bytes h = record {
  either = elim h.either as (λ e. (y name ≡ x name) ⊎ ((n : ℕ) × (y name ≡ Some (take n bytes)))) [ inl e ↦ inl e | inr e ↦ inr (0, e) ];
  others = h.others;
}

-- the bytes couldn't be appended, or not all
pub not_whole : (a b c : Option Told) (name bytes : List ℕ) → WhereTold a b (Creates name) → WhereTold b c (MayAppendTo name bytes) →
    WhereTold a c (MaySet name bytes)
not_whole None b c name bytes h k = tt
not_whole (Some x) None c name bytes h k = absurd h
not_whole (Some x) (Some y) None name bytes h k = absurd k
not_whole (Some x) (Some y) (Some z) name bytes h k = record { either = inr (k.grown [] h.empty); others = λ other ne. k.others other ne ∙ h.others other ne }
