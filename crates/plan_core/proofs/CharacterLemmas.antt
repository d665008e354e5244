-- The characters of ids, by a test and by what is said of them.
use Rattle.std.proofs.Common.{◌≡◌, ◌⊎◌, ℕ, ◌<◌, Bool, true, false, ◌&&◌, ◌||◌, List, [], ◌∷◌, refl, ◌∙◌, ap, inl, inr, nat_lt}
use Rattle.std.specs.List.{list_all, All}
use Rattle.std.proofs.lemmas.Bool.{ltb-true, lt-ltb, and_parts}
use Rattle.std.proofs.lemmas.List.Elements.{All-nil, All-cons, recursion_from_All}
use Rattle.std.specs.List.{AllByRecursion}
use Rattle.plan_core.specs.Topology.{IsIdCharacter, is_id_character}

either : (a b : Bool) → (a || b) ≡ true → (a ≡ true) ⊎ (b ≡ true)
either true b h = inl refl
either false b h = inr h

pub tells : (c : ℕ) → is_id_character c ≡ true → IsIdCharacter c
tells c h = let parts = and_parts (nat_lt 32 c) (nat_lt c 127 || nat_lt 160 c) h in (ltb-true 32 c parts.0, by (either (nat_lt c 127) (nat_lt 160 c) parts.1))
  where
    by : (nat_lt c 127 ≡ true) ⊎ (nat_lt 160 c ≡ true) → (c < 127) ⊎ (160 < c)
    by (inl e) = inl (ltb-true c 127 e)
    by (inr e) = inr (ltb-true 160 c e)

pub told : (c : ℕ) → IsIdCharacter c → is_id_character c ≡ true
told c h = ap (λ b. b && (nat_lt c 127 || nat_lt 160 c)) (lt-ltb 32 c h.0) ∙ by h.1
  where
    orb : (a b : Bool) → b ≡ true → (a || b) ≡ true
    orb true b e = refl
    orb false b e = e

    by : (c < 127) ⊎ (160 < c) → (nat_lt c 127 || nat_lt 160 c) ≡ true
    by (inl e) = ap (λ b. b || nat_lt 160 c) (lt-ltb c 127 e)
    by (inr e) = orb (nat_lt c 127) (nat_lt 160 c) (lt-ltb 160 c e)

pub characters_told : (cs : List ℕ) → list_all is_id_character cs ≡ true → All IsIdCharacter cs
characters_told [] h = All-nil IsIdCharacter
characters_told (c ∷ cs) h = let parts = and_parts (is_id_character c) (list_all is_id_character cs) h in All-cons IsIdCharacter c cs (tells c parts.0)
    (characters_told cs parts.1)

by_recursion : (cs : List ℕ) → AllByRecursion IsIdCharacter cs → list_all is_id_character cs ≡ true
by_recursion [] h = refl
by_recursion (c ∷ cs) h = ap (λ b. b && list_all is_id_character cs) (told c h.0) ∙ by_recursion cs h.1

pub characters_tell : (cs : List ℕ) → All IsIdCharacter cs → list_all is_id_character cs ≡ true
characters_tell cs h = by_recursion cs (recursion_from_All IsIdCharacter cs h)
