-- A value of bytes that stand for themselves is its own text.
use Rattle.std.proofs.Common.{◌≡◌, ◌≢◌, ℕ, true, List, [], ◌∷◌, refl, subst}
use Rattle.std.specs.Prelude.{map}
use Rattle.std.specs.List.{list_all}
use Rattle.std.proofs.lemmas.Bool.{and_parts}
use Rattle.railml_text.specs.Plain.{is_plain}
use Rattle.railml_text.specs.Values.{plain, AreSpelled, IsValueText}

is_not : (b c : ℕ) → is_plain b ≡ true → is_plain c ≢ true → b ≢ c
is_not b c e n h = n (subst (λ (d : ℕ). is_plain d ≡ true) h e)

plain_spelled : (value : List ℕ) → list_all is_plain value ≡ true → AreSpelled (map plain value) value value
plain_spelled [] e = (refl, refl)
plain_spelled (b ∷ bytes) e =
    let both = and_parts (is_plain b) (list_all is_plain bytes) e in
    let differs : (b ≢ 38) × (b ≢ 9) × (b ≢ 10) × (b ≢ 13) = (
      is_not b 38 both.0 (λ h. cc),
      is_not b 9 both.0 (λ h. cc),
      is_not b 10 both.0 (λ h. cc),
      is_not b
          13 both.0 (λ h. cc),
    ) in
    (bytes, bytes, differs, refl, refl, plain_spelled bytes both.1)

pub plain_text : (value : List ℕ) → list_all is_plain value ≡ true → IsValueText value value
plain_text value e = (map plain value, plain_spelled value e)
