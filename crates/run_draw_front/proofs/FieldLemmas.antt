-- Fields that are appended one after another.
use Rattle.std.proofs.Common.{◌≡◌, ℕ, List, [], ◌∷◌, ◌++◌, append_assoc}
use Rattle.std.proofs.lemmas.List.{append-nil}
use Rattle.outside_io.specs.Fields.{spaced}

-- four of them
pub four_spaced : (into a b c d one two three four : List ℕ) → one ≡ into ++ 32 ∷ a → two ≡ one ++ 32 ∷ b → three ≡ two ++ 32 ∷ c → four ≡ three ++ 32 ∷ d →
    four ≡ into ++ spaced (a ∷ b ∷ c ∷ d ∷ [])
four_spaced into a b c d one two three four p q r s = rw (s, r, q, p) (simp (append_assoc, append-nil))
