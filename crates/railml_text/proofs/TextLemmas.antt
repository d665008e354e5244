-- Parts of a text that are texts.
use Rattle.std.proofs.Common.{◌≡◌, ℕ, ◌+◌, ◌<◌, List, [], ◌∷◌, ◌++◌, length, get_or, drop, refl, sym, ap, ◌∙◌, subst, append_assoc, length-append, arith}
use Rattle.std.proofs.lemmas.List.{take_at, drop_at}
use Rattle.std.specs.Str.{IsUtf8}
use Rattle.std.proofs.lemmas.Str.{IsUtf8-take, IsUtf8-drop, IsCharBoundary-before_ascii, IsCharBoundary-after_ascii}

read_at : (a : List ℕ) (c : ℕ) (b : List ℕ) → get_or (a ++ c ∷ b) (length a) 0 ≡ c
read_at [] c b = refl
read_at (x ∷ a) c b = read_at a c b

within_at : (a : List ℕ) (c : ℕ) (b : List ℕ) → length a < length (a ++ c ∷ b)
within_at a c b = omega (arith, length-append a (c ∷ b))

-- what stands before an ASCII character
pub text_before : (a : List ℕ) (c : ℕ) (b : List ℕ) → c < 128 → IsUtf8 (a ++ c ∷ b) → IsUtf8 a
text_before a c b lt u =
    subst IsUtf8 (take_at a (c ∷ b) (length a) refl) (IsUtf8-take (a ++ c ∷ b) (length a) u
    (IsCharBoundary-before_ascii (a ++ c ∷ b) (length a) (within_at a c b) (omega (arith, read_at a c b))))

-- what stands after it
pub text_after : (a : List ℕ) (c : ℕ) (b : List ℕ) → c < 128 → IsUtf8 (a ++ c ∷ b) → IsUtf8 b
text_after a c b lt u =
    let n : length (a ++ c ∷ []) ≡ length a + 1 = omega (arith, length-append a (c ∷ [])) in
    let whole : a ++ c ∷ b ≡ (a ++ c ∷ []) ++ b = sym (append_assoc a (c ∷ []) b) in
    let dropped : drop (length a + 1) (a ++ c ∷ b) ≡ b = ap (λ (t : List ℕ). drop (length a + 1) t) whole ∙ drop_at (a ++ c ∷ []) b (length a + 1) n in
    subst IsUtf8 dropped (IsUtf8-drop (a ++ c ∷ b) (length a + 1) u (IsCharBoundary-after_ascii (a ++ c ∷ b) (length a) u (within_at a c b)
    (omega (arith, read_at a c b))))

-- what begins with it
pub text_from : (a : List ℕ) (c : ℕ) (b : List ℕ) → c < 128 → IsUtf8 (a ++ c ∷ b) → IsUtf8 (c ∷ b)
text_from a c b lt u =
    subst IsUtf8 (drop_at a (c ∷ b) (length a) refl) (IsUtf8-drop (a ++ c ∷ b) (length a) u
    (IsCharBoundary-before_ascii (a ++ c ∷ b) (length a) (within_at a c b) (omega (arith, read_at a c b))))
