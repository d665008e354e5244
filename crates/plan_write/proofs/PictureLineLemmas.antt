-- Texts that are written one after another.
use Rattle.std.specs.Prelude.{◌≡◌, List, ◌++◌}
use Rattle.std.proofs.Common.{ℕ, ap, ◌∙◌, append_assoc}
use Rattle.outside_io.specs.Contents.{Begins}

-- texts that are appended one after another
pub appended_four : (old a b c d one two three four : List ℕ) → one ≡ old ++ a → two ≡ one ++ b → three ≡ two ++ c → four ≡ three ++ d →
    four ≡ old ++ (a ++ (b ++ (c ++ d)))
appended_four old a b c d one two three four e f g h =
    h
    ∙ ap (λ (xs : List ℕ). xs ++ d) (g ∙ ap (λ (xs : List ℕ). xs ++ c) (f ∙ ap (λ (xs : List ℕ). xs ++ b) e))
    ∙ append_assoc ((old ++ a) ++ b) c d
    ∙ append_assoc (old ++ a) b (c ++ d)
    ∙ append_assoc old a (b ++ (c ++ d))

-- what begins with a text that begins so begins so
pub begins_more : (old into new : List ℕ) → Begins old into → Begins into new → Begins old new
begins_more old into new (a, e) (b, f) = (a ++ b, f ∙ ap (λ (xs : List ℕ). xs ++ b) e ∙ append_assoc old a b)
