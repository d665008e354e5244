use Rattle.std.specs.Prelude.{◌≡◌, ℕ, List, [], ◌∷◌, ◌++◌, codes}
use Rattle.std.specs.Fmt.{decimal}
use Rattle.std.proofs.Common.{append_assoc}
use Rattle.std.proofs.lemmas.List.{append-nil}
use Rattle.outside_io.specs.Fields.{line_text}
use Rattle.run_check.proofs.verdict.lawful_line.Goals as goal

-- a line whose four fields are appended one after another
four_fields : (first a b c d one two three four five six : List ℕ) → one ≡ first → two ≡ one ++ 32 ∷ a → three ≡ two ++ 32 ∷ b → four ≡ three ++ 32 ∷ c →
    five ≡ four ++ 32 ∷ d → six ≡ five ++ codes "\n" →
    six ≡ line_text first (a ∷ b ∷ c ∷ d ∷ [])
four_fields first a b c d one two three four five six p q r s t u = rw (u, t, s, r, q, p) (simp (append_assoc, append-nil))

pub returns : goal.returns
returns c =
    let v = c.args.values in
    four_fields (codes "lawful") (decimal v.height) (decimal v.bends) (decimal v.diagonal) (decimal v.width)
    c.in_ok-line.line.items c.push_number_field.new.into.items c.push_number_field-2.new.into.items c.push_number_field-3.new.into.items
    c.push_number_field-4.new.into.items c.push_text.new.into.items
    c.in_ok-line.ensures.items c.in_ok-push_number_field.ensures.ok c.in_ok-push_number_field-2.ensures.ok c.in_ok-push_number_field-3.ensures.ok
    c.in_ok-push_number_field-4.ensures.ok c.in_ok-push_text.ensures.ok
