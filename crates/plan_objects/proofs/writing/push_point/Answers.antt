use Rattle.std.proofs.Common.{◌≡◌, ℕ, List, [], ◌∷◌, ◌++◌, refl, sym, ◌∙◌, ap, subst, append_assoc}
use Rattle.std.specs.Prelude.{codes}
use Rattle.std.specs.Fmt.{decimal}
use Rattle.std.proofs.lemmas.List.{append-nil}
use Rattle.std.proofs.lemmas.Result.{on_ok_weaker}
use Rattle.outside_io.specs.Fields.{spaced}
use Rattle.plan_objects.proofs.writing.push_point.Goals as goal

-- three fields and what stands behind them, as they are appended one after another and as they are said
appended : (front a b c more : List ℕ) → (((front ++ 32 ∷ a) ++ 32 ∷ b) ++ 32 ∷ c) ++ more ≡ front ++ 32 ∷ (a ++ 32 ∷ (b ++ 32 ∷ (c ++ more)))
appended front a b c more = simp append_assoc

said : (a b c more : List ℕ) → (a ++ 32 ∷ (b ++ 32 ∷ (c ++ []))) ++ more ≡ a ++ 32 ∷ (b ++ 32 ∷ (c ++ more))
said a b c more =
    append_assoc a (32 ∷ (b ++ 32 ∷ (c ++ []))) more
    ∙ ap (λ (xs : List ℕ). a ++ 32 ∷ xs) (append_assoc b (32 ∷ (c ++ [])) more ∙ ap (λ (xs : List ℕ). b ++ 32 ∷ (xs ++ more)) (append-nil c))

three_fields : (front a b c one two three four : List ℕ) → one ≡ front ++ 32 ∷ a → two ≡ one ++ 32 ∷ b → three ≡ two ++ 32 ∷ c → four ≡ three ++ codes "\n" →
    four ≡ front ++ spaced (a ∷ b ∷ c ∷ []) ++ codes "\n"
three_fields front a b c one two three four p q r s =
    let whole : four ≡ (((front ++ 32 ∷ a) ++ 32 ∷ b) ++ 32 ∷ c) ++ codes "\n" = rw (s, r, q, p) refl in
    whole ∙ appended front a b c (codes "\n") ∙ ap (λ (xs : List ℕ). front ++ 32 ∷ xs) (sym (said a b c (codes "\n")))
    ∙ sym (append_assoc front (spaced (a ∷ b ∷ c ∷ [])) (codes "\n"))

pub returns-clause-ok : goal.returns-clause-ok
returns-clause-ok c =
    let into = c.args.into.now.items in
    let one = c.push_number_field.new.into.items in
    let two = c.push_number_field-2.new.into.items in
    let three = c.push_number_field-3.new.into.items in
    on_ok_weaker c.push_text.result (λ last. three_fields into (decimal c.args.edge) (decimal c.args.at.x) (decimal c.args.at.y) one two three
    c.push_text.new.into.items
    (subst (λ (k : ℕ). one ≡ into ++ 32 ∷ decimal k) c.from.ensures c.in_ok-push_number_field.ensures.ok)
    (subst (λ (k : ℕ). two ≡ one ++ 32 ∷ decimal k) c.from-2.ensures c.in_ok-push_number_field-2.ensures.ok)
    (subst (λ (k : ℕ). three ≡ two ++ 32 ∷ decimal k) c.from-3.ensures c.in_ok-push_number_field-3.ensures.ok)
    last)
    c.push_text.ensures.ok
