use Rattle.std.proofs.Common.{◌≡◌, ℕ, List, [], ◌∷◌, ◌++◌, decimal, ◌∙◌, ap, sym, append_assoc}
use Rattle.std.proofs.lemmas.List.{append-nil}
use Rattle.std.proofs.lemmas.Result.{on_ok_weaker}
use Rattle.outside_io.specs.Criteria.{criterion_word as word_of}
use Rattle.refute_log.proofs.writing.write_bound.Goals as goal
use Rattle.refute_log.proofs.writing.write_bound.Goals.{After-push_number_field-2}

-- the front of the line, with one more field behind it
front : (old word k more : List ℕ) → (((old ++ 98 ∷ []) ++ 32 ∷ word) ++ 32 ∷ k) ++ more ≡ old ++ (98 ∷ 32 ∷ (word ++ 32 ∷ (k ++ more)))
front old word k more = simp append_assoc

written : (c : After-push_number_field-2) → c.push_number_field.new.into.items ≡ ((c.args.into.now.items ++ 98 ∷ []) ++ 32 ∷ word_of c.args.criterion) ++ 32
    ∷ decimal c.args.k
written c =
    let word : c.as_bytes.result.now ≡ word_of c.args.criterion = c.as_bytes.ensures.value ∙ c.criterion_word.ensures in
    c.in_ok-push_number_field.ensures.ok
    ∙ ap (λ (xs : List ℕ). xs ++ 32 ∷ decimal c.args.k) (c.in_ok-push_field.ensures.ok
    ∙ ap (λ (xs : List ℕ). xs ++ 32 ∷ c.as_bytes.result.now) c.in_ok-push_text.ensures.ok)
    ∙ ap (λ (w : List ℕ). ((c.args.into.now.items ++ 98 ∷ []) ++ 32 ∷ w) ++ 32 ∷ decimal c.args.k) word

pub returns-clause-ok : goal.returns-clause-ok
returns-clause-ok c =
    on_ok_weaker c.push_number_field-2.result (λ e. e ∙ ap (λ (xs : List ℕ). xs ++ 32 ∷ decimal c.args.variable) (written c)
    ∙ front c.args.into.now.items (word_of c.args.criterion) (decimal c.args.k) (32 ∷ decimal c.args.variable)
    ∙ ap (λ (xs : List ℕ). c.args.into.now.items ++ (98 ∷ 32 ∷ (word_of c.args.criterion ++ 32 ∷ (decimal c.args.k ++ 32 ∷ xs))))
    (sym (append-nil (decimal c.args.variable)))) c.push_number_field-2.ensures.ok

pub returns-clause-begins : goal.returns-clause-begins
returns-clause-begins c =
    let more = c.push_number_field-2.ensures.begins in (
      98 ∷ 32 ∷ (word_of c.args.criterion ++ 32 ∷ (decimal c.args.k ++ more.0)),
      more.1 ∙ ap (λ (xs : List ℕ). xs ++ more.0) (written c)
          ∙ front c.args.into.now.items (word_of c.args.criterion) (decimal c.args.k) more.0,
    )
