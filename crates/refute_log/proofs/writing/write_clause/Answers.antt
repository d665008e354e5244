use Rattle.std.proofs.Common.{◌≡◌, ℕ, List, [], ◌∷◌, ◌++◌, map, sym, ◌∙◌, ap, append_assoc}
use Rattle.std.proofs.lemmas.Result.{on_ok_weaker}
use Rattle.cnf_core.specs.Lit.{Literal}
use Rattle.outside_io.specs.Fields.{spaced, unended_text}
use Rattle.refute_log.specs.Lines.{literal_text, clause_fields}
use Rattle.refute_log.proofs.LogLemmas.{flat_map_last}
use Rattle.refute_log.proofs.writing.write_clause.Goals as goal

-- `0` is the last field
ended : (old letter : List ℕ) (c : List Literal) → ((old ++ letter) ++ spaced (map literal_text c)) ++ (32 ∷ 48 ∷ []) ≡ old ++ unended_text letter
    (clause_fields c)
ended old letter c =
    append_assoc (old ++ letter) (spaced (map literal_text c)) (32 ∷ 48 ∷ [])
    ∙ append_assoc old letter (spaced (map literal_text c) ++ (32 ∷ 48 ∷ []))
    ∙ ap (λ (t : List ℕ). old ++ (letter ++ t)) (sym (flat_map_last (λ (field : List ℕ). 32 ∷ field) (map literal_text c) (48 ∷ [])))

pub returns-clause-ok : goal.returns-clause-ok
returns-clause-ok c =
    on_ok_weaker c.push_field.result (λ e. e ∙ ap (λ (xs : List ℕ). xs ++ (32 ∷ 48 ∷ []))
    (c.in_ok-write_literals.ensures.ok ∙ ap (λ (ls : List Literal). c.push_text.new.into.items ++ spaced (map literal_text ls)) c.as_slice.ensures.value
    ∙ ap (λ (xs : List ℕ). xs ++ spaced (map literal_text c.args.clause.now)) c.in_ok-push_text.ensures.ok)
    ∙ ended c.args.into.now.items c.args.letter.now c.args.clause.now) c.push_field.ensures.ok
