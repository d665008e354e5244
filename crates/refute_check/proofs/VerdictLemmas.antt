-- Whether some Refuted line has only allowed literals.
use Rattle.std.proofs.Common.{◌≡◌, ℕ, ◌<◌, List, length, get_or, sym, ◌∙◌, ap, subst}
use Rattle.std.specs.Prelude.{Bool, All, Any, Option}
use Rattle.std.proofs.lemmas.List.Elements.{All-contains}
use Rattle.cnf_core.specs.Lit.{Literal}
use Rattle.cnf_core.specs.Clause.{Clauses, HasAllOf}
use Rattle.cnf_core.specs.Formula.{Cnf}
use Rattle.refute_check.specs.Kept.{CheckedFacts, checked_facts, Refutes}

refuted_is : (room : ℕ) (f : Cnf) (q : Option (List Literal)) (rs : Clauses) (lost : Bool) (items : Clauses) (kept : CheckedFacts) → items ≡ rs →
    checked_facts room f q rs lost ≡ kept → items ≡ kept.facts.refuted
refuted_is room f q rs lost items kept e k = e ∙ ap (λ (m : CheckedFacts). m.facts.refuted) k

pub refutes_at : (room : ℕ) (f : Cnf) (q : Option (List Literal)) (rs : Clauses) (lost : Bool) (items : Clauses) (kept : CheckedFacts) (allowed : List Literal)
    (i : ℕ) (c : List Literal) → items ≡ rs → checked_facts room f q rs lost ≡ kept → i < length items → c ≡ get_or items i c → HasAllOf allowed c →
    Refutes kept allowed
refutes_at room f q rs lost items kept allowed i c e k within at h = subst (λ (cs : Clauses). Any (λ d. HasAllOf allowed d) cs)
    (refuted_is room f q rs lost items kept e k) (i, c, within, sym at, h)

pub refutes_none : (room : ℕ) (f : Cnf) (q : Option (List Literal)) (rs : Clauses) (lost : Bool) (items : Clauses) (kept : CheckedFacts)
    (allowed : List Literal) → items ≡ rs → checked_facts room f q rs lost ≡ kept → All (λ d. HasAllOf allowed d → ⊥) items → Refutes kept allowed → ⊥
refutes_none room f q rs lost items kept allowed e k none r =
    let some : Any (λ d. HasAllOf allowed d) items = subst (λ (cs : Clauses). Any (λ d. HasAllOf allowed d) cs)
    (sym (refuted_is room f q rs lost items kept e k)) r in
    All-contains (λ d. HasAllOf allowed d → ⊥) items some.1 none (some.0, some.2, some.3) some.4
