-- Numbers and literals in a field.
use Rattle.std.proofs.Common.{◌≡◌, ◌≢◌, ℕ, ◌<◌, ◌≤◌, ◌^◌, ◌++◌, ◌∷◌, List, Bool, true, false, IsTrue, get_or, decimal, Option, Some, None, MatchOption, sym}
use Rattle.std.proofs.Common.{◌∙◌, ap, refl, arith}
use Rattle.outside_io.specs.Numbers.{IsNumberIn, IsNumberField}
use Rattle.outside_io.proofs.NumberLemmas.{decimal_begins}
use Rattle.cnf_core.specs.declared.limits.TheConstants.{LAST_VAR}
use Rattle.refute_log.specs.Lines.{literal_sign}
use Rattle.refute_log.specs.LineForm.{Field, IsLiteral}

-- a number from 1 to the greatest
pub read_as_field : (greatest : ℕ) (field : Field) (o : Option ℕ) → MatchOption o ((n : ℕ) → IsNumberIn 1 greatest field n → ⊥) (IsNumberIn 1 greatest field) →
    MatchOption o (IsNumberField 1 greatest field → ⊥) (IsNumberIn 1 greatest field)
read_as_field greatest field None h = λ k. h k.0 k.1
read_as_field greatest field (Some n) h = h

-- no literal is spelled, where the digits behind the sign are no variable's number
no_literal_at : (p q : Bool) (field digits : List ℕ) (v : ℕ) → field ≡ literal_sign p ++ digits → (IsTrue p → (rest : List ℕ) → field ≢ 45 ∷ rest) → 1 ≤ v →
    v ≤ LAST_VAR → field ≡ literal_sign q ++ decimal v → (IsNumberField 1 LAST_VAR digits → ⊥) → ⊥
no_literal_at true true field digits v e minus from to f none = none (v, record { written = sym e ∙ f; from = from; to = to })
no_literal_at true false field digits v e minus from to f none = minus refl (decimal v) f
no_literal_at false true field digits v e minus from to f none =
    let big : v < 2 ^ 64 = omega arith in
    let begins = decimal_begins v big in
    let first : get_or (decimal v) 0 0 ≡ 45 = ap (λ (xs : List ℕ). get_or xs 0 0) (sym f ∙ e) in
    omega (arith, begins.above)
no_literal_at false false field digits v e minus from to f none = let same : digits ≡ decimal v = cc in none (
  v,
  record {
    written = same;
    from = from;
    to = to;
  },
)

pub no_literal : (positive : Bool) (field digits : List ℕ) → field ≡ literal_sign positive ++ digits → (IsTrue positive → (rest : List ℕ) → field ≢ 45 ∷ rest) →
    (IsNumberField 1 LAST_VAR digits → ⊥) → IsLiteral field → ⊥
no_literal positive field digits e minus none l = no_literal_at positive l.literal.positive field digits l.literal.var e minus l.there.0 l.there.1 l.spelled
    none
