-- The words of the criteria: each is one field, and no two are the same.
use Rattle.std.proofs.Common.{◌≡◌, ℕ, List, [], ◌++◌, get_or, refl, ap, arith}
use Rattle.plan_core.specs.declared.criterion.Criterion.{Criterion}
use Rattle.plan_core.specs.declared.criterion.Criterion.TheVariants.{Height, Bends, Diagonal, Width}
use Rattle.outside_io.specs.Fields.{IsOneField}
use Rattle.outside_io.specs.Criteria.{criterion_word}

pub word_is_one : (c : Criterion) → IsOneField (criterion_word c)
word_is_one Height = grind arith
word_is_one Bends = grind arith
word_is_one Diagonal = grind arith
word_is_one Width = grind arith

-- a text that begins with a word begins with no other
pub word_in_front : (c d : Criterion) (r s : List ℕ) → criterion_word c ++ r ≡ criterion_word d ++ s → (c ≡ d) × (r ≡ s)
word_in_front Height Height r s e = (refl, cc)
word_in_front Bends Bends r s e = (refl, cc)
word_in_front Diagonal Diagonal r s e = (refl, cc)
word_in_front Width Width r s e = (refl, cc)
word_in_front c d r s e = let z : get_or (criterion_word c ++ r) 0 0 ≡ get_or (criterion_word d ++ s) 0 0 = ap (λ (xs : List ℕ). get_or xs 0 0) e in absurd
    (omega arith)

pub word_once : (c d : Criterion) → criterion_word c ≡ criterion_word d → c ≡ d
word_once c d e = (word_in_front c d [] [] (ap (λ (xs : List ℕ). xs ++ []) e)).0
