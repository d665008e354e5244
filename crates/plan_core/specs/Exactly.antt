-- Exactly this answer, or want of memory: what a function that reads, resolves or builds says of its result.
use Rattle.std.specs.Prelude.{◌≡◌, ◌⊎◌, Result, IfOk, IfErr, MatchResult}

-- an Ok is a value of the input, and an error is a fault of it or want of memory; an input that has a value, or
-- a fault, is answered by that very one or by want of memory
pub record AnswersExactly {T E : Type 0} (result : Result T E) (memory : E) (IsValue : T → Type 0)
    (IsFault : E → Type 0) : Type 0 where
  pub value : IfOk result IsValue
  pub fault : IfErr result (λ e. (e ≡ memory) ⊎ IsFault e)
  pub given_value : (v : T) → IsValue v → MatchResult result (λ r. r ≡ v) (λ e. e ≡ memory)
  pub given_fault : (f : E) → IsFault f → MatchResult result (λ r. ⊥) (λ e. (e ≡ memory) ⊎ (e ≡ f))
