-- How 'exactly this answer, or want of memory' is shown: by what an Ok and an error are, and by the input's
-- having one value or one fault.
use Rattle.std.proofs.Common.{◌≡◌, ◌⊎◌, inl, inr, Result, Ok, Err}
use Rattle.std.specs.Result.{IfOk, IfErr}
use Rattle.plan_core.specs.Exactly.{AnswersExactly}

pub answers_exactly : {T E : Type 0} (result : Result T E) (memory : E) (IsValue : T → Type 0) (IsFault : E → Type 0) → IfOk result IsValue →
    IfErr result (λ e. (e ≡ memory) ⊎ IsFault e) → ((v w : T) → IsValue v → IsValue w → v ≡ w) → ((e f : E) → IsFault e → IsFault f → e ≡ f) →
    ((v : T) (f : E) → IsValue v → IsFault f → ⊥) → AnswersExactly result memory IsValue IsFault
answers_exactly (Ok r) memory IsValue IsFault value fault one_value one_fault not_both = record {
  value = value;
  fault = fault;
  given_value = λ v is. one_value r v value is;
  given_fault = λ f is. not_both r f value is;
}
answers_exactly (Err e) memory IsValue IsFault value fault one_value one_fault not_both = record {
  value = value;
  fault = fault;
  given_value = λ v is. elim fault [ inl want ↦ want | inr wrong ↦ absurd (not_both v e is wrong) ];
  given_fault = λ f is. elim fault [ inl want ↦ inl want | inr wrong ↦ inr (one_fault e f wrong is) ];
}
