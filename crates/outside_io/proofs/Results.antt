-- What is known of a result, whichever it is.
use Rattle.std.specs.Prelude.{Ok, Err, OnErr}
use Rattle.std.specs.declared.result.Result.{Result}

-- a fact that holds anyway holds at an error
pub on_err_anyway : {T E : Type 0} (r : Result T E) (P : Type 0) → P → OnErr r P
on_err_anyway (Ok x) P fact = tt
on_err_anyway (Err e) P fact = fact
