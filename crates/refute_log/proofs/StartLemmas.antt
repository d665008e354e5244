-- What stands in a log's file once it has been started, or couldn't be.
use Rattle.std.proofs.Common.{◌≡◌, ℕ, Bool, false, List, [], ◌++◌, None, Some, ◌∙◌, ap}
use Rattle.std.specs.declared.option.Option.{Option}
use Rattle.outside_io.specs.Contents.{Told, WhereTold, Sets}
use Rattle.refute_log.specs.Lines.{header}
use Rattle.refute_log.specs.FileLog.{IsTold, TellsText}

-- a log that was just started tells no line
pub started : (a b : Option Told) (name own gathered : List ℕ) (failed : Bool) → own ≡ name → failed ≡ false → gathered ≡ [] →
    WhereTold a b (Sets name header) → IsTold a → TellsText failed b own gathered []
started None b name own gathered failed e f g w t = absurd t
started (Some x) None name own gathered failed e f g w t = absurd w
started (Some x) (Some y) name own gathered failed e f g w t = (f, (header, ap y e ∙ w.there, ap (λ (xs : List ℕ). header ++ xs) g), tt)
