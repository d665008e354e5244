use Rattle.std.proofs.Common.{ap, [], Some, unwrap_or, ℕ, List}
use Rattle.outside_io.specs.Contents.{Told}
use Rattle.outside_io.proofs.sure_files.SureFiles.new.Goals as goal

-- a name with no bytes is there, and empty
pub returns-clause-contents : goal.returns-clause-contents
returns-clause-contents c =
    ap (λ (told : Told). Some (λ (name : List ℕ). Some (unwrap_or (told name) []))) c.new.ensures
