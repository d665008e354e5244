use Rattle.std.proofs.Common.{arith}
use Rattle.outside_io.proofs.Results.{on_err_anyway}
use Rattle.outside_io.proofs.Unchanged.{appends_nothing}
use Rattle.outside_io.proofs.memory_files.MemoryFilesFiles.append.Goals as goal

pub returns-in_err-append-clause-err : goal.returns-in_err-append-clause-err
returns-in_err-append-clause-err c =
    on_err_anyway c.from_residual.result _ (appends_nothing _ _ _ _ (λ other. grind arith))
