use Rattle.std.proofs.Common.{arith}
use Rattle.std.proofs.lemmas.List.{append-nil}
use Rattle.outside_io.proofs.Results.{on_err_anyway}
use Rattle.outside_io.proofs.memory_sink.MemorySinkSink.put.Goals as goal

-- no byte was added
pub returns-in_err-extend_from_slice-clause-err : goal.returns-in_err-extend_from_slice-clause-err
returns-in_err-extend_from_slice-clause-err c =
    on_err_anyway c.from_residual.result _ (0, grind (arith, append-nil))
