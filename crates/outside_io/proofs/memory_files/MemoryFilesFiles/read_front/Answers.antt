use Rattle.std.proofs.Common.{arith}
use Rattle.outside_io.proofs.Unchanged.{begins_itself}
use Rattle.outside_io.proofs.memory_files.MemoryFilesFiles.read_front.Goals as goal
use Rattle.outside_io.proofs.memory_files.MemoryFilesFiles.read_front.Goals.{then-next_fails-via-then-next_fails}
use Rattle.outside_io.proofs.memory_files.MemoryFilesFiles.read_front.Goals.{then-next_fails-via-else-next_fails+in_ok-read_front+then-not-branch}

-- a call that fails by its number, and one whose name isn't there, read nothing
pub returns-then-next_fails-clause-begins : goal.returns-then-next_fails-clause-begins
returns-then-next_fails-clause-begins c =
    elim c.then-next_fails.branch [
      | then-next_fails-via-then-next_fails w ↦ begins_itself _ _ (grind arith)
      | then-next_fails-via-else-next_fails+in_ok-read_front+then-not-branch w ↦ begins_itself _ _ (grind arith)
    ]
