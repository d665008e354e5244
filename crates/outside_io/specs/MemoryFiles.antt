-- Files in memory: what they tell, which calls on them are to fail, and how each call raises their counts.
use Rattle.std.specs.Prelude.{ℕ, Ok, Err}
use Rattle.std.specs.declared.result.Result.{Result}
use Rattle.outside_io.specs.declared.files.FileFault.{FileFault}
use Rattle.outside_io.specs.declared.files.FileFault.TheVariants.{Failed, Memory}
use Rattle.outside_io.specs.declared.memory_files.MemoryFiles.{MemoryFiles}
use Rattle.outside_io.specs.Contents.{Told}
use Rattle.outside_io.specs.Counts.{next_count}
use Rattle.outside_io.specs.NamedBytes.{told_of}
use Rattle.outside_io.specs.FailingCalls.{FailingCalls, plan_of}

-- the bytes under each name
abbrev pub files_told : MemoryFiles → Told
files_told files = told_of files.named

-- which calls on the files are to fail, and how many calls there were
abbrev pub files_plan : MemoryFiles → FailingCalls
files_plan files = plan_of files.plan

-- the three counts: faults of reading, faults of creating and appending, and reads that were done
pub record FileCounts : Type 0 where
  pub read_faults : ℕ
  pub write_faults : ℕ
  pub reads : ℕ

-- the counts of the files
abbrev pub files_counts : MemoryFiles → FileCounts
files_counts files = record {
  read_faults = files.read_faults.value;
  write_faults = files.write_faults.value;
  reads = files.reads.value;
}

-- a read that ended so is one read more, or one fault of reading more, or neither
abbrev pub after_read : Result (Unit {0}) FileFault → FileCounts → FileCounts
after_read (Ok done) counts = record counts { reads = next_count counts.reads }
after_read (Err Failed) counts = record counts { read_faults = next_count counts.read_faults }
after_read (Err Memory) counts = counts

-- a creation or an appending that ended so is one fault of writing more, or nothing that is counted
abbrev pub after_write : Result (Unit {0}) FileFault → FileCounts → FileCounts
after_write (Ok done) counts = counts
after_write (Err Failed) counts = record counts { write_faults = next_count counts.write_faults }
after_write (Err Memory) counts = counts
