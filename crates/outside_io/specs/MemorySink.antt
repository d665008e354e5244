-- A sink in memory: what it was given, which puts are to fail, and how each put raises its count.
use Rattle.std.specs.Prelude.{ℕ, List, Ok, Err}
use Rattle.std.specs.declared.result.Result.{Result}
use Rattle.outside_io.specs.declared.memory_sink.MemorySink.{MemorySink}
use Rattle.outside_io.specs.declared.sink.SinkFault.{SinkFault}
use Rattle.outside_io.specs.declared.sink.SinkFault.TheVariants.{Failed, Memory}
use Rattle.outside_io.specs.Counts.{next_count}
use Rattle.outside_io.specs.FailingCalls.{FailingCalls, plan_of}

-- the bytes that the sink was given
abbrev pub sink_bytes : MemorySink → List ℕ
sink_bytes sink = sink.bytes.items

-- which puts are to fail, and how many puts there were
abbrev pub sink_plan : MemorySink → FailingCalls
sink_plan sink = plan_of sink.plan

-- the count of puts that failed
abbrev pub sink_faults : MemorySink → ℕ
sink_faults sink = sink.faults.value

-- a put that ended so is one fault more, or none
abbrev pub after_put : Result (Unit {0}) SinkFault → ℕ → ℕ
after_put (Ok done) faults = faults
after_put (Err Failed) faults = next_count faults
after_put (Err Memory) faults = faults
