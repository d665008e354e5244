-- Which fault of a call comes of a log's fault.
use Rattle.refute_log.specs.declared.sink.LogSinkFault.{LogSinkFault}
use Rattle.refute_log.specs.declared.sink.LogSinkFault.TheVariants.{Failed, Memory}
use Rattle.cdcl_core.specs.declared.fault.AddFault.{AddFault}
use Rattle.cdcl_core.specs.declared.fault.AddFault.TheVariants.{Log as AddLog, Memory as AddMemory}
use Rattle.cdcl_core.specs.declared.fault.SolveFault.{SolveFault}
use Rattle.cdcl_core.specs.declared.fault.SolveFault.TheVariants.{Log as SolveLog, Memory as SolveMemory}

-- which `AddFault` a log's fault becomes
abbrev pub add_fault : LogSinkFault → AddFault
add_fault Failed = AddLog
add_fault Memory = AddMemory

-- which `SolveFault` a log's fault becomes
abbrev pub solve_fault : LogSinkFault → SolveFault
solve_fault Failed = SolveLog
solve_fault Memory = SolveMemory
