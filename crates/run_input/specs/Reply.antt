-- How a run ends that has no answer.
use Rattle.refute_log.specs.declared.sink.LogSinkFault.{LogSinkFault}
use Rattle.refute_log.specs.declared.sink.LogSinkFault.TheVariants as faults
use Rattle.run_input.specs.declared.reply.Cut.{Cut}
use Rattle.run_input.specs.declared.reply.Cut.TheVariants as cuts
use Rattle.run_input.specs.declared.status.Status.{Status}
use Rattle.run_input.specs.declared.status.Status.TheVariants.{Unwritten, NoMemory}

-- the status of a run that has no answer
abbrev pub status_of_cut : Cut → Status
status_of_cut cuts.Unwritten = Unwritten
status_of_cut cuts.Memory = NoMemory

-- why a run has no answer where a log failed
abbrev pub cut_of : LogSinkFault → Cut
cut_of faults.Failed = cuts.Unwritten
cut_of faults.Memory = cuts.Memory
