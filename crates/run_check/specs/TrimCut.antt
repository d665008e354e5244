-- How a run ends where trim has no answer.
use Rattle.run_input.specs.declared.reply.Cut.{Cut}
use Rattle.run_input.specs.declared.reply.Cut.TheVariants as cuts
use Rattle.run_check.specs.declared.trim_cut.TrimCut.{TrimCut}
use Rattle.run_check.specs.declared.trim_cut.TrimCut.TheVariants.{Unwritten, Memory}

-- why the run has no answer
abbrev pub cut_of_trim : TrimCut → Cut
cut_of_trim Unwritten = cuts.Unwritten
cut_of_trim Memory = cuts.Memory
