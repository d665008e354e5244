use Rattle.std.proofs.Common.{take}
use Rattle.std.specs.Prelude.{All}
use Rattle.plan_words.specs.WordFaults.{MayBothStand}
use Rattle.plan_words.proofs.files.has_clash.Given as goal

abbrev pub invariant-loop-other : goal.invariant-loop-other
invariant-loop-other l = All (λ e. MayBothStand e l.file) (take l.other-index l.earlier)
