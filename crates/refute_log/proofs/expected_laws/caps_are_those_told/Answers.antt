use Rattle.std.proofs.Common.{List, ◌∙◌, ap}
use Rattle.plan_core.specs.declared.criterion.Criterion.{Criterion}
use Rattle.refute_log.specs.Expected.{expected_lines}
use Rattle.refute_log.proofs.CapsLemmas.{caps_told}
use Rattle.refute_log.proofs.expected_laws.caps_are_those_told.Goals as goal

pub returns : goal.returns
returns c' = λ e greatest cap order c lines all once within told.
    let here = told ∙ ap (λ (cs : List Criterion). expected_lines e cs cap) once.is in
    caps_told e all greatest cap once.before once.behind c lines once.not_before once.not_behind within here
