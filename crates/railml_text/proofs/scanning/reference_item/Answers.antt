use Rattle.std.proofs.Common.{sym}
use Rattle.railml_text.proofs.ScanLemmas.{reference_sound, reference_none}
use Rattle.railml_text.proofs.scanning.reference_item.Goals as goal

pub returns-in-Some-clause-item : goal.returns-in-Some-clause-item
returns-in-Some-clause-item c = λ first. reference_sound first c.args.rest.now c.in-Some.field-0-0 c.in-Some.after.now (sym c.in-Some.ensures)

pub returns-in-None-clause-fault : goal.returns-in-None-clause-fault
returns-in-None-clause-fault c = λ first. reference_none first c.args.rest.now c.requires.some c.requires.begins (sym c.in-None.ensures)
