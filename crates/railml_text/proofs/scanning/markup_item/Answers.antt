use Rattle.railml_text.specs.Reading.{found_of}
use Rattle.railml_text.proofs.FaultLemmas.{found_sound, found_fault, stop_fault}
use Rattle.railml_text.proofs.ScanLemmas.{found_utf8}
use Rattle.railml_text.proofs.scanning.markup_item.Goals as goal

pub kind_of-requires : goal.kind_of-requires
kind_of-requires c = found_utf8 c.args.first c.args.tail.now (found_of c.in-Ok.markup) c.in-Ok.after.now c.in-Ok.ensures c.requires

pub returns-in-Ok-kind_of-clause-item : goal.returns-in-Ok-kind_of-clause-item
returns-in-Ok-kind_of-clause-item c = found_sound c.args.first c.args.tail.now (found_of c.in-Ok.markup) c.in-Ok.after.now c.in-Ok-kind_of.kind c.in-Ok.ensures
    c.in-Ok-kind_of.ensures.kind

pub returns-in-Err-kind_of-clause-fault : goal.returns-in-Err-kind_of-clause-fault
returns-in-Err-kind_of-clause-fault c = found_fault c.args.first c.args.tail.now (found_of c.in-Ok.markup) c.in-Ok.after.now c.in-Err-kind_of.fault
    c.in-Ok.ensures c.in-Err-kind_of.ensures.fault

pub returns-in-Err-clause-fault : goal.returns-in-Err-clause-fault
returns-in-Err-clause-fault c = rw c.fault_of.ensures (stop_fault c.args.first c.args.tail.now c.in-Err.stop c.in-Err.ensures)
