use Rattle.std.proofs.Common.{Option, subst}
use Rattle.railml_faults.specs.declared.finding.Finding.{Finding}
use Rattle.railml_faults.specs.Telling.{FindsLowest}
use Rattle.railml_faults.proofs.ToldLemmas.{told_first, no_fault, some_first}
use Rattle.railml_faults.proofs.telling.first_fault.Goals as goal

pub returns-in_ok-tell-in-Some : goal.returns-in_ok-tell-in-Some
returns-in_ok-tell-in-Some c =
    let rows = c.args.rows.now in
    let some = some_first rows c.track_at.result c.is_none.result c.track_at.ensures c.is_none.ensures c.if-is_none.false in
    let lowest = subst (λ (found : Option Finding). FindsLowest rows found) c.in-Some.is c.first_finding.ensures in
    told_first rows c.in-Some.found c.in_ok-tell-in-Some.field-0 c.requires.formed some lowest c.in_ok-tell-in-Some.ensures

pub returns-in-None : goal.returns-in-None
returns-in-None c =
    let rows = c.args.rows.now in
    let some = some_first rows c.track_at.result c.is_none.result c.track_at.ensures c.is_none.ensures c.if-is_none.false in
    no_fault rows some (subst (λ (found : Option Finding). FindsLowest rows found) c.in-None.is c.first_finding.ensures)
