use Rattle.railml_faults.proofs.IdLemmas.{row_at}
use Rattle.plan_core.proofs.SearchLemmas.{found_first, none_more_tested}
use Rattle.railml_faults.proofs.OutsideLemmas.{outside, outside_by}
use Rattle.railml_faults.proofs.outside.first_outside.Goals as goal

pub returns-then-lies_outside : goal.returns-then-lies_outside
returns-then-lies_outside c =
    let rows = c.args.rows.now in
    let row = c.index-rows-i.result in
    let i = c.loop-i.i in
    found_first c.loop-i.invariant c.loop-i-test.true c.index-rows-i.is (outside rows c.args.tables.now i row c.requires.formed c.requires.tables
    (row_at rows i row c.loop-i-test.true c.index-rows-i.is) row.kind (c.lies_outside.ensures.0 c.if-lies_outside.true))

pub loop-i-preserved : goal.loop-i-preserved
loop-i-preserved c =
    let rows = c.args.rows.now in
    let row = c.index-rows-i.result in
    let i = c.loop-i.i in
    none_more_tested c.lies_outside.result c.loop-i.invariant c.loop-i-test.true c.index-rows-i.is
    (λ had. c.lies_outside.ensures.1 (outside_by rows c.args.tables.now i row c.requires.formed c.requires.tables
    (row_at rows i row c.loop-i-test.true c.index-rows-i.is) row.kind had)) c.if-lies_outside.false
