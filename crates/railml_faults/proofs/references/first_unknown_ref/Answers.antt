use Rattle.std.proofs.Common.{◌∙◌, sym, None, get_or}
use Rattle.plan_core.proofs.SearchLemmas.{found_first, none_more}
use Rattle.railml_faults.proofs.ReferenceLemmas.{target_at, unknown, known}
use Rattle.railml_faults.proofs.references.first_unknown_ref.Goals as goal

pub returns-then-is_unknown : goal.returns-then-is_unknown
returns-then-is_unknown c =
    let rows = c.args.rows.now in
    let row = c.index-rows-i.result in
    let i = c.loop-i.i in
    let target = target_at rows c.args.targets.now i row c.requires c.loop-i-test.true c.index-rows-i.is in
    found_first c.loop-i.invariant c.loop-i-test.true c.index-rows-i.is (unknown rows row (get_or c.args.targets.now i None) target
    (sym c.is_unknown.ensures ∙ c.if-is_unknown.true))

pub loop-i-preserved : goal.loop-i-preserved
loop-i-preserved c =
    let rows = c.args.rows.now in
    let row = c.index-rows-i.result in
    let i = c.loop-i.i in
    let target = target_at rows c.args.targets.now i row c.requires c.loop-i-test.true c.index-rows-i.is in
    none_more c.loop-i.invariant c.loop-i-test.true c.index-rows-i.is (known rows row (get_or c.args.targets.now i None) target
    (sym c.is_unknown.ensures ∙ c.if-is_unknown.false))
