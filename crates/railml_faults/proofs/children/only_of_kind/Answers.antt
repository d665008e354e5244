use Rattle.std.proofs.Common.{sym, ◌∙◌}
use Rattle.railml_faults.specs.Rows.{is_of_kind}
use Rattle.railml_faults.proofs.ChildLemmas.{two_found}
use Rattle.railml_faults.proofs.children.only_of_kind.Goals as goal

pub returns-then-is_some : goal.returns-then-is_some
returns-then-is_some c = sym (two_found (is_of_kind c.args.rows.now c.args.kind) c.args.numbers.now c.loop-number.number-index c.loop-number.found
    c.loop-number-test.true c.loop-number.invariant (sym c.is_some.ensures ∙ c.if-is_some.true) (sym c.is_of_kind.ensures ∙ c.if-is_of_kind.true))
