use Rattle.std.proofs.Common.{◌≡◌, drop, filter}
use Rattle.railml_faults.specs.Rows.{is_of_kind}
use Rattle.railml_faults.proofs.children.two_of_kind.Given as goal

abbrev pub invariant-loop-i : goal.invariant-loop-i
invariant-loop-i l = filter (is_of_kind l.rows l.kind) (drop l.i l.numbers) ≡ filter (is_of_kind l.rows l.kind) l.numbers
