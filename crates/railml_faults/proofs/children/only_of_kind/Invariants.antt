use Rattle.std.proofs.Common.{◌≡◌, take, filter}
use Rattle.std.specs.Option.{option_to_list}
use Rattle.railml_faults.specs.Rows.{is_of_kind}
use Rattle.railml_faults.proofs.children.only_of_kind.Given as goal

abbrev pub invariant-loop-number : goal.invariant-loop-number
invariant-loop-number l = filter (is_of_kind l.rows l.kind) (take l.number-index l.numbers) ≡ option_to_list l.found
