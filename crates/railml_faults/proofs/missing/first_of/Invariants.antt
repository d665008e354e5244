use Rattle.std.proofs.Common.{◌≡◌, filter, take, []}
use Rattle.std.specs.Option.{is_none}
use Rattle.railml_faults.specs.Rows.{attribute_text}
use Rattle.railml_faults.proofs.missing.first_of.Given as goal

abbrev pub invariant-loop-attribute : goal.invariant-loop-attribute
invariant-loop-attribute l = filter (λ a. is_none (attribute_text a l.attrs)) (take l.attribute-index l.attributes) ≡ []
