use Rattle.std.proofs.Common.{◌∙◌, sym}
use Rattle.std.specs.Option.{is_none}
use Rattle.railml_faults.specs.declared.attributes.Attribute.TheVariants.{Id}
use Rattle.railml_faults.specs.Rows.{attribute_text}
use Rattle.railml_faults.proofs.ListLemmas.{first_passes}
use Rattle.railml_faults.proofs.missing.first_of.Goals as goal

pub returns-then-is_missing : goal.returns-then-is_missing
returns-then-is_missing c = sym (first_passes (λ a. is_none (attribute_text a c.args.attrs.now)) c.args.attributes.now c.loop-attribute.attribute-index Id
    c.loop-attribute-test.true c.loop-attribute.invariant (sym c.is_missing.ensures ∙ c.if-is_missing.true))
