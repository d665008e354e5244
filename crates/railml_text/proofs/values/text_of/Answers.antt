use Rattle.std.proofs.Common.{◌∙◌, sym}
use Rattle.railml_text.proofs.PlainLemmas.{plain_text}
use Rattle.railml_text.proofs.values.text_of.Goals as goal

pub returns-then-are_plain-clause-text : goal.returns-then-are_plain-clause-text
returns-then-are_plain-clause-text c = rw c.in_ok-from_bytes.ensures (plain_text c.args.value.now (sym c.are_plain.ensures ∙ c.if-are_plain.true))
