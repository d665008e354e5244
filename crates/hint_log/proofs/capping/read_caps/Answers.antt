use Rattle.std.proofs.lemmas.Bool.{false≢true}
use Rattle.hint_log.specs.Parts.{caps_form}
use Rattle.hint_log.proofs.CapsLemmas.{caps_text_of}
use Rattle.hint_log.proofs.capping.read_caps.Goals as goal

pub returns-then-not-are_in_range-clause-fault : goal.returns-then-not-are_in_range-clause-fault
returns-then-not-are_in_range-clause-fault c = (
  c.in-Some-caps_in.caps,
  caps_text_of c.args.text.now (caps_form c.in-Some.fields) c.in-Some-caps_in.caps c.in-Some.ensures c.in-Some-caps_in.ensures,
  λ r. false≢true (c.if-not-are_in_range.ensures.1 r),
)
