use Rattle.std.proofs.Common.{[]}
use Rattle.railml_text.specs.declared.written.WrittenAttr.{WrittenAttr}
use Rattle.railml_text.proofs.AttrLemmas.{texts_more, name_utf8, value_utf8, value_fault}
use Rattle.railml_text.proofs.judging.texts_of.Goals as goal

abbrev no_attr : WrittenAttr
no_attr = record { name = record { ref_ptr = (0, 0); now = [] }; value = record { ref_ptr = (0, 0); now = [] } }

pub from_bytes-requires : goal.from_bytes-requires
from_bytes-requires c = name_utf8 c.args.attrs.now c.loop-attr.attr-index no_attr c.requires c.loop-attr-test.true

pub text_of-requires : goal.text_of-requires
text_of-requires c = value_utf8 c.args.attrs.now c.loop-attr.attr-index no_attr c.requires c.loop-attr-test.true

pub returns-in-Err-clause-fault : goal.returns-in-Err-clause-fault
returns-in-Err-clause-fault c = value_fault c.args.attrs.now c.loop-attr.attr-index no_attr c.in-Err.fault c.loop-attr-test.true c.in-Err.ensures.fault

pub loop-attr-preserved : goal.loop-attr-preserved
loop-attr-preserved c =
    rw c.in_ok-push-in-Ok.ensures.ok (texts_more c.args.attrs.now c.loop-attr.attr-index no_attr c.loop-attr.texts (record {
      name = c.in_ok-name-in-Ok.name;
      value = c.in-Ok.value;
    }) c.loop-attr-test.true c.loop-attr.invariant c.in_ok-name-in-Ok.ensures c.in-Ok.ensures.text)
