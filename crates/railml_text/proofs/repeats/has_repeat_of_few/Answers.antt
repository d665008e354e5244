use Rattle.std.proofs.Common.{◌∙◌, [], sym}
use Rattle.railml_text.specs.declared.written.WrittenAttr.{WrittenAttr}
use Rattle.railml_text.proofs.AttrLemmas.{no_repeat_more, repeat_found}
use Rattle.railml_text.proofs.repeats.has_repeat_of_few.Goals as goal

pub returns-then-is_among-clause-yes : goal.returns-then-is_among-clause-yes
returns-then-is_among-clause-yes c =
    let d : WrittenAttr = record { name = record { ref_ptr = (0, 0); now = [] }; value = record { ref_ptr = (0, 0); now = [] } } in
    λ h. repeat_found c.args.attrs.now c.loop-i.i d c.loop-i-test.true (sym c.is_among.ensures ∙ c.if-is_among.true)

pub loop-i-preserved : goal.loop-i-preserved
loop-i-preserved c =
    let d : WrittenAttr = record { name = record { ref_ptr = (0, 0); now = [] }; value = record { ref_ptr = (0, 0); now = [] } } in
    no_repeat_more c.args.attrs.now c.loop-i.i d c.loop-i-test.true c.loop-i.invariant (sym c.is_among.ensures ∙ c.if-is_among.false)
