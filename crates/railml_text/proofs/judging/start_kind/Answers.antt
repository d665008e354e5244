use Rattle.std.specs.Prelude.{map}
use Rattle.railml_text.specs.Reading.{written_of}
use Rattle.railml_text.proofs.AttrLemmas.{texts_no_loose}
use Rattle.railml_text.proofs.FaultLemmas.{start_repeat, start_sound}
use Rattle.railml_text.proofs.judging.start_kind.Goals as goal

pub returns-then-repeated-clause-fault : goal.returns-then-repeated-clause-fault
returns-then-repeated-clause-fault c =
    let attrs = map written_of c.args.attrs.now in
    start_repeat c.args.name.now attrs c.args.empty (texts_no_loose attrs c.in-Ok.texts c.in-Ok.ensures.texts) (c.in_ok-repeated.ensures.yes c.if-repeated.true)

pub returns-in_ok-name-in-Ok-clause-kind : goal.returns-in_ok-name-in-Ok-clause-kind
returns-in_ok-name-in-Ok-clause-kind c =
    let attrs = map written_of c.args.attrs.now in
    rw c.in_ok-name-in-Ok.ensures (start_sound c.args.name.now attrs c.args.empty c.in-Ok.texts c.in-Ok.ensures.texts
    (c.in_ok-repeated.ensures.no c.if-repeated.false))
