use Rattle.std.specs.Prelude.{map}
use Rattle.railml_text.specs.Reading.{written_of}
use Rattle.railml_text.proofs.MarkupLemmas.{start_read}
use Rattle.railml_text.proofs.markup.start_tag_at.Goals as goal

pub returns-in_ok-attrs-in-Ok : goal.returns-in_ok-attrs-in-Ok
returns-in_ok-attrs-in-Ok c =
    let tail = c.in_ok-attrs-in-Ok in
    start_read c.args.bytes.now c.in-Ok.name.now c.in-Ok.rest.now (map written_of tail.attrs.items) tail.empty tail.rest.now c.in-Ok.ensures tail.ensures
