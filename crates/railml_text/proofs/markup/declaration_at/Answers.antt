use Rattle.std.proofs.Common.{◌≡◌, ◌∷◌, refl}
use Rattle.std.specs.Prelude.{map}
use Rattle.railml_text.specs.Reading.{written_of}
use Rattle.railml_text.proofs.MarkupLemmas.{declaration_read}
use Rattle.railml_text.proofs.markup.declaration_at.Goals as goal

pub returns-in_ok-insert-in-Ok : goal.returns-in_ok-insert-in-Ok
returns-in_ok-insert-in-Ok c =
    let tail = c.in_ok-attrs-in-Ok in
    let first = written_of c.in-Ok.first in
    let all : map written_of c.insert.new.self.items ≡ first ∷ map written_of tail.attrs.items = rw c.in_ok-insert-in-Ok.ensures.items refl in
    rw all (declaration_read c.args.bytes.now c.in-Ok.rest.now first (map written_of tail.attrs.items) tail.field-0-1 tail.rest.now
    (rw c.past_blanks.ensures at c.in-Ok.ensures) tail.ensures)
