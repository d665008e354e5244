use Rattle.std.proofs.Common.{refl, sym}
use Rattle.railml_text.specs.Reading.{bytes_of}
use Rattle.railml_text.proofs.ValueLemmas.{SoFar-more, SoFar-all, SoFar-loose, piece_shorter, text_utf8}
use Rattle.railml_text.proofs.values.text_of_pieces.Goals as goal

pub loop-rest-smaller : goal.loop-rest-smaller
loop-rest-smaller c = piece_shorter c.loop-rest.rest.now (bytes_of c.in-Some.meaning) c.in-Some.after.now (sym c.in-Some.ensures)

pub loop-rest-preserved : goal.loop-rest-preserved
loop-rest-preserved c = rw c.in_ok-push-in-Some.ensures (SoFar-more c.args.value.now c.loop-rest.text.items c.loop-rest.rest.now (bytes_of c.in-Some.meaning)
    c.in-Some.after.now c.loop-rest.invariant (sym c.in-Some.ensures))

pub returns-in-None-clause-fault : goal.returns-in-None-clause-fault
returns-in-None-clause-fault c = (
  refl,
  SoFar-loose c.args.value.now c.loop-rest.text.items c.loop-rest.rest.now c.loop-rest.invariant
      (sym c.loop-rest-test.ensures) (sym c.in-None.ensures),
)

pub from_bytes-requires : goal.from_bytes-requires
from_bytes-requires c = rw c.deref.ensures.value (text_utf8 c.args.value.now c.loop-rest.text.items
    (SoFar-all c.args.value.now c.loop-rest.text.items c.loop-rest.rest.now c.loop-rest.invariant (sym c.loop-rest-test.ensures)) c.requires)

pub returns-clause-text : goal.returns-clause-text
returns-clause-text c = rw (c.in_ok-from_bytes.ensures, c.deref.ensures.value) (SoFar-all c.args.value.now c.loop-rest.text.items c.loop-rest.rest.now
    c.loop-rest.invariant (sym c.loop-rest-test.ensures))
