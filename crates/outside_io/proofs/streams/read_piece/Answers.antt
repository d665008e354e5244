use Rattle.std.proofs.Common.{◌≡◌, take, length, arith, sym, ◌∙◌}
use Rattle.outside_io.proofs.StreamLemmas.{take-lengthened, take-read_in_place}
use Rattle.outside_io.proofs.streams.read_piece.Goals as goal

-- what the read put behind the list's own bytes is what it took from the source
pub returns-in-Ok-clause-ok : goal.returns-in-Ok-clause-ok
returns-in-Ok-clause-ok g c =
    let read = c.in-Ok.ensures in
    let is_start : c.len-start.result ≡ length c.args.into.now.items = omega (arith, c.args.into.now.ok.0) in
    let is_long = c.in_ok-resize.ensures.len in
    let kept : take c.len-start.result c.deref_mut.result.now ≡ c.args.into.now.items =
    take-lengthened c.args.into.now.items _ _ _ c.len-start.result c.args.most is_start c.in_ok-resize.ensures.items c.deref_mut.ensures.value
    in
    record {
      bytes = take c.in-Ok.came c.read_once.new.buf;
      count = sym read.bound.1;
      within = omega (arith, is_long);
      added = c.truncate.ensures.items ∙ take-read_in_place c.args.into.now.items c.deref_mut.result.now c.read_once.new.buf _ _ c.len-start.result c.in-Ok.came
          _ is_start kept read.bound.0 (omega (arith, is_long));
      taken = read.bytes.0;
      at_end = λ none. read.bytes.1 none (omega (arith, is_long));
    }
