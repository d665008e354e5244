use Rattle.std.proofs.Common.{ℕ, ◌+◌, List, take, subst}
use Rattle.std.specs.Io.KnownBytes.{Appends}
use Rattle.outside_io.proofs.StreamLemmas.{Appends-more, drop-piece}
use Rattle.outside_io.proofs.streams.write_whole.Goals as goal

pub loop-rest-preserved : goal.loop-rest-preserved
loop-rest-preserved g c =
    let before = c.loop-rest.invariant in
    record {
      done = before.done + c.in-Ok.taken;
      left = drop-piece _ c.args.bytes.now before.done c.in-Ok.taken before.left;
      written =
          Appends-more _ _ _ c.args.bytes.now before.done c.in-Ok.taken before.written
          (subst (λ (rest : List ℕ). Appends (g.W.Write.contents c.loop-rest.out) (g.W.Write.contents c.write_once.new.out) (take c.in-Ok.taken rest))
          before.left c.in-Ok.ensures.bytes);
    }
