use Rattle.watch_arena.proofs.LawLemmas.{never_fall}
use Rattle.watch_arena.proofs.laws.levels_never_fall.Goals as goal

pub returns : goal.returns
returns c = never_fall
