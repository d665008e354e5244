use Rattle.watch_arena.proofs.LawLemmas.{undone_low}
use Rattle.watch_arena.proofs.laws.undone_leaves_levels_up_to.Goals as goal

pub returns : goal.returns
returns c = undone_low
