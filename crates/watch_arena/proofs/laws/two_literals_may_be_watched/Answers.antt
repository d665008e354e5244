use Rattle.watch_arena.proofs.LawLemmas.{may_open, may_held, may_asserted}
use Rattle.watch_arena.proofs.laws.two_literals_may_be_watched.Goals as goal

pub returns-clause-open_ : goal.returns-clause-open_
returns-clause-open_ c = may_open

pub returns-clause-held : goal.returns-clause-held
returns-clause-held c = may_held

pub returns-clause-asserted : goal.returns-clause-asserted
returns-clause-asserted c = may_asserted
