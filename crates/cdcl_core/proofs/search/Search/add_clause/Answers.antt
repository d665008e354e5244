use Rattle.refute_log.specs.Told.{Lines}
use Rattle.cdcl_core.specs.Belongs.{BelongsTo}
use Rattle.cdcl_core.specs.Search.{clauses}
use Rattle.cdcl_core.proofs.LeftLemmas.{most_same}
use Rattle.cdcl_core.proofs.RoundLemmas.{still_same}
use Rattle.cdcl_core.proofs.search.Search.add_clause.Goals as goal

pub returns-else-has_room-clause-derives : goal.returns-else-has_room-clause-derives
returns-else-has_room-clause-derives g c = still_same (g.L.LogSink.tells c.args.log.now)
    (λ (lines : Lines). BelongsTo lines (clauses c.args.self.now) c.args.self.now.words) (g.met.L.LogSink.one_reading c.args.log.now) (λ lines b. b.derives)

pub returns-else-has_room-clause-gives : goal.returns-else-has_room-clause-gives
returns-else-has_room-clause-gives g c = most_same (g.L.LogSink.tells c.args.log.now) c.args.lits.now (g.met.L.LogSink.one_reading c.args.log.now)
