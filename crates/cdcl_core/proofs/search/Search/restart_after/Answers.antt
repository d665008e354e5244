use Rattle.cdcl_core.proofs.StoreLemmas.{store_itself}
use Rattle.cdcl_core.proofs.search.Search.restart_after.Goals as goal

pub returns-else-told-clause-store : goal.returns-else-told-clause-store
returns-else-told-clause-store c = store_itself c.args.self.now
