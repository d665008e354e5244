use Rattle.cdcl_core.proofs.search.Search.refutation.Goals as goal

pub traced-requires-clause-denied : goal.traced-requires-clause-denied
traced-requires-clause-denied c = rw c.in-Denied.is at c.requires.stop

pub all_denied-requires-clause-clash : goal.all_denied-requires-clause-clash
all_denied-requires-clause-clash c = (rw c.in-Clash.is at c.requires.stop).0

pub all_denied-requires-clause-low : goal.all_denied-requires-clause-low
all_denied-requires-clause-low c = (rw c.in-Clash.is at c.requires.stop).1

pub from_vec-requires : goal.from_vec-requires
from_vec-requires c = absurd (rw c.in-Complete.is at c.requires.stop)

pub returns-in-Complete-clause-needed : goal.returns-in-Complete-clause-needed
returns-in-Complete-clause-needed c = absurd (rw c.in-Complete.is at c.requires.stop)

pub returns-in-Complete-clause-refuting : goal.returns-in-Complete-clause-refuting
returns-in-Complete-clause-refuting c = absurd (rw c.in-Complete.is at c.requires.stop)

pub returns-in-Complete-clause-there : goal.returns-in-Complete-clause-there
returns-in-Complete-clause-there c = absurd (rw c.in-Complete.is at c.requires.stop)

pub returns-in-Complete-clause-distinct : goal.returns-in-Complete-clause-distinct
returns-in-Complete-clause-distinct c = absurd (rw c.in-Complete.is at c.requires.stop)
