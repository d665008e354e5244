-- A law to choose, as the code has it.
use Rattle.std.specs.Prelude.{◌<◌, length}
use Rattle.plan_core.specs.Graph.{Graph}
use Rattle.plan_core.specs.Lawful.{Instance, Ordered, Aligned, Apart, Over, Parted}
use Rattle.law_core.specs.declared.parties.Law.{Law}
use Rattle.law_core.specs.declared.parties.Law.TheVariants as law

-- the law as `plan_core` has it
abbrev pub instance_of : Law → Instance
instance_of (law.Ordered u v) = Ordered u.0 v.0
instance_of (law.Aligned n) = Aligned n.0
instance_of (law.Apart u v) = Apart u.0 v.0
instance_of (law.Over e f) = Over e.0 f.0
instance_of (law.Parted e f) = Parted e.0 f.0

-- the parties are there
abbrev pub HasParties : Graph → Law → Type 0
HasParties g (law.Ordered u v) = (u.0 < length g.nodes) × (v.0 < length g.nodes)
HasParties g (law.Aligned n) = n.0 < length g.nodes
HasParties g (law.Apart u v) = (u.0 < length g.nodes) × (v.0 < length g.nodes)
HasParties g (law.Over e f) = (e.0 < length g.edges) × (f.0 < length g.edges)
HasParties g (law.Parted e f) = (e.0 < length g.edges) × (f.0 < length g.edges)
