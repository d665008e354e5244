use Rattle.edge_shape.proofs.AccessLemmas.{up_reads, down_reads, bend_reads}
use Rattle.edge_shape.proofs.laws.accessors_read_the_line.Goals as goal

pub returns-clause-in_range : goal.returns-clause-in_range
returns-clause-in_range c = λ v e line x r le. r.inside x le

pub returns-clause-up : goal.returns-clause-up
returns-clause-up c = up_reads

pub returns-clause-down : goal.returns-clause-down
returns-clause-down c = down_reads

pub returns-clause-bend : goal.returns-clause-bend
returns-clause-bend c = bend_reads

pub returns-clause-height : goal.returns-clause-height
returns-clause-height c = λ v e line x r le. r.height x le
