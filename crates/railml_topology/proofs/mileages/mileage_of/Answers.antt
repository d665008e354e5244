use Rattle.std.proofs.Common.{sym, ◌∙◌}
use Rattle.railml_topology.proofs.BuildLemmas.{mileage_text, own_mileage, measured_mileage}
use Rattle.railml_topology.proofs.mileages.mileage_of.Goals as goal

pub metres_in-requires : goal.metres_in-requires
metres_in-requires c = record { there = mileage_text c.args.row.now c.requires.numbers (sym c.is_some.ensures ∙ c.if-is_some.true) }

pub returns-then-is_some : goal.returns-then-is_some
returns-then-is_some c = own_mileage c.args.begin.now c.args.row.now c.metres_in.result (sym c.is_some.ensures ∙ c.if-is_some.true) c.metres_in.ensures.reads
    c.metres_in.ensures.within

pub returns : goal.returns
returns c = measured_mileage c.args.begin.now c.args.row.now c.metres_in-2.result c.position_of.result c.position_of-2.result c.requires.start
    (sym c.is_some.ensures ∙ c.if-is_some.false)
    c.metres_in-2.ensures.reads c.position_of.ensures.reads c.position_of-2.ensures.reads c.metres_in-2.ensures.within c.position_of.ensures.within
    c.position_of-2.ensures.within
