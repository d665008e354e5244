use Rattle.std.proofs.Common.{subst, sym}
use Rattle.std.specs.Prelude.{ℤ}
use Rattle.railml_faults.specs.Rows.{HasPosition}
use Rattle.railml_topology.proofs.PositionLemmas.{inner_read, word_is}
use Rattle.railml_topology.proofs.order.standing_at.Goals as goal

pub position_of-requires : goal.position_of-requires
position_of-requires c = record {
  there = (inner_read c.args.rows.now c.requires.sound c.args.number c.requires.inner c.index-rows-number.result c.index-rows-number.is).1;
}

pub returns-clause-standing : goal.returns-clause-standing
returns-clause-standing c =
    let read = inner_read c.args.rows.now c.requires.sound c.args.number c.requires.inner c.index-rows-number.result c.index-rows-number.is in
    record {
      row = c.index-rows-number.result;
      is = read.0;
      position = subst (λ (v : ℤ). HasPosition c.index-rows-number.result v) (sym (word_is c.position_of.result c.position_of.ensures.within))
          c.position_of.ensures.reads;
    }
