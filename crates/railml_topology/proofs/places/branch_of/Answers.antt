use Rattle.std.proofs.Common.{◌≡◌, ℕ, List, Option, Some, subst, sym}
use Rattle.railml_faults.specs.Tables.{entry_in}
use Rattle.railml_topology.proofs.PlaceLemmas.{branch_entry, branch_found}
use Rattle.railml_topology.proofs.places.branch_of.Goals as goal

pub sure_entry-requires : goal.sure_entry-requires
sure_entry-requires c = record {
  there = subst (λ (v : List (Option ℕ)). (k : ℕ) × (entry_in v c.args.switch ≡ Some k)) (sym c.deref.ensures.value)
      (branch_entry c.args.rows.now c.requires.sound c.args.tables.now c.requires.tables c.args.switch c.requires.a_switch);
}

pub returns : goal.returns
returns c = branch_found c.args.rows.now c.args.tables.now c.requires.tables c.args.switch c.sure_entry.result c.requires.a_switch
    (subst (λ (v : List (Option ℕ)). entry_in v c.args.switch ≡ Some c.sure_entry.result) c.deref.ensures.value c.sure_entry.ensures)
