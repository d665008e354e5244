use Rattle.std.proofs.Common.{◌≡◌, ℕ, List, Option, Some, subst, sym}
use Rattle.railml_faults.specs.Tables.{entry_in}
use Rattle.railml_topology.proofs.LayoutLemmas.{topology_entry, begin_entry, end_entry, topology_found}
use Rattle.railml_topology.proofs.layout.layout_of.Goals as goal

pub sure_entry-topology-requires : goal.sure_entry-topology-requires
sure_entry-topology-requires c = record {
  there = subst (λ (v : List (Option ℕ)). (k : ℕ) × (entry_in v c.args.track ≡ Some k)) (sym c.deref.ensures.value)
      (topology_entry c.args.rows.now c.requires.sound c.args.tables.now c.requires.tables c.args.track c.requires.a_track);
}

pub sure_entry-begin-requires : goal.sure_entry-begin-requires
sure_entry-begin-requires c =
    let topology : entry_in c.args.tables.now.topologies.items c.args.track ≡ Some c.sure_entry-topology.result = subst
    (λ (v : List (Option ℕ)). entry_in v c.args.track ≡ Some c.sure_entry-topology.result) c.deref.ensures.value c.sure_entry-topology.ensures in
    record {
      there = subst (λ (v : List (Option ℕ)). (k : ℕ) × (entry_in v c.sure_entry-topology.result ≡ Some k)) (sym c.deref-2.ensures.value)
          (begin_entry c.args.rows.now c.requires.sound c.args.tables.now c.requires.tables c.args.track c.sure_entry-topology.result c.requires.a_track
          topology);
    }

pub sure_entry-end-requires : goal.sure_entry-end-requires
sure_entry-end-requires c =
    let topology : entry_in c.args.tables.now.topologies.items c.args.track ≡ Some c.sure_entry-topology.result = subst
    (λ (v : List (Option ℕ)). entry_in v c.args.track ≡ Some c.sure_entry-topology.result) c.deref.ensures.value c.sure_entry-topology.ensures in
    record {
      there = subst (λ (v : List (Option ℕ)). (k : ℕ) × (entry_in v c.sure_entry-topology.result ≡ Some k)) (sym c.deref-3.ensures.value)
          (end_entry c.args.rows.now c.requires.sound c.args.tables.now c.requires.tables c.args.track c.sure_entry-topology.result c.requires.a_track
          topology);
    }

pub inner_rows-requires-clause-within : goal.inner_rows-requires-clause-within
inner_rows-requires-clause-within c =
    let topology : entry_in c.args.tables.now.topologies.items c.args.track ≡ Some c.sure_entry-topology.result = subst
    (λ (v : List (Option ℕ)). entry_in v c.args.track ≡ Some c.sure_entry-topology.result) c.deref.ensures.value c.sure_entry-topology.ensures in
    (topology_found c.args.rows.now c.requires.sound c.args.tables.now c.requires.tables c.args.track c.sure_entry-topology.result c.requires.a_track
    topology).within
