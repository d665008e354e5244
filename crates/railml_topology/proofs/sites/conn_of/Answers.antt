use Rattle.std.proofs.Common.{◌≡◌, ℕ, List, Option, Some, refl, subst, sym}
use Rattle.railml_read.specs.declared.rows.ElemKind.TheVariants.{Connection}
use Rattle.plan_core.specs.declared.topology.Conn.{Conn}
use Rattle.railml_faults.specs.Tables.{entry_in}
use Rattle.railml_topology.proofs.SiteLemmas.{target_there, target_is, target_kind, conn_made, id_there, bears_by_kind}
use Rattle.railml_topology.proofs.sites.conn_of.Goals as goal

pub sure_entry-requires : goal.sure_entry-requires
sure_entry-requires c = record {
  there = subst (λ (v : List (Option ℕ)). (j : ℕ) × (entry_in v c.args.number ≡ Some j)) (sym c.deref.ensures.value)
      (target_there c.args.site.now.rows.now c.requires.ready.sound c.args.site.now.tables.now.targets.items c.requires.ready.tables.targets c.args.number
      c.requires.a_connection);
}

pub place_of-to-requires-clause-a_connection : goal.place_of-to-requires-clause-a_connection
place_of-to-requires-clause-a_connection c =
    target_kind c.args.site.now.rows.now c.row_at-row.result.now c.sure_entry.result
    (target_is c.args.site.now.rows.now c.args.site.now.tables.now.targets.items c.requires.ready.tables.targets c.args.number c.sure_entry.result
    c.row_at-row.result.now c.row_at-row.ensures
    (subst (λ (v : List (Option ℕ)). entry_in v c.args.number ≡ Some c.sure_entry.result) c.deref.ensures.value c.sure_entry.ensures))

pub copied-requires : goal.copied-requires
copied-requires c =
    id_there c.args.site.now.rows.now c.requires.ready.sound c.args.number c.row_at-row.result.now c.row_at-row.ensures
    (bears_by_kind c.args.site.now.rows.now Connection c.args.number c.row_at-row.result.now refl c.requires.a_connection c.row_at-row.ensures)

pub returns : goal.returns
returns c =
    let conn : Conn = record { id = c.in_ok-id.id; at = c.row_at-row.result.now.at; to = c.place_of-to.result } in
    conn_made c.args.site.now.rows.now c.args.site.now.layouts.now c.args.number c.row_at-row.result.now c.sure_entry.result conn c.row_at-row.ensures
    c.in_ok-id.ensures refl
    (target_is c.args.site.now.rows.now c.args.site.now.tables.now.targets.items c.requires.ready.tables.targets c.args.number c.sure_entry.result
    c.row_at-row.result.now c.row_at-row.ensures
    (subst (λ (v : List (Option ℕ)). entry_in v c.args.number ≡ Some c.sure_entry.result) c.deref.ensures.value c.sure_entry.ensures))
    c.place_of-to.ensures
