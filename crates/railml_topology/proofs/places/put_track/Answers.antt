use Rattle.std.proofs.Common.{◌≡◌, ◌<◌, ◌^◌, true, ℕ, List, Option, Some, length, subst, sym, ◌∙◌, All}
use Rattle.plan_core.specs.declared.topology.Part.TheVariants as parts
use Rattle.railml_faults.specs.Tables.{entry_in}
use Rattle.railml_topology.specs.Plans.{is_inner as passes_inner}
use Rattle.railml_topology.specs.Places.{Adds, IsOnFirst}
use Rattle.railml_topology.proofs.PlaceLemmas.{AtEnd, at_part, entry_within, track_put, inner_all, inner_few}
use Rattle.railml_topology.proofs.places.put_track.Goals as goal

pub put_end-requires : goal.put_end-requires
put_end-requires c = λ i e. subst (λ n. i < n) (sym c.requires.whole)
    (entry_within c.args.rows.now c.args.tables.now c.requires.tables c.args.layout.now.begin i
    (subst (λ (v : List (Option ℕ)). entry_in v c.args.layout.now.begin ≡ Some i) c.deref.ensures.value e))

pub put_end-requires-2 : goal.put_end-requires-2
put_end-requires-2 c = λ i e. subst (λ n. i < n) (sym (c.put_end.ensures.whole ∙ c.requires.whole))
    (entry_within c.args.rows.now c.args.tables.now c.requires.tables c.args.layout.now.end i
    (subst (λ (v : List (Option ℕ)). entry_in v c.args.layout.now.end ≡ Some i) c.deref-2.ensures.value e))

pub put_all_inner-requires-clause-all_inner : goal.put_all_inner-requires-clause-all_inner
put_all_inner-requires-clause-all_inner c =
    subst (λ (v : List ℕ). All (λ i. passes_inner c.args.rows.now i ≡ true) v) (sym c.as_slice.ensures)
    (inner_all c.args.rows.now c.args.layout.now c.requires.laid)

pub put_all_inner-requires-clause-few : goal.put_all_inner-requires-clause-few
put_all_inner-requires-clause-few c =
    subst (λ (v : List ℕ). length v < 2 ^ 32) (sym c.as_slice.ensures) (inner_few c.args.rows.now c.requires.sound c.args.layout.now c.requires.laid)

pub returns : goal.returns
returns c =
    let one : Adds (AtEnd c.args.tables.now.connections.items c.args.layout.now.begin (at_part c.args.track parts.Begin)) c.args.table.now.items
    c.put_end.new.table.items =
    subst (λ (v : List (Option ℕ)). Adds (AtEnd v c.args.layout.now.begin (at_part c.args.track parts.Begin)) c.args.table.now.items c.put_end.new.table.items)
    c.deref.ensures.value c.put_end.ensures in
    let two : Adds (AtEnd c.args.tables.now.connections.items c.args.layout.now.end (at_part c.args.track parts.End)) c.put_end.new.table.items
    c.put_end-2.new.table.items =
    subst (λ (v : List (Option ℕ)). Adds (AtEnd v c.args.layout.now.end (at_part c.args.track parts.End)) c.put_end.new.table.items c.put_end-2.new.table.items)
    c.deref-2.ensures.value c.put_end-2.ensures in
    let three : Adds (IsOnFirst c.args.rows.now c.args.track c.args.layout.now.inner (length c.args.layout.now.inner)) c.put_end-2.new.table.items
    c.put_all_inner.new.table.items =
    subst (λ (v : List ℕ). Adds (IsOnFirst c.args.rows.now c.args.track v (length v)) c.put_end-2.new.table.items c.put_all_inner.new.table.items)
    c.as_slice.ensures c.put_all_inner.ensures in
    track_put c.args.rows.now c.args.tables.now c.requires.tables c.args.track c.args.layout.now c.requires.laid c.args.table.now.items
    c.put_end.new.table.items c.put_end-2.new.table.items c.put_all_inner.new.table.items one two three
