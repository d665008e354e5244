use Rattle.std.proofs.Common.{◌≡◌, true, ℕ, List, subst, sym, inl, inr, All}
use Rattle.railml_read.specs.declared.rows.ElemKind.TheVariants.{Begin}
use Rattle.railml_faults.proofs.Family.{within_of_kind}
use Rattle.railml_topology.specs.Plans.{is_inner as passes_inner}
use Rattle.railml_topology.proofs.PlaceLemmas.{inner_all}
use Rattle.railml_topology.proofs.BuildLemmas.{begin_kind, end_kind, begin_start, track_id}
use Rattle.railml_topology.proofs.building.track_of.Goals as goal

pub row_at-begin-requires : goal.row_at-begin-requires
row_at-begin-requires c = within_of_kind c.args.site.now.rows.now Begin c.args.layout.now.begin
    (begin_kind c.args.site.now.rows.now c.args.layout.now c.requires.laid)

pub copied-requires : goal.copied-requires
copied-requires c = track_id c.args.site.now.rows.now c.requires.ready.sound c.args.layout.now.track c.row_at-row.result.now c.requires.a_track
    c.row_at-row.ensures

pub end_of-requires-clause-start : goal.end_of-requires-clause-start
end_of-requires-clause-start c = begin_start c.args.site.now.rows.now c.requires.ready.sound c.args.layout.now.begin c.row_at-begin.result.now
    (begin_kind c.args.site.now.rows.now c.args.layout.now c.requires.laid) c.row_at-begin.ensures

pub end_of-requires-clause-an_end : goal.end_of-requires-clause-an_end
end_of-requires-clause-an_end c = inl (begin_kind c.args.site.now.rows.now c.args.layout.now c.requires.laid)

pub end_of-requires-2-clause-start : goal.end_of-requires-2-clause-start
end_of-requires-2-clause-start c = begin_start c.args.site.now.rows.now c.requires.ready.sound c.args.layout.now.begin c.row_at-begin.result.now
    (begin_kind c.args.site.now.rows.now c.args.layout.now c.requires.laid) c.row_at-begin.ensures

pub end_of-requires-2-clause-an_end : goal.end_of-requires-2-clause-an_end
end_of-requires-2-clause-an_end c = inr (end_kind c.args.site.now.rows.now c.args.layout.now c.requires.laid)

pub inner_list-requires-clause-start : goal.inner_list-requires-clause-start
inner_list-requires-clause-start c = begin_start c.args.site.now.rows.now c.requires.ready.sound c.args.layout.now.begin c.row_at-begin.result.now
    (begin_kind c.args.site.now.rows.now c.args.layout.now c.requires.laid) c.row_at-begin.ensures

pub inner_list-requires-clause-all_inner : goal.inner_list-requires-clause-all_inner
inner_list-requires-clause-all_inner c =
    subst (λ (v : List ℕ). All (λ i. passes_inner c.args.site.now.rows.now i ≡ true) v) (sym c.as_slice.ensures)
    (inner_all c.args.site.now.rows.now c.args.layout.now c.requires.laid)
