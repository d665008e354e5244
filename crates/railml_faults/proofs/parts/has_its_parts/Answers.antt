use Rattle.std.proofs.Common.{◌==◌, length, is_some, ap, ◌∙◌}
use Rattle.railml_read.specs.declared.rows.ElemKind.TheVariants.{Track, Switch}
use Rattle.railml_faults.specs.Tables.{entry_in}
use Rattle.railml_faults.proofs.PartLemmas.{whole_track, whole_track_by, list_is, one_part, one_connection_part, tells_at, tells_at_either}
use Rattle.railml_faults.proofs.parts.has_its_parts.Goals as goal

pub returns-in-Track : goal.returns-in-Track
returns-in-Track c =
    let rows = c.args.rows.now in
    let t = c.args.tables.now in
    let i = c.args.i in
    let whole = c.is_whole_track in
    tells_at rows i whole.result c.args.kind Track c.in-Track.is (
      λ h. whole_track rows t i c.requires.tables c.requires.within (whole.ensures.0 h),
      λ
          w. whole.ensures.1 (whole_track_by rows t i c.requires.tables c.requires.within w),
    )

pub returns-in-Begin : goal.returns-in-Begin
returns-in-Begin c =
    let rows = c.args.rows.now in
    let i = c.args.i in
    let list = c.children_of.result.now in
    tells_at_either rows i (length list == 1) c.args.kind c.in-Begin.is (one_part rows i list
    (list_is rows c.args.tables.now.children.items i list c.requires.tables.children c.children_of.ensures))

pub returns-in-Switch : goal.returns-in-Switch
returns-in-Switch c =
    let rows = c.args.rows.now in
    let i = c.args.i in
    tells_at rows i c.is_some.result c.args.kind Switch c.in-Switch.is (one_connection_part rows c.args.tables.now i c.is_some.result c.requires.tables
    c.requires.within (c.is_some.ensures ∙ ap is_some (c.entry.ensures ∙ ap (λ l. entry_in l i) c.deref.ensures.value)))
