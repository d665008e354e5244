use Rattle.std.proofs.Common.{◌≡◌, drop, slice_get}
use Rattle.railml_read.specs.declared.rows.ElemKind.TheVariants.{Track}
use Rattle.railml_faults.specs.Rows.{same_kind, numbers_from, track_rows}
use Rattle.railml_faults.proofs.tracks.track_at.Given as goal

abbrev pub invariant-loop-i : goal.invariant-loop-i
invariant-loop-i l = slice_get (numbers_from (λ row. same_kind row.kind Track) l.i (drop l.i l.rows)) l.left ≡ slice_get (track_rows l.rows) l.number
