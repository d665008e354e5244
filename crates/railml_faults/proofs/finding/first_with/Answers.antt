use Rattle.std.proofs.Common.{subst, arith}
use Rattle.railml_faults.specs.declared.fault.TopologyWhat.{TopologyWhat}
use Rattle.railml_faults.specs.declared.fault.TopologyWhat.TheVariants as kinds
use Rattle.railml_faults.specs.Faults.{number_of}
use Rattle.railml_faults.specs.Telling.{HasNoneBelow}
use Rattle.railml_faults.proofs.FaultLemmas.{of_this_kind, finds_bad_id, finds_bad_number, finds_course, finds_end_kind, finds_missing, finds_not_mutual}
use Rattle.railml_faults.proofs.FaultLemmas.{finds_orientation, finds_outside, finds_repeated, finds_self_ref, finds_too_many, finds_unknown_ref, ids_distinct}
use Rattle.railml_faults.proofs.finding.first_with.Goals as goal

pub first_not_mutual-requires-clause-distinct : goal.first_not_mutual-requires-clause-distinct
first_not_mutual-requires-clause-distinct c =
    let rows = c.args.rows.now in
    let lower : HasNoneBelow rows (number_of kinds.NotMutual) = subst (λ (what : TopologyWhat). HasNoneBelow rows (number_of what)) c.in-NotMutual.is
    c.requires.lower in
    ids_distinct rows (lower.none kinds.RepeatedId (omega arith))

pub returns-in-RepeatedId : goal.returns-in-RepeatedId
returns-in-RepeatedId c = of_this_kind c.args.rows.now c.args.what kinds.RepeatedId c.args.tables.now.repeated c.in-RepeatedId.is
    (finds_repeated c.args.rows.now c.args.tables.now.repeated c.requires.tables.repeated)

pub returns-in-TooMany : goal.returns-in-TooMany
returns-in-TooMany c = of_this_kind c.args.rows.now c.args.what kinds.TooMany c.track_at.result c.in-TooMany.is
    (finds_too_many c.args.rows.now c.track_at.result c.track_at.ensures)

pub returns-in-Missing : goal.returns-in-Missing
returns-in-Missing c = of_this_kind c.args.rows.now c.args.what kinds.Missing c.first_missing.result c.in-Missing.is
    (finds_missing c.args.rows.now c.first_missing.result c.first_missing.ensures)

pub returns-in-Id : goal.returns-in-Id
returns-in-Id c = of_this_kind c.args.rows.now c.args.what kinds.Id c.first_bad_id.result c.in-Id.is
    (finds_bad_id c.args.rows.now c.first_bad_id.result c.first_bad_id.ensures)

pub returns-in-Number : goal.returns-in-Number
returns-in-Number c = of_this_kind c.args.rows.now c.args.what kinds.Number c.first_bad_number.result c.in-Number.is
    (finds_bad_number c.args.rows.now c.first_bad_number.result c.first_bad_number.ensures)

pub returns-in-UnknownRef : goal.returns-in-UnknownRef
returns-in-UnknownRef c = of_this_kind c.args.rows.now c.args.what kinds.UnknownRef c.first_unknown_ref.result c.in-UnknownRef.is
    (finds_unknown_ref c.args.rows.now c.first_unknown_ref.result c.first_unknown_ref.ensures)

pub returns-in-NotMutual : goal.returns-in-NotMutual
returns-in-NotMutual c = of_this_kind c.args.rows.now c.args.what kinds.NotMutual c.first_not_mutual.result c.in-NotMutual.is
    (finds_not_mutual c.args.rows.now c.first_not_mutual.result c.first_not_mutual.ensures)

pub returns-in-SelfRef : goal.returns-in-SelfRef
returns-in-SelfRef c = of_this_kind c.args.rows.now c.args.what kinds.SelfRef c.first_self_ref.result c.in-SelfRef.is
    (finds_self_ref c.args.rows.now c.first_self_ref.result c.first_self_ref.ensures)

pub returns-in-EndKind : goal.returns-in-EndKind
returns-in-EndKind c = of_this_kind c.args.rows.now c.args.what kinds.EndKind c.first_without_parts.result c.in-EndKind.is
    (finds_end_kind c.args.rows.now c.first_without_parts.result c.first_without_parts.ensures)

pub returns-in-Course : goal.returns-in-Course
returns-in-Course c = of_this_kind c.args.rows.now c.args.what kinds.Course c.first_bad_course.result c.in-Course.is
    (finds_course c.args.rows.now c.first_bad_course.result c.first_bad_course.ensures)

pub returns-in-Orientation : goal.returns-in-Orientation
returns-in-Orientation c = of_this_kind c.args.rows.now c.args.what kinds.Orientation c.first_bad_orientation.result c.in-Orientation.is
    (finds_orientation c.args.rows.now c.first_bad_orientation.result c.first_bad_orientation.ensures)

pub returns-in-OutsideTrack : goal.returns-in-OutsideTrack
returns-in-OutsideTrack c = of_this_kind c.args.rows.now c.args.what kinds.OutsideTrack c.first_outside.result c.in-OutsideTrack.is
    (finds_outside c.args.rows.now c.first_outside.result c.first_outside.ensures)
